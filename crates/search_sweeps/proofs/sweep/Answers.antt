-- The nodes, then the root, whose clause is that of a constant.
-- Together they are the table.
use mathlib.Core.Path.{sym, ap, subst}
use Prim.Native.Nat.{ℕ, ◌+◌}
use Rattle.table_gates.specs.Mentioned.{Variable}
use Rattle.search_patterns.proofs.Steps.{there}
use Rattle.search_sweeps.proofs.Table.{nodes_clash, nodes_root}
use Rattle.search_sweeps.proofs.sweep.Goals as goal

pub sweep_nodes-r-requires : goal.sweep_nodes-r-requires
sweep_nodes-r-requires c = record { limits = c.requires.limits; by_index = c.requires.by_index }

pub returns-then-r : goal.returns-then-r
returns-then-r c = nodes_clash _ _ _ _ _ _ _ c.sweep_nodes-r.ensures c.if-r.true

pub seat-requires : goal.seat-requires
seat-requires c = (c.requires.limits.1, c.requires.limits.3)

pub visit-requires : goal.visit-requires
visit-requires c =
    let k = c.args.wiring.now.k in
    let root = subst (Variable _) (sym (ap (λ (n : ℕ). n + k) c.seat.ensures.0)) c.requires.variable in
    (c.sweep_nodes-r.ensures.grown.trailing, there c.sweep_nodes-r.auto.values root, tt, tt)

pub returns : goal.returns
returns c =
    let k = c.args.wiring.now.k in
    nodes_root _ _ _ _ _ _ _ c.sweep_nodes-r.ensures c.if-r.false (ap (λ (n : ℕ). n + k) c.seat.ensures.0) c.visit.ensures
