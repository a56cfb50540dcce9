-- The nodes' clauses are asked about first, numbered by the sums along the node table;
-- then comes the root's, whose number is the sum of all (Table.antt).
use Rattle.std.proofs.lemmas.Result.{err_from_is_err_and}
use Rattle.check_calls.proofs.Table.{row_number, nodes_unmet, root_met, root_unmet}
use Rattle.paper_assignments.specs.Extension.{value_in}
use Rattle.table_sizes.specs.Weights.{weight_to}
use Rattle.table_sizes.specs.declared.Weight.{Weight}
use Rattle.table_sizes.proofs.Rows.{small, all_low}
use Rattle.table_layout.proofs.Measure.{zeros_low}
use mathlib.Core.Path.{refl, ap, ◌∙◌}
use Prim.Native.Nat.{◌+◌}
use native.Mathlib.Omega.{arith}
use Rattle.check_calls.proofs.ask_table.Goals as goal

pub sums-last-requires : goal.sums-last-requires
sums-last-requires c =
    let p = c.requires.c_le_max_channels in record { small = small c.clauses.ensures (omega arith) (omega arith) (omega arith) p.1; count_le_max_nodes = (p.2, omega arith, refl) }

pub ask_nodes-requires : goal.ask_nodes-requires
ask_nodes-requires c =
    let a = c.args in let p = c.requires.c_le_max_channels in
    let sums = c.sums-last.ensures in record { c_le_max_channels = (p.0, p.1, p.2, p.3, all_low sums zeros_low, c.put_rows.ensures); by_index = λ x h. sums.below x h ∙ ap (λ (w : Weight). 0 + weight_to w a.k a.table.kinds a.table.numbers x) c.clauses.ensures; all_mentioned = c.requires.all_mentioned.0 }

pub returns-in_err-ask_nodes : goal.returns-in_err-ask_nodes
returns-in_err-ask_nodes c =
    let p = err_from_is_err_and c.from_residual.result c.from_residual.ensures.1 in rw (p.1, p.2) (nodes_unmet _ _ _ c.ask_nodes.ensures c.in_err-ask_nodes.was)

pub seat-requires : goal.seat-requires
seat-requires c = let p = c.requires.c_le_max_channels in (p.1, p.3)

pub overflow_add-root : goal.overflow_add-root
overflow_add-root c = omega (arith, c.seat.ensures.1, c.requires.c_le_max_channels.1)

pub high-requires : goal.high-requires
high-requires c = omega (arith, c.requires.all_mentioned.1, c.seat.ensures.0)

pub returns-then-high : goal.returns-then-high
returns-then-high c =
    let a = c.args in
    root_met _ _ _ c.ask_nodes.ensures c.in_ok-ask_nodes.was
    (c.high.ensures ∙ ap (λ v. value_in a.assignment.now (v + a.k)) c.seat.ensures.0) c.if-high.true

pub returns : goal.returns
returns c =
    let a = c.args in
    let last = c.sums-last.ensures.total ∙ ap (λ (w : Weight). 0 + weight_to w a.k a.table.kinds a.table.numbers a.table.count) c.clauses.ensures in
    root_unmet _ _ _ c.ask_nodes.ensures c.in_ok-ask_nodes.was
    (c.high.ensures ∙ ap (λ v. value_in a.assignment.now (v + a.k)) c.seat.ensures.0) c.if-high.false
    (row_number a.c a.k a.table.kinds a.table.numbers a.table.sizes a.firsts.now a.table.count last)
