-- Node after node, each by its row's block.
-- The clauses of the first x nodes are visited after x turns.
use mathlib.Core.Path.{◌≡◌}
use mathlib.Core.Bool.{false}
use Prim.Native.Nat.{◌≤◌}
use lib.ListN.{length}
use Rattle.search_visits.specs.Visits.{Visited}
use Rattle.search_fanout.specs.Wiring.{nodes_in}
use Rattle.search_sweeps.proofs.sweep_nodes.Given as goal

abbrev pub invariant-loop-x : goal.invariant-loop-x
invariant-loop-x l =
    (length l.values ≡ length l.initial.values) × (length l.trail ≡ length l.initial.trail) × (l.x ≤ l.wiring.table.count)
    × Visited (nodes_in l.wiring l.x) l.initial.values l.initial.trail l.top l.values l.trail (record { clash = false; top = l.t })
