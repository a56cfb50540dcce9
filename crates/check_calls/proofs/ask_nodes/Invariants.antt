-- After x turns the clauses of the first x nodes are met;
-- a turn asks about the next node's, and the first no answers (Table.antt).
use Rattle.refusal.specs.Asked.{ok}
use Rattle.lists.specs.Listing.{rows}
use Rattle.table_layout.specs.Rows.{row_definitions}
use Rattle.paper_assignments.specs.Extension.{value_in}
use Rattle.paper_assignments.specs.Calls.{ask_clauses}
use Rattle.paper_clauses.specs.Clauses.{clauses_by}
use mathlib.Core.Path.{◌≡◌}
use Prim.Native.Nat.{◌-◌, ◌≤◌}
use Rattle.check_calls.proofs.ask_nodes.Given as goal

abbrev pub invariant-loop-x : goal.invariant-loop-x
invariant-loop-x l =
    (l.x ≤ l.table.count) × (ok ≡ ask_clauses (value_in l.assignment) 0 (clauses_by (rows l.x (row_definitions l.c l.k l.table.kinds l.table.numbers l.table.sizes l.firsts))))

abbrev pub decreases-loop-x : goal.decreases-loop-x
decreases-loop-x l = l.table.count - l.x
