-- The gate at the cursor is that of the definition in its place: the first gate
-- with an unmet clause answers, and else the next clause's number is how many there were (Walk.antt).
use Prim.Native.Nat.{◌-◌}
use Rattle.table_blocks.specs.Blocks.{defined_by}
use Rattle.paper_assignments.specs.Extension.{value_in}
use Rattle.table_nodes.specs.Walk.{Walks}
use Rattle.check_clauses.proofs.Walk.{Met}
use Rattle.check_clauses.proofs.ask_block.Given as goal

abbrev pub invariant-loop-cursor : goal.invariant-loop-cursor
invariant-loop-cursor l = Walks l.k l.block l.cursor × Met (value_in l.assignment) l.n (defined_by l.c l.k l.block) l.m l.cursor.place

abbrev pub decreases-loop-cursor : goal.decreases-loop-cursor
decreases-loop-cursor l = l.cursor.end - l.cursor.place
