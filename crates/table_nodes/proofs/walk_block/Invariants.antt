-- The gate at the cursor is that of the definition in its place,
-- whose clauses the turn writes (Walk.antt).
use Prim.Native.Nat.{◌-◌}
use Rattle.table_nodes.specs.Walk.{Walked}
use Rattle.table_nodes.proofs.walk_block.Given as goal

abbrev pub invariant-loop-cursor : goal.invariant-loop-cursor
invariant-loop-cursor l = Walked l.c l.k l.block l.initial.variables l.initial.marks l.at l.variables l.marks l.cursor l.b

abbrev pub decreases-loop-cursor : goal.decreases-loop-cursor
decreases-loop-cursor l = l.cursor.end - l.cursor.place
