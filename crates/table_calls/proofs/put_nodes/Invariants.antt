-- After x turns the first x nodes are written;
-- a turn writes the places of the next node's own definitions (Written.antt of crate table_literals).
use Rattle.table_literals.specs.Written.{Sofar}
use Rattle.table_layout.specs.Rows.{row_places}
use Prim.Native.Nat.{◌-◌}
use Rattle.table_calls.proofs.put_nodes.Given as goal

abbrev pub invariant-loop-x : goal.invariant-loop-x
invariant-loop-x l =
    Sofar l.initial.variables l.initial.marks 0 (row_places l.c l.k l.table.kinds l.table.numbers l.table.sizes l.firsts) l.table.count l.variables l.marks l.at l.x

abbrev pub decreases-loop-x : goal.decreases-loop-x
decreases-loop-x l = l.table.count - l.x
