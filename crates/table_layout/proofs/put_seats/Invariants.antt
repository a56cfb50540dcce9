-- Row after row has its seat put down, and those put down before stay.
use Rattle.table_layout.specs.Rows.{Seated}
use Rattle.table_layout.proofs.put_seats.Given as goal

abbrev pub invariant-loop-y : goal.invariant-loop-y
invariant-loop-y l = Seated l.kinds l.numbers l.firsts l.k l.seats l.y
