-- `begun_rows` keeps: the rows so far, and those that begin at the bytes that are left, are all the rows.
-- A byte that begins no node changes nothing of them; at a first byte there is still room, since there are at most 64.
use Rattle.node_rows.proofs.Begun.{Begun}
use Rattle.node_rows.proofs.begun_rows.Given as goal

abbrev pub invariant-loop-i : goal.invariant-loop-i
invariant-loop-i l = Begun l.text l.table l.code l.i
