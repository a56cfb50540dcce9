-- `chop_row` goes on by one m where P is false on [i, m]; where it is true, it adds row m of Q's table and goes on at the next row
-- that has more, since those between add nothing (Chop.antt).
use Rattle.truth_chop.proofs.Chop.{Chopping}
use Prim.Native.Nat.{suc, ◌-◌}
use Rattle.truth_chop.proofs.chop_row.Given as goal

abbrev pub invariant-loop-d : goal.invariant-loop-d
invariant-loop-d l = Chopping l.k l.i l.start l.p l.q l.nexts l.d l.row

abbrev pub decreases-loop-d : goal.decreases-loop-d
decreases-loop-d l = suc l.k - l.i - l.d
