-- `next_rows` goes from the last row up: a row whose next one has nothing beyond it shares that row's next,
-- since what is within that row is within it too (Skip.antt).
use Rattle.truth_skips.proofs.Skip.{Skipping}
use Rattle.truth_skips.proofs.next_rows.Given as goal

abbrev pub invariant-loop-l : goal.invariant-loop-l
invariant-loop-l l = Skipping l.k l.q l.l l.at l.nexts
