-- `beyond` gathers what each place has that the other row lacks:
-- it stays 0 only where no place adds anything.
use lib.ListN.{length}
use Rattle.truth_skips.proofs.Skip.{NoneBeyond}
use Rattle.truth_skips.proofs.beyond.Given as goal

abbrev pub invariant-loop-a : goal.invariant-loop-a
invariant-loop-a l = NoneBeyond l.row l.other (length l.yielded) l.more
