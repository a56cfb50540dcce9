-- `truth_from` fills the first places with bits, as many as the assignment has from `at` on but at most n, and leaves 0 at the others;
-- whichever way it goes, `at` is one before `first`.
use Prim.Native.Nat.{◌+◌}
use Rattle.interval.specs.Limits.{max_count}
use lib.ListN.{length}
use Rattle.lists.proofs.Fill.{Upto}
use Rattle.paper_meaning.specs.Meaning.{bit}
use Rattle.truth_table.specs.Table.{high_at}
use Rattle.extend_truths.proofs.truth_from.Given as goal

abbrev pub invariant-loop-e : goal.invariant-loop-e
invariant-loop-e l = Upto max_count (λ y. bit (high_at l.assignment (l.at + y))) (λ y. 0) (length l.yielded) l.t
