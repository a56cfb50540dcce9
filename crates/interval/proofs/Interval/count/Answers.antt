-- `Interval::count` is document 01's I as it stands.
-- Its product is at most that of the most steps, so it fits.
use native.Mathlib.Omega.{arith}
use borrow.Author.Rules.{rules}
use Rattle.interval.specs.Limits.{max_steps}
use Rattle.interval.specs.Places.{count_of}
use Rattle.interval.proofs.Counts.{twice_count_le}
use Rattle.interval.proofs.Interval.count.Goals as goal

pub overflow_mul-result : goal.overflow_mul-result
overflow_mul-result c = omega (arith, twice_count_le max_steps c.args.k (search rules))

pub returns : goal.returns
unfolding count_of
returns c = omega (arith, twice_count_le max_steps c.args.k (search rules))
