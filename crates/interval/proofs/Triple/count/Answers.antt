-- `Triple::count` is document 01's J as it stands.
-- Its products are at most those of the most steps, so they fit.
use native.Mathlib.Omega.{arith}
use borrow.Author.Rules.{rules}
use Rattle.interval.specs.Limits.{max_steps}
use Rattle.interval.specs.Places.{triple_count_of}
use Rattle.interval.proofs.Counts.{twice_count_le, six_count_le}
use Rattle.interval.proofs.Triple.count.Goals as goal

pub overflow_mul-result : goal.overflow_mul-result
overflow_mul-result c = omega (arith, twice_count_le max_steps c.args.k (search rules))

pub overflow_mul-result-2 : goal.overflow_mul-result-2
overflow_mul-result-2 c = omega (arith, six_count_le max_steps c.args.k (search rules))

pub returns : goal.returns
unfolding triple_count_of
returns c = omega (arith, six_count_le max_steps c.args.k (search rules))
