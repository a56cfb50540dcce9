-- From each start one interval is empty, and from each but the last one has one step, so k + 1 gates weigh 1, k weigh `one` and the others
-- `more`; there are no fewer intervals than these, and at the most steps the sum is small.
use native.Mathlib.Omega.{arith}
use Rattle.table_sizes.proofs.Weights.{longer_count, longer_sum, product_fits, sum_fits}
use borrow.Author.Rules.{rules}
use Rattle.table_sizes.proofs.longer.Goals as goal

pub overflow_mul-result : goal.overflow_mul-result
overflow_mul-result c = product_fits _ _ (search rules) (search rules)

pub overflow_add-result : goal.overflow_add-result
overflow_add-result c = sum_fits _ _ _ (search rules) (search rules) (search rules)

pub overflow_sub-result : goal.overflow_sub-result
overflow_sub-result c = omega (arith, longer_count c.args.k)

pub overflow_sub-result-2 : goal.overflow_sub-result-2
overflow_sub-result-2 c = omega (arith, longer_count c.args.k)

pub overflow_mul-result-2 : goal.overflow_mul-result-2
overflow_mul-result-2 c = product_fits _ _ (search rules) (search rules)

pub overflow_add-result-2 : goal.overflow_add-result-2
overflow_add-result-2 c =
    let a = c.args in omega (arith, longer_sum c.count.result a.k a.one a.more (search rules) (search rules) (search rules) c.count.ensures.0)

pub returns : goal.returns
returns c = longer_sum _ _ _ _ (search rules) (search rules) (search rules) c.count.ensures.0
