-- Each rule has its own formula, which the code computes as the definition says it;
-- what each comes to at the most steps is bounded, so that no product or sum wraps.
use native.Mathlib.Omega.{arith}
use mathlib.Core.Path.{refl}
use Rattle.table_sizes.specs.Weights.{weight_by}
use Rattle.table_sizes.proofs.Weights.{weighed, level_le, product_fits, sum_fits}
use Rattle.table_blocks.specs.declared.Rule.TheVariants.{Fixed, Letter, Negation, And, Or, Chop, Duration, Throughout, Cut}
use borrow.Author.Rules.{rules}
use Rattle.table_sizes.proofs.weigh.Goals as goal

pub overflow_mul-result : goal.overflow_mul-result
overflow_mul-result c = product_fits _ _ (search rules) (search rules)

pub overflow_mul-result-in-Negation : goal.overflow_mul-result-in-Negation
overflow_mul-result-in-Negation c = product_fits _ _ (search rules) (search rules)

pub overflow_mul-result-in-And : goal.overflow_mul-result-in-And
overflow_mul-result-in-And c = product_fits _ _ (search rules) (search rules)

pub overflow_mul-result-in-Or : goal.overflow_mul-result-in-Or
overflow_mul-result-in-Or c = product_fits _ _ (search rules) (search rules)

pub overflow_mul-result-in-Chop : goal.overflow_mul-result-in-Chop
overflow_mul-result-in-Chop c = product_fits _ _ (search rules) (search rules)

pub overflow_add-result : goal.overflow_add-result
overflow_add-result c = sum_fits _ _ _ (search rules) (search rules) (search rules)

pub overflow_mul-result-in-Duration : goal.overflow_mul-result-in-Duration
overflow_mul-result-in-Duration c = product_fits _ _ (omega (arith, level_le (search rules) c.in-Duration.is)) (search rules)

pub overflow_add-result-in-Duration : goal.overflow_add-result-in-Duration
overflow_add-result-in-Duration c = sum_fits _ _ _ (search rules) (omega (arith, level_le (search rules) c.in-Duration.is)) (search rules)

pub overflow_mul-result-in-Cut : goal.overflow_mul-result-in-Cut
overflow_mul-result-in-Cut c = product_fits _ _ (search rules) (search rules)

pub returns-in-Fixed : goal.returns-in-Fixed
unfolding weight_by
returns-in-Fixed c = weighed (search rules) (Fixed _) c.in-Fixed.is refl

pub returns-in-Letter : goal.returns-in-Letter
unfolding weight_by
returns-in-Letter c = weighed (search rules) (Letter _) c.in-Letter.is refl

pub returns-in-Negation : goal.returns-in-Negation
unfolding weight_by
returns-in-Negation c = weighed (search rules) Negation c.in-Negation.is refl

pub returns-in-And : goal.returns-in-And
unfolding weight_by
returns-in-And c = weighed (search rules) And c.in-And.is refl

pub returns-in-Or : goal.returns-in-Or
unfolding weight_by
returns-in-Or c = weighed (search rules) Or c.in-Or.is refl

pub returns-in-Chop : goal.returns-in-Chop
unfolding weight_by
returns-in-Chop c = weighed (search rules) Chop c.in-Chop.is cc

pub returns-in-Duration : goal.returns-in-Duration
unfolding weight_by
returns-in-Duration c = weighed (search rules) (Duration _) c.in-Duration.is cc

pub returns-in-Throughout : goal.returns-in-Throughout
unfolding weight_by
returns-in-Throughout c = weighed (search rules) Throughout c.in-Throughout.is cc

pub returns-in-Cut : goal.returns-in-Cut
unfolding weight_by
returns-in-Cut c = weighed (search rules) Cut c.in-Cut.is cc
