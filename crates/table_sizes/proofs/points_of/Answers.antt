-- A kind below 16 is a state assertion's, judged at the k instants, any other a formula's, judged on the intervals:
-- the test is the definition's.
use native.Mathlib.Omega.{arith}
use borrow.Author.Rules.{rules}
use Rattle.interval.proofs.Counts.{few_intervals}
use Rattle.table_sizes.proofs.Rows.{points_state, points_formula}
use mathlib.Core.Path.{◌∙◌}
use Rattle.table_sizes.proofs.points_of.Goals as goal

pub returns-then-kind-lt-FORMULA : goal.returns-then-kind-lt-FORMULA
returns-then-kind-lt-FORMULA c = (points_state _ _ (search rules), omega arith)

pub returns-else-kind-lt-FORMULA : goal.returns-else-kind-lt-FORMULA
returns-else-kind-lt-FORMULA c =
    (c.requires.1 ∙ points_formula _ _ (search rules), omega (arith, c.requires, few_intervals c.args.k c.requires.0))
