-- After e turns the first e numbers have passed, and the first that does not
-- answers for all (Passed.antt).
use mathlib.Core.Path.{sym, ◌∙◌}
use native.Mathlib.Omega.{arith}
use Rattle.file_questions.proofs.Passed.{none_failed, one_passed, one_failed, all_passed}
use Rattle.file_questions.proofs.are_variables.Goals as goal

pub loop-v-init : goal.loop-v-init
loop-v-init c = none_failed _ _

pub returns-then-not-is_variable : goal.returns-then-not-is_variable
returns-then-not-is_variable c = one_failed _ _ c.loop-v.invariant c.loop-v-test.true (sym c.if-not-is_variable.true ∙ c.is_variable.ensures)

pub loop-v-preserved : goal.loop-v-preserved
loop-v-preserved c = one_passed _ _ c.loop-v.invariant (sym c.if-not-is_variable.false ∙ c.is_variable.ensures)

pub returns : goal.returns
returns c = all_passed _ _ c.loop-v.invariant (omega (arith, c.loop-v-test.false, c.loop-v.auto.v-index-end))
