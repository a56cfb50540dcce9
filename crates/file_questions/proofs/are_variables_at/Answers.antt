-- The same for the numbers in a file: variable e is the number at its place
-- (Stored.antt of file_numbers).
use mathlib.Core.Path.{sym, ap, ◌∙◌}
use native.Mathlib.Omega.{arith}
use Rattle.file_numbers.proofs.Stored.{variables_count, variable_at}
use Rattle.file_questions.specs.Questions.{is_variable}
use Rattle.file_questions.proofs.Passed.{none_failed, one_passed, one_failed, all_passed}
use Rattle.file_questions.proofs.are_variables_at.Goals as goal

pub loop-e-init : goal.loop-e-init
loop-e-init c = none_failed _ _

pub returns-then-not-is_variable : goal.returns-then-not-is_variable
returns-then-not-is_variable c =
    let h = c.loop-e-test.true in
    one_failed _ _ c.loop-e.invariant (omega (arith, variables_count c.requires, h))
    (sym c.if-not-is_variable.true ∙ c.is_variable.ensures ∙ ap (is_variable _) (variable_at c.requires c.loop-e.e h c.number_at.ensures))

pub loop-e-preserved : goal.loop-e-preserved
loop-e-preserved c =
    one_passed _ _ c.loop-e.invariant
    (sym c.if-not-is_variable.false ∙ c.is_variable.ensures ∙ ap (is_variable _) (variable_at c.requires c.loop-e.e c.loop-e-test.true c.number_at.ensures))

pub returns : goal.returns
returns c = all_passed _ _ c.loop-e.invariant (omega (arith, variables_count c.requires, c.loop-e-test.false, c.loop-e.auto.e-end))
