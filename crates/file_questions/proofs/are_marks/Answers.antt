-- After e turns the first e marks have passed, and the first that does not
-- answers for all (Passed.antt).
use mathlib.Core.Path.{sym}
use native.Mathlib.Omega.{arith}
use borrow.Author.Tests.{le-leb, lt-leb}
use Rattle.file_questions.proofs.Passed.{none_failed, one_passed, one_failed, all_passed}
use Rattle.file_questions.proofs.are_marks.Goals as goal

pub loop-m-init : goal.loop-m-init
loop-m-init c = none_failed _ _

pub returns-then-m-gt3 : goal.returns-then-m-gt3
returns-then-m-gt3 c = one_failed _ _ c.loop-m.invariant c.loop-m-test.true (sym (lt-leb _ 3 c.if-m-gt3.true))

pub loop-m-preserved : goal.loop-m-preserved
loop-m-preserved c = one_passed _ _ c.loop-m.invariant (sym (le-leb _ 3 c.if-m-gt3.false))

pub returns : goal.returns
returns c = all_passed _ _ c.loop-m.invariant (omega (arith, c.loop-m-test.false, c.loop-m.auto.m-index-end))
