-- After e turns the first e marks have passed, and the first that does not
-- answers for all (Passed.antt).
use Rattle.file_questions.specs.Questions.{is_mark}
use Rattle.file_questions.proofs.Passed.{Passed}
use Rattle.file_questions.proofs.are_marks.Given as goal

abbrev pub invariant-loop-m : goal.invariant-loop-m
invariant-loop-m l = Passed is_mark l.marks l.m-index
