-- After e turns n of the first e marks close a clause
-- (Passed.antt).
use Rattle.file_questions.specs.Questions.{closes}
use Rattle.file_questions.proofs.Passed.{Counted}
use Rattle.file_questions.proofs.closing.Given as goal

abbrev pub invariant-loop-m : goal.invariant-loop-m
invariant-loop-m l = Counted closes l.marks l.m-index l.n
