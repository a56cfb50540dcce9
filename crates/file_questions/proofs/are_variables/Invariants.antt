-- After e turns the first e numbers have passed, and the first that does not
-- answers for all (Passed.antt).
use Rattle.file_questions.specs.Questions.{is_variable}
use Rattle.file_questions.proofs.Passed.{Passed}
use Rattle.file_questions.proofs.are_variables.Given as goal

abbrev pub invariant-loop-v : goal.invariant-loop-v
invariant-loop-v l = Passed (is_variable l.most) l.variables l.v-index
