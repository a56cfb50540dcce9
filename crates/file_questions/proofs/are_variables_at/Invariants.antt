-- The same for the numbers in a file: variable e is the number at its place
-- (Stored.antt of file_numbers).
use Rattle.file_numbers.specs.File.{variables_at}
use Rattle.file_questions.specs.Questions.{is_variable}
use Rattle.file_questions.proofs.Passed.{Passed}
use Rattle.file_questions.proofs.are_variables_at.Given as goal

abbrev pub invariant-loop-e : goal.invariant-loop-e
invariant-loop-e l = Passed (is_variable l.s.variables) (variables_at l.file) l.e
