-- `ask_below` goes from the first byte on: as long as every byte is below the number, the question from here on has the answer of the
-- whole, and the first that is not gives its place (Questions.antt).
use Rattle.recording_questions.proofs.Questions.{AskedFrom}
use Rattle.recording_questions.proofs.ask_below.Given as goal

abbrev pub invariant-loop-t : goal.invariant-loop-t
invariant-loop-t l = AskedFrom l.number l.most l.bytes l.t
