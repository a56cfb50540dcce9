-- `ask_length` asks question 3:
-- the reply to its test is the definition.
use Rattle.paper_grammar.specs.Questions.{ask_length}
use Rattle.formula_text.proofs.ask_length.Goals as goal

pub returns : goal.returns
unfolding ask_length
returns c = c.ask_within.ensures
