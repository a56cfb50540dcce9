-- `ask_channels` asks question 1:
-- the reply to its test is the definition.
use Rattle.paper_grammar.specs.Questions.{ask_channels}
use Rattle.formula_text.proofs.ask_channels.Goals as goal

pub returns : goal.returns
unfolding ask_channels
returns c = c.ask_within.ensures
