-- Question 18 is asked of all five lengths at once.
-- The test is the definition's, literal for literal.
use Rattle.paper_search.specs.Search.{ask_lent}
use Rattle.search_calls.proofs.ask_lent.Goals as goal

pub returns : goal.returns
unfolding ask_lent
returns c = c.ask.ensures
