-- Question 18 is asked of all three lengths at once.
-- The test is the definition's, literal for literal.
use Rattle.table_calls.specs.Table.{ask_room}
use Rattle.table_calls.proofs.ask_room.Goals as goal

pub returns : goal.returns
unfolding ask_room
returns c = c.ask.ensures
