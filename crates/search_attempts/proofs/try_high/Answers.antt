-- Undoing gives the set before the try low,
-- of which the variable at that place of the trail is open.
use Rattle.search_fanout.proofs.Ground.{ground_still}
use Rattle.search_attempts.proofs.Attempts.{undone_ready, undone_tried}
use Rattle.search_attempts.proofs.try_high.Goals as goal

pub try_literal-requires : goal.try_literal-requires
try_literal-requires c =
    record { on_ground = ground_still c.undo.auto.values c.requires.on_ground; ready = undone_ready c.undo.ensures c.requires.undoable; tabled = c.requires.tabled }

pub returns : goal.returns
returns c = undone_tried c.undo.ensures c.try_literal.ensures
