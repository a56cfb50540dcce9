-- A literal added and the set closed:
-- the closure with that literal added, and a trail that is longer, since the variable was open.
use Rattle.search_closing.proofs.Trail.{grown_length}
use Rattle.search_fanout.proofs.Ground.{ground_still}
use Rattle.search_fanout.proofs.Pending.{pending_start}
use Rattle.search_attempts.proofs.Attempts.{open_free, tried_to}
use Rattle.search_attempts.proofs.try_literal.Goals as goal

pub add-added-requires : goal.add-added-requires
add-added-requires c = (c.requires.ready.from, c.requires.ready.to, c.requires.ready.trailing, open_free _ _ _ c.requires.ready.free)

pub close-requires : goal.close-requires
close-requires c =
    let a = c.add-added.ensures in
    record { on_ground = ground_still (grown_length a.grown) c.requires.on_ground; pending = pending_start c.requires.ready.closed a; tabled = c.requires.tabled }

pub returns : goal.returns
returns c =
    tried_to c.requires.ready.free c.add-added.ensures c.close.ensures
