-- Channels come first, then the nodes' variables.
-- Each has its own function.
use Rattle.search_reach.proofs.reach.Goals as goal

pub channels-requires : goal.channels-requires
channels-requires c = let g = c.requires.on_ground.0 in (g.channels, g.steps)
