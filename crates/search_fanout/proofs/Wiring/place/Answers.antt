-- The place is found by the rows of intervals,
-- which are those of the steps.
use native.Mathlib.Omega.{arith}
use Rattle.search_fanout.proofs.Wiring.place.Goals as goal

pub place-requires : goal.place-requires
place-requires c = (omega (arith, c.requires.0), c.requires.1, c.requires.2)
