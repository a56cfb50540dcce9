-- A triple is decoded by all three tables,
-- which are those of the steps.
use native.Mathlib.Omega.{arith}
use Rattle.search_fanout.proofs.Wiring.triple_at.Goals as goal

pub triple_at-requires : goal.triple_at-requires
triple_at-requires c = (c.requires.0, omega (arith, c.requires.1), c.requires.2)
