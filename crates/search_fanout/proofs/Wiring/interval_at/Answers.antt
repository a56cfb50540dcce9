-- The intervals by place are among the tables,
-- one for each interval of the steps.
use native.Mathlib.Omega.{arith}
use Rattle.search_fanout.proofs.Wiring.interval_at.Goals as goal

pub interval_at-requires : goal.interval_at-requires
interval_at-requires c = (omega (arith, c.requires.0), c.requires.1, c.requires.2)
