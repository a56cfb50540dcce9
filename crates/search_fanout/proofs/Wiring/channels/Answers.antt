-- Channels are at most 8 and steps at most 32:
-- their product is no number too large.
use native.Mathlib.Omega.{arith}
use Rattle.table_sizes.proofs.Weights.{product_fits}
use Rattle.search_fanout.proofs.Wiring.channels.Goals as goal

pub overflow_mul-result : goal.overflow_mul-result
overflow_mul-result c = let r = c.requires in product_fits _ _ (omega (arith, r.0, r.1)) (omega (arith, r.0, r.1))
