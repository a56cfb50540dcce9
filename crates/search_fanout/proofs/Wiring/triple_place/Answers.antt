-- The rows of intervals and the starts of triples are among the tables,
-- and the place is found by them.
use native.Mathlib.Omega.{arith}
use Rattle.search_fanout.proofs.Wiring.triple_place.Goals as goal

pub place-requires : goal.place-requires
place-requires c =
    let r = c.requires in (omega (arith, r.0), omega (arith, r.1), r.2, r.3, r.4)
