-- `inverse` changes one place a turn, which no earlier turn has touched, and every interval has its place below I,
-- where the part's table has the truth that is inverted.
use native.Mathlib.Omega.{arith}
use Rattle.truth_table.proofs.Joined.{inverse_tables}
use Rattle.truth_table.proofs.inverse.Goals as goal

pub returns : goal.returns
returns c = inverse_tables _ _ _ _ _ _ _ c.all-n.ensures.0 (omega arith) c.loop-truth.invariant
