-- `join` changes one place a turn, which no earlier turn has touched, and every interval has its place below I,
-- where the parts' tables have the truths that are joined.
use native.Mathlib.Omega.{arith}
use Rattle.truth_table.proofs.Joined.{joined_tables}
use Rattle.truth_table.proofs.join.Goals as goal

pub returns : goal.returns
returns c = joined_tables _ _ _ _ _ _ _ c.all-n.ensures.0 (omega arith) c.args.both _ c.loop-x.invariant
