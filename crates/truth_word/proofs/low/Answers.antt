-- `low` keeps the n lowest of all the ones: a shift by the rest of the width drops the others,
-- and for n = 0 there are none.
use Prim.Native.Nat.{◌-◌}
use native.Mathlib.Omega.{arith}
use Rattle.truth_word.proofs.Words.{width, shifted}
use Rattle.truth_word.proofs.low.Goals as goal

pub returns-else-n-eq0 : goal.returns-else-n-eq0
returns-else-n-eq0 c = shifted width c.args.n (width - c.args.n) (omega arith)
