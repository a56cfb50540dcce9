-- `put_inverse` inverts the byte of place e at turn e; it is a bit, which inverts as a truth does,
-- so the slice is filled by the inverse truths.
use mathlib.Core.Path.{◌≡◌}
use Prim.Native.Nat.{ℕ, ◌<◌}
use lib.Bits.{bit_xor}
use lib.ListN.{get_or}
use Rattle.extend_truths.proofs.put_inverse.Given as goal

abbrev pub invariant-loop-e : goal.invariant-loop-e
invariant-loop-e l = (y : ℕ) → y < l.e → get_or l.out y 0 ≡ bit_xor (get_or l.p y 0) 1
