-- `put_inverse` inverts the byte of place e at turn e; it is a bit, which inverts as a truth does,
-- so the slice is filled by the inverse truths.
use mathlib.Core.Path.{ap, ◌∙◌}
use Prim.Native.Nat.{ℕ}
use native.Mathlib.Omega.{arith}
use lib.Bits.{bit_xor}
use Rattle.lists.proofs.Listing.{listed}
use Rattle.truth_table.proofs.Joined.{inverse_bit}
use Rattle.extend_truths.proofs.put_inverse.Goals as goal

pub returns : goal.returns
returns c =
    let l = c.loop-e in
    listed _ (omega arith) (λ y h. l.invariant y (omega arith) ∙ ap (λ (b : ℕ). bit_xor b 1) (c.requires.1.at y) ∙ inverse_bit _)
