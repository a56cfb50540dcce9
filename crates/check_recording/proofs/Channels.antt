-- Channel b at instant t is byte t·C + b of an assignment, since variables are numbered from 1;
-- so a row of C bytes has the bits of an instant's byte, and the number with these bits is their sum.
use mathlib.Core.Path.{◌≡◌, sym, ap, ◌∙◌, subst}
use mathlib.Core.Bool.{Bool}
use mathlib.Core.List.{List}
use Prim.Native.Nat.{ℕ, ◌+◌, ◌-◌, ◌*◌, ◌^◌, ◌≤◌}
use native.Mathlib.Omega.{arith}
use lib.Dec.{eqb}
use lib.ListN.{get_or}
use Rattle.lists.specs.Listing.{sum}
use Rattle.paper_meaning.specs.Meaning.{bit}
use Rattle.paper_circuit.specs.Circuit.{channel_of}
use Rattle.paper_meaning.proofs.Words.{Packed, packed_only}
use Rattle.paper_assignments.specs.Extension.{value_in}

pub channel_bit : (A : List ℕ) (C t b : ℕ) {at x : ℕ} → at ≡ t * C → x ≡ bit (eqb (get_or A (at + b) 0) 1) → x ≡ bit (value_in A (channel_of C t b))
unfolding value_in
channel_bit A C t b {at} e q = let o : at + b ≡ channel_of C t b - 1 = omega (arith, e) in q ∙ ap (λ (i : ℕ). bit (eqb (get_or A i 0) 1)) o

pub byte_done : (f : ℕ → Bool) {b c w : ℕ} → b ≤ c → c ≤ b → Packed b f w → w ≡ sum (λ c. bit (f c) * 2 ^ c) c
byte_done f {b} {c} {w} h g p = let e : b ≡ c = omega arith in sym (packed_only f w c (subst (λ (n : ℕ). Packed n f w) e p))
