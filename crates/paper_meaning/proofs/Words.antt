-- A bit of a number is a digit, and a number below 2^k is its k digits: so one more digit on top of k packs one more instant, and leaves
-- those below as they are; and it is the only such number with these digits, the sum of their powers.
use mathlib.Core.Path.{◌≡◌, refl, sym, ap, ◌∙◌}
use mathlib.Core.Bool.{Bool, true, false}
use Prim.Native.Nat.{ℕ, zero, suc, ◌+◌, ◌-◌, ◌*◌, ◌/◌, ◌%◌, ◌^◌, ◌≤◌, ◌<◌}
use native.Mathlib.Nat.{add_comm, mod-lt, mod-one, mod-eq_of_lt, mul-le-mul_right, zero-lt-suc}
use native.Mathlib.Numerals.{add-one, one-add}
use native.Mathlib.Omega.{arith}
use borrow.Author.Count.{below_more}
use lib.Dec.{eqb}
use lib.Pow.{pow_pos, pow-add, high, low, field, mod-pow-add, mod-mod-pow}
use Rattle.lists.specs.Listing.{sum}
use Rattle.paper_meaning.specs.Meaning.{bit_at, bit}
use Rattle.paper_meaning.specs.Words.{WordOf}
use Rattle.paper_meaning.proofs.Laws.{bit_le}

-- what is 0 or 1 is a bit
pub as_bit : (x : ℕ) → x < 2 → x ≡ bit (eqb x 1)
as_bit zero h = refl
as_bit (suc zero) h = refl
as_bit (suc (suc x)) h = omega arith

-- digit t is 1 where bit t is
pub digit : (w t : ℕ) → w / 2 ^ t % 2 ≡ bit (bit_at w t)
unfolding bit_at
digit w t = as_bit (w / 2 ^ t % 2) (mod-lt (w / 2 ^ t) (zero-lt-suc 1))

pub high_bit : (b : Bool) → eqb (bit b) 1 ≡ b
high_bit true = refl
high_bit false = refl

-- the digits below n are those of the remainder
below : (x n t : ℕ) → t < n → bit_at (x % 2 ^ n) t ≡ bit_at x t
unfolding bit_at
below x n t h =
    let j : ℕ = n - t - 1 in
    let e : n ≡ j + 1 + t = omega arith in
    ap (λ (y : ℕ). eqb (y % 2) 1) (ap (λ (m : ℕ). x % 2 ^ m / 2 ^ t) e ∙ field x (j + 1) t) ∙ ap (λ (y : ℕ). eqb y 1) (mod-mod-pow (x / 2 ^ t) j 1)

pub bit_lt : (b : Bool) → bit b < 2
bit_lt b = omega (arith, bit_le b)

-- w is the word of f's first k instants, and has nothing beyond them
abbrev pub Packed : ℕ → (ℕ → Bool) → ℕ → Type 0
Packed k f w = (w < 2 ^ k) × WordOf k f w

-- one instant more
pub packed_add : (k : ℕ) {f : ℕ → Bool} {w : ℕ} → Packed k f w → Packed (k + 1) f (w + bit (f k) * 2 ^ k)
unfolding bit_at
packed_add k {f} {w} p =
    let b : ℕ = bit (f k) in
    let y : ℕ = b * 2 ^ k + w in
    rw (add_comm w (b * 2 ^ k)) (
      omega (arith, p.0, pow-add 2 k 1, mul-le-mul_right {m = b} {n = 1} (2 ^ k) (omega (arith, bit_lt (f k)))),
      record {
        at = below_more (λ (t : ℕ). bit_at y t ≡ f t) k
            (λ t l. sym (below y k t l) ∙ ap (λ (d : ℕ). bit_at d t) (low b k p.0) ∙ p.1.at t l)
            (ap (λ (d : ℕ). eqb d 1) (ap (λ (d : ℕ). d % 2) (high b k p.0) ∙ mod-eq_of_lt (bit_lt (f k))) ∙ high_bit (f k));
      },
    )

-- the number whose first n bits are f
abbrev pub packed : (ℕ → Bool) → ℕ → ℕ
packed f n = sum (λ c. bit (f c) * 2 ^ c) n

pub packed_is : (f : ℕ → Bool) (n : ℕ) → Packed n f (packed f n)
unfolding sum
packed_is f zero = (pow_pos 0, record { at = λ t h. absurd (omega arith) })
packed_is f (suc n) = rw (← add-one n) (packed_add n (packed_is f n))

packed_low : (f : ℕ → Bool) (w n : ℕ) → WordOf n f w → (m : ℕ) → m ≤ n → packed f m ≡ w % 2 ^ m
unfolding sum
packed_low f w n p zero h = sym (mod-one w)
packed_low f w n p (suc m) h =
    rw (packed_low f w n p m (omega arith), ← p.at m (omega arith), ← digit w m, ← one-add m) (omega (arith, mod-pow-add w 1 m))

pub packed_only : (f : ℕ → Bool) (w n : ℕ) → Packed n f w → packed f n ≡ w
packed_only f w n p = packed_low f w n p.1 n (omega arith) ∙ mod-eq_of_lt p.0
