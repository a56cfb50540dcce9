-- Words, instant by instant: a bit of a word is a digit of the number, and an operation that goes digit by digit makes of two words
-- what it makes of their truths. The ones under a window are its highs, as each instant adds its digit to both.
use mathlib.Core.Path.{◌≡◌, refl, sym, ap, ap₂, ◌∙◌}
use mathlib.Core.Bool.{Bool, true, false, not, cond, ◌&&◌, ◌||◌}
use Prim.Native.Nat.{ℕ, zero, suc, ◌+◌, ◌-◌, ◌*◌, ◌/◌, ◌%◌, ◌^◌, ◌≤◌, ◌<◌}
use native.Mathlib.Nat.{add_comm, add-zero, mod-lt, mod-one, zero-div}
use native.Mathlib.Numerals.{one-add}
use native.Mathlib.Omega.{arith}
use lib.Dec.{eqb}
use lib.Pow.{pow_pos, shl_exact, shr-shr, high, low, mod-pow-add, ones_lt, ones_split}
use lib.Bits.{bit_and, bit_or, bit_xor, and_shr, or_shr, xor_shr, and_mod, or_mod, xor_mod, and_high}
use lib.Count.{ones, ones_in, ones_cat}
use Rattle.paper_meaning.specs.Meaning.{bit_at, bit, highs}
use Rattle.paper_meaning.proofs.Laws.{highs_le, highs_agree}
use Rattle.paper_meaning.specs.Words.{WordOf}
use Rattle.paper_meaning.proofs.Words.{digit, high_bit, bit_lt, Packed, packed_add}
use Rattle.truth_word.specs.Word.{joined}

-- a word's bits: WIDTH of the code
abbrev pub width : ℕ
width = 32

ones_bit : (b : Bool) → ones (bit b) ≡ bit b
unfolding ones ones_in
ones_bit true = refl
ones_bit false = refl

-- the ones among the n digits from i on
ones_highs : (w i n : ℕ) → ones (w / 2 ^ i % 2 ^ n) ≡ highs (bit_at w) i n
unfolding highs
ones_highs w i zero = ap ones (mod-one (w / 2 ^ i)) ∙ ones_bit false
ones_highs w i (suc n) =
    let x : ℕ = w / 2 ^ i in
    let last : x / 2 ^ n % 2 ≡ bit (bit_at w (i + n)) = ap (λ (y : ℕ). y % 2) (shr-shr w i n) ∙ digit w (i + n) in
    ap (λ (m : ℕ). ones (x % 2 ^ m)) (sym (one-add n)) ∙ ap ones (mod-pow-add x 1 n) ∙ ones_cat n (x / 2 ^ n % 2) (x % 2 ^ n) (mod-lt x (pow_pos n))
    ∙ ap₂ ◌+◌ (ap ones last ∙ ones_bit (bit_at w (i + n))) (ones_highs w i n) ∙ add_comm (bit (bit_at w (i + n))) (highs (bit_at w) i n)

-- the same digits, where they stand
ones_under : (w i n : ℕ) → ones (bit_and w (2 ^ (n + i) - 2 ^ i)) ≡ highs (bit_at w) i n
ones_under w i n =
    let x : ℕ = w / 2 ^ i % 2 ^ n in
    ap ones (and_high w n i ∙ sym (add-zero (x * 2 ^ i))) ∙ ones_cat i x 0 (pow_pos i) ∙ ap₂ ◌+◌ (ones_highs w i n) (ones_bit false) ∙ add-zero (highs (bit_at w) i n)

-- x is the window of the instants i to j - 1
pub ones_window : (w : ℕ) {i j x : ℕ} → i ≤ j → x ≡ 2 ^ j - 2 ^ i → (ones (bit_and w x) ≡ highs (bit_at w) i (j - i)) × (ones (bit_and w x) ≤ j - i)
ones_window w {i} {j} {x} h e =
    let d : j ≡ j - i + i = omega arith in
    let count : ones (bit_and w x) ≡ highs (bit_at w) i (j - i) = ap (λ (y : ℕ). ones (bit_and w y)) (e ∙ ap (λ (m : ℕ). 2 ^ m - 2 ^ i) d) ∙ ones_under w i (j - i) in
    (count, omega (arith, count, highs_le (bit_at w) i (j - i)))

-- a word's highs are those of what it is the word of
pub word_highs : {k : ℕ} {f : ℕ → Bool} {w : ℕ} (i n : ℕ) → WordOf k f w → i + n ≤ k → highs (bit_at w) i n ≡ highs f i n
word_highs {k} {f} {w} i n p h = highs_agree (bit_at w) f i n (λ t l m. p.at t (omega arith))

-- an operation on numbers that goes digit by digit, and the operation on truths that it does on each
module _ (op : ℕ → ℕ → ℕ) (o : Bool → Bool → Bool)
    (shr : (a b t : ℕ) → op a b / 2 ^ t ≡ op (a / 2 ^ t) (b / 2 ^ t)) (rem : (a b n : ℕ) → op a b % 2 ^ n ≡ op (a % 2 ^ n) (b % 2 ^ n))
    (both : op 1 1 ≡ bit (o true true)) (first : op 1 0 ≡ bit (o true false)) (second : op 0 1 ≡ bit (o false true)) (neither : op 0 0 ≡ bit (o false false)) where
  on_bits : (x y : Bool) → op (bit x) (bit y) ≡ bit (o x y)
  on_bits true true = both
  on_bits true false = first
  on_bits false true = second
  on_bits false false = neither

  bitwise : {k : ℕ} {f g : ℕ → Bool} {a b : ℕ} → WordOf k f a → WordOf k g b → WordOf k (λ t. o (f t) (g t)) (op a b)
  unfolding bit_at
  bitwise {a = a} {b = b} p q = record {
    at = λ t h.
        ap (λ (x : ℕ). eqb x 1) (ap (λ (x : ℕ). x % 2) (shr a b t) ∙ rem (a / 2 ^ t) (b / 2 ^ t) 1 ∙ ap₂ op (digit a t) (digit b t) ∙ on_bits (bit_at a t) (bit_at b t))
        ∙ high_bit (o (bit_at a t) (bit_at b t)) ∙ ap₂ o (p.at t h) (q.at t h);
  }

-- in n bits
pub packed_more : (n k : ℕ) {f : ℕ → Bool} {w x : ℕ} → k < n → x ≡ bit (f k) → Packed k f w → Packed (k + 1) f (w + x * 2 ^ k % 2 ^ n)
packed_more n k {f} {w} {x} h e p = rw (e, shl_exact 1 k n (bit_lt (f k)) (omega arith)) (packed_add k p)

-- w ones, without the t lowest
pub shifted : (w j t : ℕ) → w ≡ j + t → (2 ^ w - 1) / 2 ^ t ≡ 2 ^ j - 1
shifted w j t e = ap (λ (m : ℕ). (2 ^ m - 1) / 2 ^ t) e ∙ ap (λ (x : ℕ). x / 2 ^ t) (ones_split j t) ∙ high (2 ^ j - 1) t (ones_lt t)

all_high : (n k : ℕ) → k ≤ n → WordOf k (λ t. true) (2 ^ n - 1)
unfolding bit_at
all_high n k h = record {
  at = λ t l.
      let j : ℕ = n - t - 1 in
      ap (λ (x : ℕ). eqb (x % 2) 1) (shifted n (j + 1) t (omega arith))
      ∙ ap (λ (x : ℕ). eqb x 1) (ap (λ (x : ℕ). x % 2) (ones_split j 1) ∙ low (2 ^ j - 1) 1 (ones_lt 1));
}

all_low : (k : ℕ) → WordOf k (λ t. false) 0
unfolding bit_at
all_low k = record { at = λ t l. ap (λ (x : ℕ). eqb (x % 2) 1) (zero-div (2 ^ t)) }

pub word_constant : (n : ℕ) (up : Bool) {k : ℕ} → k ≤ n → WordOf k (λ t. up) (cond up (2 ^ n - 1) 0)
word_constant n true {k} h = all_high n k h
word_constant n false {k} h = all_low k

-- a bit that differs from 1
pub word_inverse : (n : ℕ) {k a : ℕ} {f : ℕ → Bool} → k ≤ n → WordOf k f a → WordOf k (λ t. not (f t)) (bit_xor a (2 ^ n - 1))
word_inverse n {k} h p = bitwise bit_xor (λ x y. cond y (not x) x) xor_shr xor_mod refl refl refl refl p (all_high n k h)

pub word_joined : (both : Bool) {k a b : ℕ} {f g : ℕ → Bool} → WordOf k f a → WordOf k g b → WordOf k (λ t. joined both (f t) (g t)) (cond both (bit_and a b) (bit_or a b))
word_joined true p q = bitwise bit_and ◌&&◌ and_shr and_mod refl refl refl refl p q
word_joined false p q = bitwise bit_or ◌||◌ or_shr or_mod refl refl refl refl p q
