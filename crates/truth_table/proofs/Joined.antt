-- `!`, `&` and `|` make of bytes that are bits what they make of truths, so a table that is changed place by place is that of the changed
-- truths: every interval has its place.
use mathlib.Core.Path.{◌≡◌, refl, ap, ap₂, ◌∙◌}
use mathlib.Core.Bool.{Bool, true, false, not}
use mathlib.Core.List.{List, ◌++◌}
use Prim.Native.Nat.{ℕ, ◌≤◌, ◌<◌}
use native.Mathlib.Omega.{arith}
use lib.Bits.{bit_xor}
use lib.ListN.{get_or, take, get_or-append}
use lib.Seq.{get_or-take}
use Rattle.std.specs.Int.{from_bool}
use Rattle.paper_meaning.specs.Meaning.{bit}
use Rattle.interval.specs.Limits.{IntervalOf}
use Rattle.interval.specs.Places.{count_of, place_of}
use Rattle.interval.specs.declared.Interval.{Interval}
use Rattle.interval.proofs.Laws.{intervals_numbered}
use Rattle.truth_table.specs.Table.{TableOf, joined_byte}
use Rattle.truth_word.specs.Word.{joined}
use Rattle.lists.proofs.Fill.{Upto}

-- a truth as the library makes a byte of it
pub from_bit : (b : Bool) → from_bool b ≡ bit b
from_bit true = refl
from_bit false = refl

-- bytes that are bits join as truths do
pub inverse_bit : (x : Bool) → bit_xor (bit x) 1 ≡ bit (not x)
inverse_bit true = refl
inverse_bit false = refl

pub joined_bits : (both x y : Bool) → joined_byte both (bit x) (bit y) ≡ bit (joined both x y)
joined_bits true true true = refl
joined_bits true true false = refl
joined_bits true false true = refl
joined_bits true false false = refl
joined_bits false true true = refl
joined_bits false true false = refl
joined_bits false false true = refl
joined_bits false false false = refl

-- a table whose first places, as many as intervals, are inverted, or joined place by place with another's
module _ (k n x : ℕ) (p t rest : List ℕ) (old : ℕ → ℕ) (h : n ≡ count_of k) (d : n ≤ x) where
  changed : {new : ℕ → ℕ} → Upto n new old x t → (g : Interval → Bool) → ((v : Interval) → IntervalOf k v → place_of k v < n → new (place_of k v) ≡ bit (g v)) → TableOf k g (t ++ rest)
  changed u g e = record {
    at = λ v o.
        let b : place_of k v < n = omega (arith, (intervals_numbered k).below v o) in
        get_or-append t rest 0 (place_of k v) (omega (arith, u.whole)) ∙ u.below (place_of k v) (omega arith) ∙ e v o b;
  }

  pub inverse_tables : Upto n (λ y. bit_xor (get_or (take n p) y 0) 1) old x t → (f : Interval → Bool) → TableOf k f p → TableOf k (λ v. not (f v)) (t ++ rest)
  inverse_tables u f P = changed u _ (λ v o b. ap (λ (y : ℕ). bit_xor y 1) (get_or-take n p (place_of k v) 0 b ∙ P.at v o) ∙ inverse_bit (f v))

  pub joined_tables : (both : Bool) (q : List ℕ) → Upto n (λ y. joined_byte both (get_or (take n p) y 0) (get_or q y 0)) old x t
      → (f g : Interval → Bool) → TableOf k f p → TableOf k g q → TableOf k (λ v. joined both (f v) (g v)) (t ++ rest)
  joined_tables both q u f g P Q = changed u _ (λ v o b. ap₂ (joined_byte both) (get_or-take n p (place_of k v) 0 b ∙ P.at v o) (Q.at v o) ∙ joined_bits both (f v) (g v))
