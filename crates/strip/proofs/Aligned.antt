-- A number below 1000 has one, two or three digits, each a tenth's remainder; so right-aligned in three places it shows the digit of its
-- hundreds and of its tens where it has them, a blank where it has not, and the digit of its ones.
use mathlib.Core.Path.{◌≡◌, ap, ◌∙◌}
use mathlib.Core.Bool.{cond}
use mathlib.Core.List.{List, [], ◌∷◌, ◌++◌}
use Prim.Native.Nat.{ℕ, ◌+◌, ◌-◌, ◌*◌, ◌/◌, ◌%◌, ◌≤◌, ◌<◌}
use native.Mathlib.Decide.{dec_lt}
use native.Mathlib.Omega.{arith}
use lib.Dec.{ltb}
use lib.ListN.{length, replicate}
use borrow.Author.Tests.{lt-ltb, le-ltb}
use Rattle.paper_grammar.specs.Trees.{decimal}
use Rattle.paper_grammar.proofs.Decimal.{decimal_digit, decimal_more}
use Rattle.strip.specs.Strip.{blank, aligned}

-- the place of a number's hundreds, or of its tens
abbrev pub place_of : ℕ → ℕ → ℕ
place_of n weight = cond (ltb n weight) blank (48 + n / weight % 10)

module _ (n : ℕ) where
  tenth_more : 10 ≤ n → decimal n ≡ decimal (n / 10) ++ (48 + n % 10) ∷ []
  tenth_more h = let e : n ≡ n / 10 * 10 + n % 10 = omega arith in ap decimal e ∙ decimal_more (n / 10) (n % 10) (omega arith) (omega arith)

  two_digits : 10 ≤ n → n < 100 → decimal n ≡ (48 + n / 10) ∷ (48 + n % 10) ∷ []
  two_digits h g = tenth_more h ∙ ap (λ (l : List ℕ). l ++ (48 + n % 10) ∷ []) (decimal_digit (n / 10) (omega arith))

  as_aligned : {l : List ℕ} → decimal n ≡ l → aligned n ≡ replicate (3 - length l) blank ++ l
  unfolding aligned
  as_aligned e = ap (λ (l : List ℕ). replicate (3 - length l) blank ++ l) e

three_digits : (n : ℕ) → 100 ≤ n → n < 1000 → decimal n ≡ (48 + n / 10 / 10) ∷ (48 + n / 10 % 10) ∷ (48 + n % 10) ∷ []
three_digits n h g = tenth_more n (omega arith) ∙ ap (λ (l : List ℕ). l ++ (48 + n % 10) ∷ []) (two_digits (n / 10) (omega arith) (omega arith))

pub aligned_places : (n : ℕ) → n < 1000 → aligned n ≡ place_of n 100 ∷ place_of n 10 ∷ (48 + n % 10) ∷ []
aligned_places n h = go (dec_lt n 10) (dec_lt n 100)
  where
    go : Dec (n < 10) → Dec (n < 100) → aligned n ≡ place_of n 100 ∷ place_of n 10 ∷ (48 + n % 10) ∷ []
    go (yes a) d =
        let e : n ≡ n % 10 = omega arith in
        rw (lt-ltb n 100 (omega arith), lt-ltb n 10 a) (as_aligned n (decimal_digit n a) ∙ ap (λ (x : ℕ). blank ∷ blank ∷ (48 + x) ∷ []) e)
    go (no a) (yes b) =
        let e : n / 10 ≡ n / 10 % 10 = omega arith in
        rw (lt-ltb n 100 b, le-ltb n 10 (omega arith))
        (as_aligned n (two_digits n (omega arith) b) ∙ ap (λ (x : ℕ). blank ∷ (48 + x) ∷ (48 + n % 10) ∷ []) e)
    go (no a) (no b) =
        let e : n / 10 / 10 ≡ n / 100 % 10 = omega arith in
        rw (le-ltb n 100 (omega arith), le-ltb n 10 (omega arith))
        (as_aligned n (three_digits n (omega arith) h) ∙ ap (λ (x : ℕ). (48 + x) ∷ (48 + n / 10 % 10) ∷ (48 + n % 10) ∷ []) e)
