-- A digit more in the number is a digit less in what is left, so a decimal is read to its end, and what was read is a decimal.
-- By induction on the digits.
use mathlib.Core.Path.{◌≡◌, refl, sym, ap, ◌∙◌}
use mathlib.Core.Bool.{true, false, false≢true}
use mathlib.Core.List.{List, [], ◌∷◌, ◌++◌, append_assoc}
use Prim.Native.Nat.{ℕ, zero, suc, ◌+◌, ◌*◌, ◌-◌, ◌<◌}
use native.Mathlib.Omega.{arith}
use lib.Dec.{eqb}
use borrow.Author.Tests.{eqb-true, eqb-false, ne_eqb}
use Rattle.paper_grammar.specs.Trees.{decimal}
use Rattle.paper_grammar.specs.Reader.{is_digit}
use Rattle.lists.proofs.Tests.{cond_elim, ranged}
use Rattle.paper_grammar.proofs.Bytes.{digit_is}
use Rattle.paper_grammar.proofs.Decimal.{decimal_digit, decimal_more, by_digits}
use Rattle.file_line.specs.Line.{Taken, taken, none, digits, number, blank}

-- ---- a decimal is read

number_digits : (n : ℕ) (q : List ℕ) → 0 < n → number (decimal n ++ q) ≡ digits n q
unfolding number digits
number_digits = by_digits (λ n. (q : List ℕ) → 0 < n → number (decimal n ++ q) ≡ digits n q)
    (λ d h q p. let e : 48 + d - 48 ≡ d = omega arith in rw (decimal_digit d h) (rw (ne_eqb (48 + d) 48 (λ z. omega arith), digit_is d h, e)))
    (λ m d p h ih q w. let e : 48 + d - 48 ≡ d = omega arith in rw (decimal_more m d p h, append_assoc (decimal m) ((48 + d) ∷ []) q) (ih ((48 + d) ∷ q) p ∙ rw (digit_is d h, e)))

number_reads : (n b : ℕ) (q : List ℕ) → is_digit b ≡ false → number (decimal n ++ b ∷ q) ≡ taken n (b ∷ q)
unfolding number digits
number_reads zero b q c = rw (decimal_digit 0 (omega arith))
number_reads (suc n) b q c = number_digits (suc n) (b ∷ q) (omega arith) ∙ rw c

pub item_reads : (n : ℕ) (q : List ℕ) → blank (number (decimal n ++ 32 ∷ q)) ≡ taken n q
item_reads n q = ap blank (number_reads n 32 q refl)

-- ---- what was read is a decimal

digit_byte : (b : ℕ) → is_digit b ≡ true → 48 + (b - 48) ≡ b
digit_byte b c = let w = ranged 48 57 b c in omega arith

digits_are : (q : List ℕ) (v n : ℕ) (r : List ℕ) → 0 < v → digits v q ≡ taken n r → decimal v ++ q ≡ decimal n ++ r
unfolding digits
digits_are [] v n r p e = let a : v ≡ n = cc in let b : [] ≡ r = cc in rw (a, b)
digits_are (b ∷ q) v n r p e =
    cond_elim (λ (x : Taken). x ≡ taken n r → decimal v ++ b ∷ q ≡ decimal n ++ r) (is_digit b)
    (λ c e. let w = ranged 48 57 b c in
    let s : decimal (v * 10 + (b - 48)) ≡ decimal v ++ b ∷ [] = decimal_more v (b - 48) p (omega arith) ∙ ap (λ (d : ℕ). decimal v ++ d ∷ []) (digit_byte b c) in
    sym (append_assoc (decimal v) (b ∷ []) q) ∙ ap (λ (l : List ℕ). l ++ q) (sym s) ∙ digits_are q (v * 10 + (b - 48)) n r (omega arith) e)
    (λ c e. let a : v ≡ n = cc in let g : b ∷ q ≡ r = cc in rw (a, g)) e

number_is : (l : List ℕ) (n : ℕ) (r : List ℕ) → number l ≡ taken n r → l ≡ decimal n ++ r
unfolding number
number_is [] n r e = absurd (false≢true cc)
number_is (b ∷ q) n r e =
    cond_elim (λ (x : Taken). x ≡ taken n r → b ∷ q ≡ decimal n ++ r) (eqb b 48)
    (λ z e. let w = eqb-true b 48 z in let a : 0 ≡ n = cc in let g : q ≡ r = cc in rw (← a, decimal_digit 0 (omega arith), g, w))
    (λ z e. cond_elim (λ (x : Taken). x ≡ taken n r → b ∷ q ≡ decimal n ++ r) (is_digit b)
    (λ c e. let w = ranged 48 57 b c in
    let p : 0 < b - 48 = omega (arith, eqb-false b 48 z) in
    let s : b ∷ [] ≡ decimal (b - 48) = sym (decimal_digit (b - 48) (omega arith) ∙ ap (λ (d : ℕ). d ∷ []) (digit_byte b c)) in
    ap (λ (l : List ℕ). l ++ q) s ∙ digits_are q (b - 48) n r p e)
    (λ c e. absurd (false≢true cc)) e) e

pub item_is : (l : List ℕ) (n : ℕ) (r : List ℕ) → blank (number l) ≡ taken n r → l ≡ decimal n ++ 32 ∷ r
item_is l n r = by (number l) refl
  where
    by : (x : Taken) → number l ≡ x → blank x ≡ taken n r → l ≡ decimal n ++ 32 ∷ r
    by none i e = absurd (false≢true cc)
    by (taken m []) i e = absurd (false≢true cc)
    by (taken m (b ∷ q)) i e =
        cond_elim (λ (x : Taken). x ≡ taken n r → l ≡ decimal n ++ 32 ∷ r) (eqb b 32)
        (λ z e. let w = eqb-true b 32 z in let a : m ≡ n = cc in let g : q ≡ r = cc in number_is l m (b ∷ q) i ∙ rw (w, a, g))
        (λ z e. absurd (false≢true cc)) e
