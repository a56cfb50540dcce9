-- A loop that asks a test of each entry has asked the first e after e turns: all of them passed, or so many did. One entry more is
-- the last case of `every` and of `highs`, which count from the front.
use mathlib.Core.Path.{◌≡◌, refl, sym, ap, ap₂, ◌∙◌}
use mathlib.Core.Bool.{Bool, true, false, ◌&&◌}
use mathlib.Core.List.{List}
use Prim.Native.Nat.{ℕ, zero, suc, ◌+◌, ◌≤◌, ◌<◌}
use native.Mathlib.Nat.{not-suc-le-zero, zero-add}
use native.Mathlib.Numerals.{add-one}
use native.Mathlib.Omega.{arith}
use lib.ListN.{length, get_or}
use mir.Val.{bool_byte}
use Rattle.paper_meaning.specs.Meaning.{bit, every, highs}
use Rattle.lists.proofs.Listing.{below_suc}
use Rattle.file_questions.specs.Questions.{all_pass, how_many}

and_false : (b : Bool) → (b && false) ≡ false
and_false true = refl
and_false false = refl

module _ (f : ℕ → Bool) where
  -- one that fails
  every_no : (n e : ℕ) → e < n → f e ≡ false → every f 0 n ≡ false
  unfolding every
  every_no zero e h p = absurd (not-suc-le-zero h)
  every_no (suc n) e h p =
      below_suc (λ e. f e ≡ false → every f 0 (suc n) ≡ false) n e h
      (λ l q. ap (λ (b : Bool). b && f (0 + n)) (every_no n e l q))
      (λ q. ap (λ (b : Bool). every f 0 n && b) (ap f (zero-add n) ∙ q) ∙ and_false (every f 0 n)) p

-- a truth value as the code adds it
pub byte_bit : (b : Bool) → bool_byte b ≡ bit b
byte_bit true = refl
byte_bit false = refl

pub byte_most : (b : Bool) → bool_byte b ≤ 1
byte_most true = omega arith
byte_most false = omega arith

module _ (test : ℕ → Bool) (l : List ℕ) where
  abbrev at : ℕ → Bool
  at e = test (get_or l e 0)

  -- the first e entries pass, or so many of them
  pub record Passed (e : ℕ) : Type 0 where
    pub all : every at 0 e ≡ true

  pub record Counted (e m : ℕ) : Type 0 where
    pub most : m ≤ e
    pub count : m ≡ highs at 0 e

  pub none_failed : Passed 0
  unfolding every
  none_failed = record { all = refl }

  pub one_passed : {e : ℕ} → Passed e → true ≡ at e → Passed (e + 1)
  unfolding every
  one_passed {e} p t = record { all = rw (add-one e) (ap₂ ◌&&◌ p.all (ap at (zero-add e) ∙ sym t)) }

  pub one_failed : {e : ℕ} → Passed e → e < length l → false ≡ at e → false ≡ all_pass test l
  one_failed {e} p h t = sym (every_no at (length l) e h (sym t))

  pub all_passed : {e : ℕ} → Passed e → e ≡ length l → true ≡ all_pass test l
  all_passed p h = sym (ap (every at 0) (sym h) ∙ p.all)

  pub none_counted : Counted 0 0
  unfolding highs
  none_counted = record { most = omega arith; count = refl }

  pub one_counted : {e m b : ℕ} → Counted e m → b ≡ bool_byte (at e) → Counted (e + 1) (m + b)
  unfolding highs
  one_counted {e} c t = record {
    most = omega (arith, c.most, t, byte_most (at e));
    count = rw (add-one e) (ap₂ ◌+◌ c.count (t ∙ byte_bit (at e) ∙ ap (λ (i : ℕ). bit (at i)) (sym (zero-add e))));
  }

  pub all_counted : {e m : ℕ} → Counted e m → e ≡ length l → m ≡ how_many test l
  all_counted c h = c.count ∙ ap (highs at 0) h
