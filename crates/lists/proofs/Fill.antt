-- A list is filled from place 0 on, one place a turn: those before d are new, those from d on are old.
-- Storing at d changes that place and no other.
use mathlib.Core.Path.{◌≡◌, refl, sym, ap, ◌∙◌}
use mathlib.Core.Bool.{Bool, true, false}
use mathlib.Core.List.{List}
use Prim.Native.Nat.{ℕ, ◌+◌, ◌≤◌, ◌<◌, zero, suc}
use native.Mathlib.Omega.{arith}
use lib.Dec.{ltb}
use lib.ListN.{length, get_or, set, length-set, replicate}
use lib.Seq.{get_or-set_same, get_or-set_other}
use borrow.Author.Tests.{ltb-true, ltb-false}

pub record Upto (n : ℕ) (new old : ℕ → ℕ) (d : ℕ) (l : List ℕ) : Type 0 where
  pub whole : length l ≡ n
  pub below : (y : ℕ) → y < d → get_or l y 0 ≡ new y
  pub beyond : (y : ℕ) → d ≤ y → get_or l y 0 ≡ old y

module _ (n : ℕ) (new old : ℕ → ℕ) where
  pub begun : (l : List ℕ) → length l ≡ n → ((y : ℕ) → get_or l y 0 ≡ old y) → Upto n new old 0 l
  begun l w e = record { whole = w; below = λ y h. omega arith; beyond = λ y h. e y }

  pub turn : (d : ℕ) (l : List ℕ) (b : ℕ) → Upto n new old d l → d < n → b ≡ new d → Upto n new old (d + 1) (set l d b)
  turn d l b u h e = record {
    whole = length-set l d b ∙ u.whole;
    below = λ y g. go y g (ltb y d) refl;
    beyond = λ y g. get_or-set_other l d y b 0 (λ o. omega arith) ∙ u.beyond y (omega arith);
  }
    where
      go : (y : ℕ) → y < d + 1 → (c : Bool) → ltb y d ≡ c → get_or (set l d b) y 0 ≡ new y
      go y g true t = let m = ltb-true y d t in get_or-set_other l d y b 0 (λ o. omega arith) ∙ u.below y m
      go y g false t =
          let m : d ≡ y = omega (arith, ltb-false y d t) in
          ap (λ (z : ℕ). get_or (set l d b) z 0) (sym m) ∙ get_or-set_same l d b 0 (omega (arith, u.whole)) ∙ e ∙ ap new m

pub zeros : (n y : ℕ) → get_or {A = ℕ} (replicate n 0) y 0 ≡ 0
zeros zero y = refl
zeros (suc n) zero = refl
zeros (suc n) (suc y) = zeros n y
