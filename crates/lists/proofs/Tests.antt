-- Tests: what is to hold of each number below a bound is shown at each, and what a test picks is what it says.
-- Each goes by cases on the number or on the test's answer.
use mathlib.Core.Path.{◌≡◌, refl}
use mathlib.Core.Bool.{Bool, true, false, cond, ◌&&◌, ◌||◌, false≢true, true≢false}
use Prim.Native.Nat.{ℕ, zero, suc, ◌≤◌, ◌<◌}
use native.Mathlib.Decide.{dec_lt}
use native.Mathlib.Omega.{arith}
use lib.Dec.{leb}
use borrow.Author.Tests.{leb-true}

-- P of n − 1, .., 1 and 0, each an argument
abbrev Each : (ℕ → Type 0) → ℕ → Type 0
Each P zero = Unit
Each P (suc n) = P n × Each P n

abbrev Given : (ℕ → Type 0) → ℕ → Type 0 → Type 0
Given P zero R = R
Given P (suc n) R = P n → Given P n R

given : (P : ℕ → Type 0) (n : ℕ) (R : Type 0) → (Each P n → R) → Given P n R
given P zero R f = f tt
given P (suc n) R f = λ p. given P n R (λ w. f (p, w))

pick : (P : ℕ → Type 0) (n : ℕ) → Each P n → (k : ℕ) → k < n → P k
pick P zero w k h = absurd (omega arith)
pick P (suc n) w k h = go (dec_lt k n) (pick P n w.1 k)
  where
    go : Dec (k < n) → (k < n → P k) → P k
    go (yes l) ih = ih l
    go (no l) ih = let e : k ≡ n = omega arith in rw e w.0

pub at_each : (P : ℕ → Type 0) (n : ℕ) → Given P n ((k : ℕ) → k < n → P k)
at_each P n = given P n ((k : ℕ) → k < n → P k) (pick P n)

-- either way of a test
pub cond_elim : {A : Type 0} (P : A → Type 0) (c : Bool) {a b : A} → (c ≡ true → P a) → (c ≡ false → P b) → P (cond c a b)
cond_elim P true f g = f refl
cond_elim P false f g = g refl

pub both : (a b : Bool) → a && b ≡ true → (a ≡ true) × (b ≡ true)
both true b h = (refl, h)
both false b h = absurd (false≢true h)

pub neither : (a b : Bool) → a || b ≡ false → (a ≡ false) × (b ≡ false)
neither true b e = absurd (true≢false e)
neither false b e = (refl, e)

pub ranged : (low high b : ℕ) → leb low b && leb b high ≡ true → (low ≤ b) × (b ≤ high)
ranged low high b h = let w = both (leb low b) (leb b high) h in (leb-true low b w.0, leb-true b high w.1)
