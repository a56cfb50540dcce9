-- An interval that is not empty is one shorter and its last instant; so `[S]` and each level of a duration are what their gates make of the
-- shorter interval and that instant, and the counts behind them add one term at their end.
use mathlib.Core.Path.{◌≡◌, refl, sym, ap₂, ◌∙◌}
use mathlib.Core.Bool.{Bool, true, false, ◌&&◌, ◌||◌, or-false, or-true}
use Prim.Native.Nat.{ℕ, zero, suc, ◌+◌, ◌-◌, ◌<◌}
use native.Mathlib.Nat.{add-zero}
use native.Mathlib.Omega.{arith}
use lib.Dec.{leb}
use borrow.Author.Tests.{leb-true, leb-false, le-leb, lt-leb, lt-ltb, le-ltb}
use Rattle.interval.specs.declared.Interval.{Interval}
use Rattle.paper_meaning.specs.Meaning.{bit, highs, every, any, lasts, fills}
use Rattle.paper_circuit.specs.Circuit.{shorter}

-- one more of the instants is high, or not
one_more : (c h : ℕ) (b : Bool) → leb (suc c) (h + bit b) ≡ (leb (suc c) h || leb c h && b)
one_more c h b = go (leb c h) refl b
  where
    go : (x : Bool) → leb c h ≡ x → (b : Bool) → leb (suc c) (h + bit b) ≡ (leb (suc c) h || x && b)
    go true e true = le-leb (suc c) (h + 1) (omega (arith, leb-true c h e)) ∙ sym (or-true (leb (suc c) h))
    go false e true = lt-leb (suc c) (h + 1) (omega (arith, leb-false c h e)) ∙ sym (or-false (leb (suc c) h) ∙ lt-leb (suc c) h (omega (arith, leb-false c h e)))
    go true e false = rw add-zero (sym (or-false (leb (suc c) h)))
    go false e false = rw add-zero (sym (or-false (leb (suc c) h)))

module _ (f : ℕ → Bool) (v : Interval) where
  module _ (h : v.i ≡ v.j) where
    none : v.j - v.i ≡ 0
    none = omega arith

    pub fills_empty : fills f v ≡ false
    unfolding fills
    fills_empty = rw (le-ltb v.i v.j (omega arith)) refl

    pub lasts_empty : (c : ℕ) → lasts (suc c) f v ≡ false
    unfolding lasts highs
    lasts_empty c = rw none (lt-leb (suc c) 0 (omega arith))

  module _ (h : v.i < v.j) where
    steps : v.j - v.i ≡ suc (v.j - 1 - v.i)
    steps = omega arith

    last : v.i + (v.j - 1 - v.i) ≡ v.j - 1
    last = omega arith

    pub fills_one : v.i + 1 ≡ v.j → fills f v ≡ f v.i
    unfolding fills every
    fills_one e =
        let one : v.j - v.i ≡ 1 = omega arith in rw (lt-ltb v.i v.j h, one, add-zero) refl

    pub fills_longer : (v.i + 1 ≡ v.j → ⊥) → fills f v ≡ (fills f (shorter v) && f (v.j - 1))
    unfolding fills every
    fills_longer n = rw (lt-ltb v.i v.j h, lt-ltb v.i (v.j - 1) (omega arith), steps, last)

    pub lasts_longer : (c : ℕ) → lasts (suc c) f v ≡ (lasts (suc c) f (shorter v) || lasts c f (shorter v) && f (v.j - 1))
    unfolding lasts highs
    lasts_longer c = rw (steps, last) (one_more c (highs f v.i (v.j - 1 - v.i)) (f (v.j - 1)))

-- numbers in a row that stand for others in a row
pub some_along : (f g : ℕ → Bool) (i j n : ℕ) → ((e : ℕ) → e < n → f (i + e) ≡ g (j + e)) → any f i n ≡ any g j n
unfolding any
some_along f g i j zero h = refl
some_along f g i j (suc n) h = ap₂ ◌||◌ (some_along f g i j n (λ e l. h e (omega arith))) (h n (omega arith))
