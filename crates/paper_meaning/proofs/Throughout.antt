-- `[S]` as a lesson puts it: S never fails and there is an instant, so no `#!S>=1`; and what `[S]` says of an interval it says of both parts that
-- it is chopped into, if each has an instant.
use mathlib.Core.Path.{◌≡◌, refl, sym, ap, ap₂, ◌∙◌}
use mathlib.Core.Bool.{Bool, true, false, not, ◌&&◌, and-true, and-false}
use mathlib.Core.List.{List}
use Prim.Native.Nat.{ℕ, zero, suc, ◌+◌, ◌-◌, ◌≤◌, ◌<◌}
use native.Mathlib.Nat.{add-zero}
use native.Mathlib.Omega.{arith}
use lib.Dec.{leb, ltb}
use borrow.Author.Tests.{le-leb, lt-leb, leb-true, ltb-true, ltb-false}
use Rattle.lists.proofs.Tests.{both}
use Rattle.interval.specs.declared.Interval.{Interval}
use Rattle.paper_grammar.specs.Trees.{chop, Tree, negation, pair, duration, throughout}
use Rattle.paper_grammar.specs.declared.Sort.TheVariants.{State}
use Rattle.paper_meaning.specs.Meaning.{bit, highs, every, lasts, fills, chops, truth}
use Rattle.paper_meaning.proofs.Laws.{chop_some, throughout_each}

-- every one of n instants is true exactly where none is not
every_never : (f : ℕ → Bool) (i n : ℕ) → every f i n ≡ not (leb 1 (highs (λ t. not (f t)) i n))
unfolding every highs
every_never f i zero = ap not (sym (lt-leb 1 0 (omega arith)))
every_never f i (suc n) = ap (λ (b : Bool). b && f (i + n)) (every_never f i n) ∙ go (highs (λ t. not (f t)) i n) (f (i + n))
  where
    go : (h : ℕ) (b : Bool) → (not (leb 1 h) && b) ≡ not (leb 1 (h + bit (not b)))
    go h true = and-true (not (leb 1 h)) ∙ rw add-zero refl
    go h false = and-false (not (leb 1 h)) ∙ ap not (sym (le-leb 1 (h + 1) (omega arith)))

same : (a b : Bool) → (a ≡ true → b ≡ true) → (b ≡ true → a ≡ true) → a ≡ b
same true b f g = sym (f refl)
same false true f g = g refl
same false false f g = refl

either : {A : Type 0} (b : Bool) → (b ≡ true → A) → (b ≡ false → A) → A
either true f g = f refl
either false f g = g refl

module _ (recording : List ℕ) (x : Tree State) (v : Interval) where
  -- `[S]` holds exactly where there is an instant and `#!S>=1` does not hold
  pub throughout_never : truth recording (throughout x) v ≡ (ltb v.i v.j && not (truth recording (duration (negation x) 1) v))
  unfolding truth fills lasts
  throughout_never = ap (λ (b : Bool). ltb v.i v.j && b) (every_never (truth recording x) v.i (v.j - v.i))

  -- `([S];[S])` holds exactly where there are two instants and `[S]` holds: so on one instant it never does, whatever S is there
  pub throughout_twice : v.i ≤ v.j → truth recording (pair chop (throughout x) (throughout x)) v ≡ (leb 2 (v.j - v.i) && truth recording (throughout x) v)
  unfolding truth
  throughout_twice h = same _ _ there back
    where
      f : ℕ → Bool
      f = truth recording x

      there : chops (fills f) (fills f) v ≡ true → (leb 2 (v.j - v.i) && fills f v) ≡ true
      there e =
          let (m, l, g, p, q) = (chop_some (fills f) (fills f) v h).0 e in
          let p' = (throughout_each f (record { i = v.i; j = m })).0 p in
          let q' = (throughout_each f (record { i = m; j = v.j })).0 q in
          ap₂ ◌&&◌ (le-leb 2 (v.j - v.i) (omega (arith, p'.0, q'.0)))
          ((throughout_each f v).1 (omega (arith, p'.0, q'.0), λ t a b. either (ltb t m) (λ c. p'.1 t a (ltb-true t m c)) (λ c. q'.1 t (ltb-false t m c) b)))

      back : (leb 2 (v.j - v.i) && fills f v) ≡ true → chops (fills f) (fills f) v ≡ true
      back e =
          let (two, p) = both (leb 2 (v.j - v.i)) (fills f v) e in
          let n = leb-true 2 (v.j - v.i) two in
          let w = (throughout_each f v).0 p in
          let part : (i j : ℕ) → v.i ≤ i → i < j → j ≤ v.j → fills f (record { i = i; j = j }) ≡ true =
          λ i j a l b. (throughout_each f (record { i = i; j = j })).1 (l, λ t c d. w.1 t (omega arith) (omega arith)) in
          (chop_some (fills f) (fills f) v h).1
          (v.i + 1, omega arith, omega (arith, n), part v.i (v.i + 1) (omega arith) (omega arith) (omega (arith, n)), part (v.i + 1) v.j (omega arith) (omega (arith, n)) (omega arith))

  -- and on two or more they agree
  pub throughout_agree : v.i + 2 ≤ v.j → truth recording (pair chop (throughout x) (throughout x)) v ≡ truth recording (throughout x) v
  throughout_agree h = throughout_twice (omega arith) ∙ ap (λ (b : Bool). b && truth recording (throughout x) v) (le-leb 2 (v.j - v.i) (omega arith))
