-- What the meanings say of instants and of m: each goes by induction on how many there are, and n of n instants are true exactly
-- where every one is.
use mathlib.Core.Path.{◌≡◌, refl, sym, ap, ap₂, ◌∙◌}
use mathlib.Core.Logic.{◌↔◌}
use mathlib.Core.Bool.{Bool, true, false, ◌&&◌, ◌||◌, false≢true}
use Prim.Native.Nat.{ℕ, zero, suc, ◌+◌, ◌-◌, ◌≤◌, ◌<◌, max}
use native.Mathlib.Omega.{arith}
use lib.Dec.{leb, ltb}
use borrow.Author.Tests.{le-leb, lt-leb, lt-ltb, leb-true, leb-false, ltb-true, ltb-false}
use Rattle.lists.proofs.Tests.{both}
use Rattle.interval.specs.declared.Interval.{Interval}
use Rattle.paper_meaning.specs.Meaning.{bit, highs, every, any, lasts, fills, chops}

pub bit_le : (b : Bool) → bit b ≤ 1
bit_le true = omega arith
bit_le false = omega arith

module _ (f : ℕ → Bool) (i : ℕ) where
  pub highs_le : (n : ℕ) → highs f i n ≤ n
  unfolding highs
  highs_le zero = omega arith
  highs_le (suc n) = omega (arith, highs_le n, bit_le (f (i + n)))

  -- every one of n instants is true exactly where n are
  every_highs : (n : ℕ) → every f i n ≡ leb n (highs f i n)
  unfolding every highs
  every_highs zero = sym (le-leb 0 0 (omega arith))
  every_highs (suc n) = ap (λ (b : Bool). b && f (i + n)) (every_highs n) ∙ one_more (f (i + n)) (highs f i n) (highs_le n)
    where
      one_more : (b : Bool) (h : ℕ) → h ≤ n → (leb n h && b) ≡ leb (suc n) (h + bit b)
      one_more b h g = go (leb n h) refl b
        where
          go : (c : Bool) → leb n h ≡ c → (b : Bool) → (c && b) ≡ leb (suc n) (h + bit b)
          go true e true = sym (le-leb (suc n) (h + 1) (omega (arith, leb-true n h e)))
          go true e false = sym (lt-leb (suc n) (h + 0) (omega arith))
          go false e true = sym (lt-leb (suc n) (h + 1) (omega (arith, leb-false n h e)))
          go false e false = sym (lt-leb (suc n) (h + 0) (omega arith))

  -- what is true at some of n numbers is true at one of them
  abbrev pub One : ℕ → Type 0
  One n = (m : ℕ) × (i ≤ m) × (m < i + n) × (f m ≡ true)

  or_one : (n : ℕ) (a : Bool) → (a ≡ true) ↔ One n → (b : Bool) → f (i + n) ≡ b → ((a || b) ≡ true) ↔ One (suc n)
  or_one n a w b e = (there a b e w.0, λ o. back a w.1 o (ltb o.0 (i + n)) refl)
    where
      there : (a b : Bool) → f (i + n) ≡ b → (a ≡ true → One n) → (a || b) ≡ true → One (suc n)
      there true b e w t = let o = w refl in (o.0, o.1, omega (arith, o.2), o.3)
      there false true e w t = (i + n, omega arith, omega arith, e)
      there false false e w t = absurd (false≢true t)

      back : (a : Bool) → (One n → a ≡ true) → (o : One (suc n)) → (c : Bool) → ltb o.0 (i + n) ≡ c → (a || b) ≡ true
      back true w o c t = refl
      back false w o true t = absurd (false≢true (w (o.0, o.1, ltb-true o.0 (i + n) t, o.3)))
      back false w o false t =
          let m : i + n ≡ o.0 = omega (arith, o.2, ltb-false o.0 (i + n) t) in
          sym e ∙ ap f m ∙ o.3

  pub some_one : (n : ℕ) → (any f i n ≡ true) ↔ One n
  unfolding any
  some_one zero = (λ e. absurd (false≢true e), λ w. absurd (omega (arith, w.1, w.2)))
  some_one (suc n) = or_one n (any f i n) (some_one n) (f (i + n)) refl

-- what is true at every one of n instants is true at each
every_each : (f : ℕ → Bool) (i n : ℕ) → (every f i n ≡ true) ↔ ((t : ℕ) → i ≤ t → t < i + n → f t ≡ true)
unfolding every
every_each f i zero = (λ e t l m. absurd (omega arith), λ h. refl)
every_each f i (suc n) = (there (every_each f i n).0, λ h. rw ((every_each f i n).1 (λ t l m. h t l (omega arith)), h (i + n) (omega arith) (omega arith)) refl)
  where
    there : (every f i n ≡ true → (t : ℕ) → i ≤ t → t < i + n → f t ≡ true) → (every f i n && f (i + n)) ≡ true → (t : ℕ) → i ≤ t → t < i + suc n → f t ≡ true
    there ih e t l m = let w = both (every f i n) (f (i + n)) e in go (ih w.0 t l) w.1 (ltb t (i + n)) refl
      where
        go : (t < i + n → f t ≡ true) → f (i + n) ≡ true → (b : Bool) → ltb t (i + n) ≡ b → f t ≡ true
        go before last true c = before (ltb-true t (i + n) c)
        go before last false c = let z : t ≡ i + n = omega (arith, ltb-false t (i + n) c) in ap f z ∙ last

-- only the instants counted matter
pub highs_agree : (f g : ℕ → Bool) (i n : ℕ) → ((t : ℕ) → i ≤ t → t < i + n → f t ≡ g t) → highs f i n ≡ highs g i n
unfolding highs
highs_agree f g i zero h = refl
highs_agree f g i (suc n) h =
    ap₂ (λ (a : ℕ) (b : Bool). a + bit b) (highs_agree f g i n (λ t l m. h t l (omega arith))) (h (i + n) (omega arith) (omega arith))

-- a chop is some m with i ≤ m ≤ j
pub chop_some : (f g : Interval → Bool) (v : Interval) → v.i ≤ v.j
    → (chops f g v ≡ true) ↔ ((m : ℕ) × (v.i ≤ m) × (m ≤ v.j) × (f (record { i = v.i; j = m }) ≡ true) × (g (record { i = m; j = v.j }) ≡ true))
unfolding chops
chop_some f g v h =
    let serves : ℕ → Bool = λ m. f (record { i = v.i; j = m }) && g (record { i = m; j = v.j }) in
    let w = some_one serves v.i (suc v.j - v.i) in (
      λ e. let o = w.0 e in let t = both (f (record { i = v.i; j = o.0 })) (g (record { i = o.0; j = v.j })) o.3 in (o.0, o.1, omega (arith, o.2), t.0, t.1),
      λ o. w.1 (o.0, o.1, omega (arith, o.2), ap₂ ◌&&◌ o.3 o.4),
    )

-- `[S]` is every t with i ≤ t < j, and there is one
pub throughout_each : (f : ℕ → Bool) (v : Interval) → (fills f v ≡ true) ↔ ((v.i < v.j) × ((t : ℕ) → v.i ≤ t → t < v.j → f t ≡ true))
unfolding fills
throughout_each f v =
    let w = every_each f v.i (v.j - v.i) in (
      λ e. let t = both (ltb v.i v.j) (every f v.i (v.j - v.i)) e in (ltb-true v.i v.j t.0, λ u l m. w.0 t.1 u l (omega arith)),
      λ g. ap₂ ◌&&◌ (lt-ltb v.i v.j g.0) (w.1 (λ t l m. g.1 t l (omega arith))),
    )

-- `[S]` asks for as many instants as there are, and for one at least
pub throughout_lasts : (f : ℕ → Bool) (v : Interval) → fills f v ≡ lasts (max 1 (v.j - v.i)) f v
unfolding fills lasts
throughout_lasts f v = go (v.j - v.i) (ltb v.i v.j) refl refl
  where
    go : (n : ℕ) (b : Bool) → ltb v.i v.j ≡ b → n ≡ v.j - v.i → (b && every f v.i n) ≡ leb (max 1 n) (highs f v.i n)
    go n true e d =
        let m : n ≡ max 1 n = omega (arith, ltb-true v.i v.j e) in
        every_highs f v.i n ∙ ap (λ (m : ℕ). leb m (highs f v.i n)) m
    go n false e d = sym (lt-leb (max 1 n) (highs f v.i n) (omega (arith, highs_le f v.i n, ltb-false v.i v.j e)))

-- a duration turns on the t with i ≤ t < j alone
pub duration_within : (n : ℕ) (f g : ℕ → Bool) (v : Interval) → v.i ≤ v.j → ((t : ℕ) → v.i ≤ t → t < v.j → f t ≡ g t) → lasts n f v ≡ lasts n g v
unfolding lasts
duration_within n f g v h e = ap (leb n) (highs_agree f g v.i (v.j - v.i) (λ t l m. e t l (omega arith)))
