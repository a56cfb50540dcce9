-- A literal is in the set where its variable's byte is its value, and opposed where it is the other value; a byte is 0 where it is neither.
-- So a value given where there was none adds one literal, and what is in the set is within the values' length.
use mathlib.Core.Path.{◌≡◌, refl, sym, ap, ◌∙◌, fun_ext}
use mathlib.Core.Bool.{Bool, true, false, not, ◌&&◌, ◌||◌, beq, false≢true, true≢false}
use mathlib.Core.List.{List}
use Prim.Native.Nat.{ℕ, zero, suc, ◌+◌, ◌-◌, ◌%◌, ◌≤◌, ◌<◌}
use native.Mathlib.Decide.{dec_lt, ℕ_discrete}
use native.Mathlib.Nat.{mod-lt}
use native.Mathlib.Numerals.{add-one}
use native.Mathlib.Omega.{arith}
use lib.Dec.{eqb}
use lib.ListN.{length, get_or, set, get_or-eq_default}
use lib.Seq.{get_or-set_same, get_or-set_other}
use borrow.Author.Tests.{eq-eqb, ne_eqb}
use Rattle.paper_clauses.specs.Clauses.{Literal}
use Rattle.paper_clauses.specs.Entries.{entry, literal_of}
use Rattle.paper_closure.specs.Closure.{add, opposite}
use Rattle.paper_closure.proofs.Sets.{In, same_set, kept, add_below}
use Rattle.search_closing.specs.Values.{value_for, held, held_in, Trailing, Added}
use Rattle.search_closing.proofs.Trail.{grown_none, trail_room, grown_one}

-- ---- a mark's values

opposing : (b : ℕ) → b < 2 → 1 + b ≡ value_for (not (eqb b 1))
opposing zero h = refl
opposing (suc zero) h = refl
opposing (suc (suc b)) h = absurd (omega arith)

own : (b : ℕ) → b < 2 → 2 - b ≡ value_for (eqb b 1)
own zero h = refl
own (suc zero) h = refl
own (suc (suc b)) h = absurd (omega arith)

-- ---- the byte at a variable's place

module _ (values : List ℕ) (l : Literal) (x : ℕ) (e : x + 1 ≡ l.variable) where
  held_at : held_in values l ≡ eqb (get_or values x 0) (value_for l.sign)
  unfolding held_in
  held_at = ap (held values l.sign) (sym e ∙ add-one x)

  opposed_at : held_in values (opposite l) ≡ eqb (get_or values x 0) (value_for (not l.sign))
  unfolding held_in
  opposed_at = ap (held values (not l.sign)) (sym e ∙ add-one x)

  -- what has a value and is not opposed is in the set
  held_free : get_or values x 0 ≤ 2 → (get_or values x 0 ≡ 0 → ⊥) → held_in values (opposite l) ≡ false → In (held_in values) l
  held_free s n o = held_at ∙ go (get_or values x 0) l.sign s n (sym opposed_at ∙ o)
    where
      go : (w : ℕ) (u : Bool) → w ≤ 2 → (w ≡ 0 → ⊥) → eqb w (value_for (not u)) ≡ false → eqb w (value_for u) ≡ true
      go zero u s n o = absurd (n refl)
      go (suc zero) true s n o = refl
      go (suc zero) false s n o = absurd (true≢false o)
      go (suc (suc zero)) true s n o = absurd (true≢false o)
      go (suc (suc zero)) false s n o = refl
      go (suc (suc (suc w))) u s n o = absurd (omega arith)

  -- the literal's value, given where there was none
  held_one : x < length values → get_or values x 0 ≡ 0 → held_in (set values x (value_for l.sign)) ≡ add l (held_in values)
  unfolding held_in add
  held_one h z = fun_ext (λ m. go m.variable m.sign)
    where
      sides : (u v : Bool) → eqb (value_for u) (value_for v) ≡ (beq u v || eqb 0 (value_for v))
      sides true true = refl
      sides true false = refl
      sides false true = refl
      sides false false = refl

      go : (v : ℕ) (u : Bool) → held (set values x (value_for l.sign)) u v ≡ ((eqb l.variable v && beq l.sign u) || held values u v)
      go zero u = rw (ne_eqb l.variable 0 (λ q. absurd (omega arith)))
      go (suc y) u = at (ℕ_discrete y x)
        where
          at : Dec (y ≡ x) → held (set values x (value_for l.sign)) u (suc y) ≡ ((eqb l.variable (suc y) && beq l.sign u) || held values u (suc y))
          at (yes q) = rw (eq-eqb l.variable (suc y) (omega arith), q, get_or-set_same values x (value_for l.sign) 0 h, z) (sides l.sign u)
          at (no q) = rw (ne_eqb l.variable (suc y) (λ s. q (omega arith)), get_or-set_other values x y (value_for l.sign) 0 q)

pub opposed_mark : (values : List ℕ) (v m x : ℕ) → x + 1 ≡ v → eqb (get_or values x 0) (1 + m % 2) ≡ held_in values (opposite (literal_of (entry v m)))
opposed_mark values v m x e =
    ap (eqb (get_or values x 0)) (opposing (m % 2) (mod-lt m (omega arith))) ∙ sym (opposed_at values (literal_of (entry v m)) x e)

-- no value is 0
pub nothing_there : (u : Bool) → eqb 0 (value_for u) ≡ false
nothing_there true = refl
nothing_there false = refl

pub held_within : (values : List ℕ) (l : Literal) → In (held_in values) l → (1 ≤ l.variable) × (l.variable ≤ length values)
unfolding held_in
held_within values l h = go l.variable l.sign h
  where
    go : (v : ℕ) (u : Bool) → held values u v ≡ true → (1 ≤ v) × (v ≤ length values)
    go zero u h = absurd (false≢true h)
    go (suc v) u h = at (dec_lt v (length values))
      where
        at : Dec (v < length values) → (1 ≤ suc v) × (suc v ≤ length values)
        at (yes l) = (omega arith, omega arith)
        at (no l) = let o : length values ≤ v = omega arith in absurd (true≢false (sym h ∙ rw (get_or-eq_default values 0 o) (nothing_there u)))

-- ---- a literal put in

module _ {values trail : List ℕ} {top : ℕ} (t : Trailing values trail top) (v m x : ℕ) (e : x + 1 ≡ v) where
  pub added_there : (get_or values x 0 ≡ 0 → ⊥) → held_in values (opposite (literal_of (entry v m))) ≡ false
      → Added (literal_of (entry v m)) values trail top values trail top
  added_there n o = record {
    grown = grown_none t;
    added = same_set (kept _ _) (add_below _ _ (In (held_in values)) (λ k i. i) (held_free values (literal_of (entry v m)) x e (t.small x) n o));
    first = λ h. absurd (omega arith);
  }

  pub added_one : x < length values → get_or values x 0 ≡ 0 → {w u : List ℕ} → w ≡ set values x (2 - m % 2) → u ≡ set trail top (x + 1)
      → Added (literal_of (entry v m)) values trail top w u (top + 1)
  added_one h z f g = rw (f, g) (record {
    grown = grown_one t x h z (2 - m % 2) (omega (arith, mod-lt m {m = 2} (omega arith))) (omega arith);
    added = rw (own (m % 2) (mod-lt m (omega arith))) (held_one values (literal_of (entry v m)) x e h z);
    first = λ _. get_or-set_same trail top (x + 1) 0 (trail_room t x h z) ∙ e;
  })
