-- The laws of document 01's places, over every k: intervals and triples are named by the entries of a shape, and their places
-- are the entries' places, so each law is the shape's.
use mathlib.Core.Path.{◌≡◌, refl, sym, ap, ap₂, ◌∙◌, subst}
use mathlib.Core.Bool.{Bool, true, false, ◌&&◌, and-eq-true_iff}
use mathlib.Core.List.{[], ◌∷◌}
use Prim.Native.Nat.{ℕ, suc, ◌+◌, ◌-◌, ◌≤◌}
use native.Mathlib.Nat.{zero-add, sub-zero}
use native.Mathlib.Omega.{arith}
use borrow.Author.Tests.{leb-true, eqb-true, le-leb, eq-eqb}
use lib.Dec.{eqb, leb}
use Rattle.std.specs.Prelude.{Ok, Err}
use Rattle.refusal.specs.Asked.{question, asked}
use Rattle.refusal.specs.declared.Refusal.{Refusal}
use Rattle.lists.specs.Listing.{place_in}
use Rattle.interval.specs.Places.{count_of, place_of, intervals_of, triple_count_of, same_triple, triple_place_of, triples_of}
use Rattle.interval.specs.Limits.{max_steps, ask_steps, ask_interval, made_of, IntervalOf, TripleOf}
use Rattle.interval.specs.declared.Interval.{Interval}
use Rattle.interval.specs.declared.Triple.{Triple}
use Rattle.interval.proofs.Shape.{Entry, Inside, place, per, intervals, triples, place_in_per, Numbered, entries_numbered}
use Rattle.interval.proofs.Counts.{intervals_count, triples_count, interval_place, count_le, triple_count_le}

suc_add_sub : (a b : ℕ) → suc (a + b) - a ≡ suc b
suc_add_sub a b = omega arith

add_sub : (a b : ℕ) → a + b - a ≡ b
add_sub a b = omega arith

eqb_same : (n : ℕ) → eqb n n ≡ true
eqb_same n = eq-eqb n n refl

same_triple_lem : (t u : Triple) → same_triple t u ≡ true → (t.i ≡ u.i) × (t.m ≡ u.m) × (t.j ≡ u.j)
same_triple_lem t u e =
    let a = (and-eq-true_iff _ _).0 e in
    let b = (and-eq-true_iff _ _).0 a.0 in
    (eqb-true t.i u.i b.0, eqb-true t.m u.m b.1, eqb-true t.j u.j a.1)

module _ (k : ℕ) where
  -- the interval of d steps from i on
  abbrev pub interval : Entry (intervals k) → Interval
  interval x = record { i = x.0; j = x.0 + x.1 }

  pub intervals_listed : intervals_of k ≡ per (intervals k) interval
  unfolding intervals_of
  intervals_listed = simp (zero-add, sub-zero)

  pub interval_entry : (x : Entry (intervals k)) → Inside (intervals k) x → IntervalOf k (interval x) × (place_of k (interval x) ≡ place (intervals k) x)
  interval_entry x h = (omega arith, interval_place k (interval x) (omega arith) ∙ simp add_sub)

  entry_interval : (v : Interval) → IntervalOf k v → (x : Entry (intervals k)) × Inside (intervals k) x × (interval x ≡ v)
  entry_interval v o =
      let e : v.i + (v.j - v.i) ≡ v.j = omega arith in
      ((v.i, v.j - v.i), (omega arith, omega arith), ap (λ j. record { i = v.i; j = j }) e)

  -- in order, the intervals have the places 0 to I − 1, each once; the interval at a place and the place of an interval undo each other
  pub intervals_numbered : Numbered (IntervalOf k) (place_of k) (intervals_of k) (count_of k)
  intervals_numbered =
      rw (intervals_listed, ← intervals_count) (entries_numbered (IntervalOf k) (place_of k) (intervals k) interval interval_entry entry_interval (record { i = 0; j = 0 }))

  -- the interval of d steps from i on, chopped after e of them
  abbrev pub triple : Entry (triples k) → Triple
  triple x = record { i = x.0; m = x.0 + x.1.1; j = x.0 + x.1.0 }

  pub triples_listed : triples_of k ≡ per (triples k) triple
  unfolding triples_of
  triples_listed = simp (zero-add, sub-zero, suc_add_sub)

  pub triple_entry : (x : Entry (triples k)) → Inside (triples k) x → TripleOf k (triple x) × (triple_place_of k (triple x) ≡ place (triples k) x)
  unfolding triple_place_of
  triple_entry x h = (
    omega arith,
    ap (place_in (same_triple (triple x))) triples_listed
        ∙ place_in_per (triples k) triple (same_triple (triple x)) x h (simp eqb_same)
        (λ y e.
        let s = same_triple_lem (triple x) (triple y) e in
        let i : y.0 ≡ x.0 = sym s.0 in
        let d : y.1.0 ≡ x.1.0 = omega (arith, s) in
        let c : y.1.1 ≡ x.1.1 = omega (arith, s) in
        rw (i, d, c) refl),
  )

  entry_triple : (t : Triple) → TripleOf k t → (x : Entry (triples k)) × Inside (triples k) x × (triple x ≡ t)
  entry_triple t o =
      let e : t.i + (t.m - t.i) ≡ t.m = omega arith in
      let f : t.i + (t.j - t.i) ≡ t.j = omega arith in
      ((t.i, (t.j - t.i, t.m - t.i)), (omega arith, (omega arith, omega arith)), ap₂ (λ m j. record { i = t.i; m = m; j = j }) e f)

  -- the same by start, length and cut
  pub triple_place : (t : Triple) → TripleOf k t → triple_place_of k t ≡ place (triples k) (t.i, (t.j - t.i, t.m - t.i))
  unfolding entry_triple
  triple_place t o = let x = entry_triple t o in ap (triple_place_of k) (sym x.2) ∙ (triple_entry x.0 x.1).1

  -- and the triples likewise, with J
  pub triples_numbered : Numbered (TripleOf k) (triple_place_of k) (triples_of k) (triple_count_of k)
  triples_numbered =
      rw (triples_listed, ← triples_count) (entries_numbered (TripleOf k) (triple_place_of k) (triples k) triple triple_entry entry_triple (record { i = 0; m = 0; j = 0 }))

  -- the triples of one interval stand in a row, in order of m
  pub triples_in_a_row : (i m j : ℕ) → i ≤ m → m ≤ j → j ≤ k → triple_place_of k (record { i = i; m = m; j = j }) ≡ triple_place_of k (record { i = i; m = i; j = j }) + (m - i)
  triples_in_a_row i m j h l e =
      omega (arith, triple_place (record { i = i; m = m; j = j }) (omega arith), triple_place (record { i = i; m = i; j = j }) (omega arith))

-- I and J at the limit of 32 steps, and at one of 64
pub counts_at_32 : (k : ℕ) → k ≤ 32 → (count_of k ≤ 561) × (triple_count_of k ≤ 6545)
unfolding count_of triple_count_of
counts_at_32 k h = (count_le 32 k h, triple_count_le 32 k h)

pub counts_at_64 : (k : ℕ) → k ≤ 64 → (count_of k ≤ 2145) × (triple_count_of k ≤ 47905)
unfolding count_of triple_count_of
counts_at_64 k h = (count_le 64 k h, triple_count_le 64 k h)

refused_not_good : (r : Refusal) (v : Interval) → Err r ≡ Ok v → ⊥
refused_not_good r v e = let z : ◌≡◌ {A = ℕ} 0 1 = cc in omega arith

-- the constructor makes the intervals of k steps within the limit, and nothing else
pub made_good : (i j k : ℕ) (v : Interval) → made_of i j k ≡ Ok v → (k ≤ max_steps) × IntervalOf k v
unfolding made_of ask_steps ask_interval
made_good i j k v = go (leb k max_steps) refl (leb i j) refl (leb j k) refl
  where
    go : (a : Bool) → leb k max_steps ≡ a → (b : Bool) → leb i j ≡ b → (c : Bool) → leb j k ≡ c
        → asked (question 2 0 a ∷ question 9 0 (b && c) ∷ []) Err (Ok (record { i = i; j = j })) ≡ Ok v → (k ≤ max_steps) × IntervalOf k v
    go true d true e true f m =
        let p : record { i = i; j = j } ≡ v = cc in
        (leb-true k max_steps d, subst (IntervalOf k) p (record { starts = leb-true i j e; ends = leb-true j k f }))
    go true d true e false f m = absurd (refused_not_good _ v m)
    go true d false e c f m = absurd (refused_not_good _ v m)
    go false d b e c f m = absurd (refused_not_good _ v m)

pub good_made : (k : ℕ) (v : Interval) → k ≤ max_steps → IntervalOf k v → made_of v.i v.j k ≡ Ok v
unfolding made_of ask_steps ask_interval
good_made k v h o = simp (le-leb k max_steps h, le-leb v.i v.j o.starts, le-leb v.j k o.ends)
