-- The interval that ends a step after instant t is longer than empty, so on a level but the first its gate goes by the place before, the
-- level below, and the instant; that of `[S]` by the instant, and on more than one step by the place before. The next level stands I places further.
use mathlib.Core.Path.{◌≡◌, refl, sym, ap, ◌∙◌, subst}
use mathlib.Core.Logic.{inl, inr}
use mathlib.Core.List.{List}
use Prim.Native.Nat.{ℕ, suc, ◌+◌, ◌-◌, ◌*◌, ◌≤◌, ◌<◌}
use native.Mathlib.Nat.{zero-add, suc-mul, zero-mul, mul-le-mul, mul-le-mul_right}
use native.Mathlib.Omega.{arith}
use lib.ListN.{length}
use Rattle.lists.specs.Listing.{rows}
use Rattle.interval.specs.Places.{count_of, place_of}
use Rattle.interval.specs.Limits.{max_steps, max_count}
use Rattle.interval.proofs.Shape.{Inside}
use Rattle.paper_circuit.specs.declared.Gate.TheVariants.{Copy, Both, Step}
use Rattle.table_blocks.specs.Blocks.{shape_of, gate_of, defined_by, Placed, Bounded, bound}
use Rattle.table_blocks.specs.declared.Block.{Block}
use Rattle.table_blocks.specs.declared.Rule.{Rule}
use Rattle.table_blocks.specs.declared.Rule.TheVariants.{Duration, Throughout}
use Rattle.table_sizes.proofs.Weights.{level_le}
use Rattle.paper_clauses.specs.Clauses.{clauses_of}
use Rattle.table_gates.specs.Mentioned.{Variable, InputsIn}
use Rattle.search_clauses.specs.Clauses.{clauses_at}
use Rattle.search_clauses.proofs.Walk.{clauses_here, visit_asks}
use Rattle.search_fanout.specs.Walks.{Standing, instant_place, rise_clauses}
use Rattle.search_fanout.proofs.Fine.{level_place, chop_place}
use Rattle.search_fanout.specs.Fanout.{Rising}
use Rattle.interval.proofs.Counts.{few_intervals}
use Rattle.search_walks.proofs.Places.{interval_small}
use Rattle.search_levels.proofs.Gates.{whole_one, whole_gate, level_gate_lem}

longer_than_empty : (k i t : ℕ) → i ≤ t → 1 ≤ place_of k (record { i = i; j = t + 1 })
unfolding place_of
longer_than_empty k i t o = omega arith

module _ (C k : ℕ) (b : Block) (i t : ℕ) (o : i ≤ t) (l : t < k) where
  abbrev steps : ℕ
  steps = t + 1 - i

  end : i + steps ≡ t + 1
  end = omega arith

  some : steps ≡ 0 → ⊥
  some e = omega arith

  abbrev ends : ℕ
  ends = place_of k (record { i = i; j = t + 1 })

  -- a level but the first
  module _ {n : ℕ} (d : b.rule ≡ Duration n) (a : ℕ) (f : 1 ≤ a) (h : a ≤ n) where
    abbrev x : ℕ
    x = a * count_of k + ends

    level : Placed b.points k b.rule x a i steps
    level =
        let w : Inside (shape_of b.points k (Duration n)) (a, (i, steps)) = (omega arith, (omega arith, omega arith)) in
        subst (λ (r : Rule). Placed b.points k r x a i steps) (sym d)
        (record {
          inside = w;
          at = sym (level_place k b.points n a i steps w ∙
              ap (λ (j : ℕ). a * count_of k + place_of k (record { i = i; j = j })) end);
        })

    module _ {v I : ℕ} (e : v ≡ b.first + x) (c : I ≡ count_of k) where
      gate : Step (v - 1) (v - 1 - I) (b.left + t) ≡ gate_of C k b x a i steps
      gate =
          let g = longer_than_empty k i t o in
          let m = mul-le-mul_right {m = 1} {n = a} (count_of k) f in
          level_gate_lem C k b x a i steps d (λ z. omega (arith, f)) some (omega (arith, e, g)) (omega (arith, e, c, g, m)) (omega arith)

      level_clauses : clauses_of v (Step (v - 1) (v - 1 - I) (b.left + t)) ≡ clauses_at (defined_by C k b) x
      level_clauses = ap (λ (v' : ℕ). clauses_of v' (Step (v - 1) (v - 1 - I) (b.left + t))) e ∙ clauses_here C k b level gate

      level_asks : {values trail : List ℕ} {top : ℕ} → Standing C k b values trail top → Variable (length values) v × InputsIn (length values) (Step (v - 1) (v - 1 - I) (b.left + t))
      level_asks {values} s = let w = visit_asks C k b level gate (s.bounded, s.points) s.mentioned in (subst (Variable (length values)) (sym e) w.0, w.1)

-- ---- `[S]`, by the code's test

module _ (C k : ℕ) (b : Block) {a n i t p : ℕ} (r : Rising b.rule a n) (o : i ≤ t) (l : t < k) (z : a ≡ 0) (e : p ≡ place_of k (record { i = i; j = i + (t + 1 - i) })) where
  whole : (b.rule ≡ Throughout) × (n ≡ 1)
  whole = go r
    where
      go : Rising b.rule a n → (b.rule ≡ Throughout) × (n ≡ 1)
      go (inl w) = absurd (omega (arith, w.1, z))
      go (inr w) = (w.0, w.2)

  pub whole_placed : Placed b.points k b.rule p 0 i (t + 1 - i)
  whole_placed =
      let w : Inside (shape_of b.points k Throughout) (0, (i, t + 1 - i)) = (omega arith, (omega arith, omega arith)) in
      subst (λ (r : Rule). Placed b.points k r p 0 i (t + 1 - i)) (sym whole.0) (record { inside = w; at = e ∙ sym (chop_place k b.points 0 i (t + 1 - i) w) })

  ended : p ≡ place_of k (record { i = i; j = t + 1 })
  ended = e ∙ ap (λ (j : ℕ). place_of k (record { i = i; j = j })) (end C k b i t o l)

  pub whole_some : 1 ≤ b.first + p
  whole_some = omega (arith, ended, longer_than_empty k i t o)

  pub whole_copy : i ≡ t → Copy (b.left + t) ≡ gate_of C k b p 0 i (t + 1 - i)
  whole_copy f = whole_one C k b p 0 i (t + 1 - i) whole.0 (some C k b i t o l) (omega arith) (omega arith)

  pub whole_both : (i ≡ t → ⊥) → Both (b.first + p - 1) (b.left + t) ≡ gate_of C k b p 0 i (t + 1 - i)
  whole_both f = whole_gate C k b p 0 i (t + 1 - i) whole.0 (omega (arith, f)) (omega arith)

  pub whole_clauses : clauses_at (defined_by C k b) p ≡ rise_clauses C k b a n t i
  unfolding rows
  whole_clauses = ap (clauses_at (defined_by C k b)) ended ∙ rw (whole.1, z, zero-mul, zero-add) refl

-- ---- a duration: the loop over levels stands at a + e, v being the variable

pub record Rises (k : ℕ) (b : Block) (a n t i v e : ℕ) : Type 0 where
  pub rule : b.rule ≡ Duration n
  pub first : a ≡ 1
  pub starts : i ≤ t
  pub ends : t < k
  pub here : v ≡ b.first + instant_place k a t i e

pub rise_begun : {k : ℕ} {b : Block} {a n t i p I : ℕ} → Rising b.rule a n → (a ≡ 0 → ⊥) → i ≤ t → t < k →
    p ≡ place_of k (record { i = i; j = i + (t + 1 - i) }) → I ≡ count_of k
    → Rises k b a n t i (b.first + p + I) 0
rise_begun {k} {b} {a} {n} {t} {i} {p} {I} r z o l e c = go r
  where
    go : Rising b.rule a n → Rises k b a n t i (b.first + p + I) 0
    go (inl w) = record {
      rule = w.0;
      first = w.1;
      starts = o;
      ends = l;
      here = omega (arith, e, c, ap (λ (j : ℕ). place_of k (record { i = i; j = j })) (end 0 k b i t o l), ap (λ (x : ℕ). (x + 0) * count_of k) w.1);
    }
    go (inr w) = absurd (z w.1)

pub begun_small : {k i t p I : ℕ} → k ≤ max_steps → i ≤ t → t < k → p ≡ place_of k (record { i = i; j = i + (t + 1 - i) }) → I ≡ count_of k → (p < max_count) × (I ≤ max_count)
begun_small {k} {i} {t} h o l e c = (omega (arith, e, interval_small k i (i + (t + 1 - i)) h (omega arith) (omega arith)), omega (arith, c, few_intervals k h))

module _ {k : ℕ} {b : Block} {a n t i v e I : ℕ} (f : Rises k b a n t i v e) (c : I ≡ count_of k) where
  pub rise_turn : Rises k b a n t i (v + I) (e + 1)
  rise_turn =
      let w : a + (e + 1) ≡ suc (a + e) = omega arith in
      record { rule = f.rule; first = f.first; starts = f.starts; ends = f.ends; here = omega (arith, f.here, c, ap (λ (x : ℕ). x * count_of k) w, suc-mul (a + e) (count_of k)) }

  module _ (h : e < n) where
    pub rise_clauses_lem : (C : ℕ) → clauses_of v (Step (v - 1) (v - 1 - I) (b.left + t)) ≡ clauses_at (defined_by C k b) (instant_place k a t i e)
    rise_clauses_lem C = level_clauses C k b i t f.starts f.ends f.rule (a + e) (omega (arith, f.first)) (omega (arith, f.first)) f.here c

    pub rise_asks : {C : ℕ} {values trail : List ℕ} {top : ℕ} → Standing C k b values trail top → Variable (length values) v ×
        InputsIn (length values) (Step (v - 1) (v - 1 - I) (b.left + t))
    rise_asks {C} s = level_asks C k b i t f.starts f.ends f.rule (a + e) (omega (arith, f.first)) (omega (arith, f.first)) f.here c s

    pub rise_small : {C : ℕ} → Bounded C k b → (v < bound + 257 * max_count) × (1 + I ≤ v) × (I ≤ max_count)
    rise_small s =
        let w = few_intervals k s.steps in (
          omega (
            arith,
            f.here,
            s.first,
            interval_small k i (t + 1) s.steps (omega (arith, f.starts)) (omega (arith, f.ends)),
            mul-le-mul {n₁ = a + e} {n₂ = 256} {m₂ = max_count} (omega (arith, f.first, level_le s.number f.rule)) w,
          ),
          omega (arith, f.here, c, longer_than_empty k i t f.starts, mul-le-mul_right {m = 1} {n = a + e} (count_of k) (omega (arith, f.first))),
          omega (arith, c, w),
        )
