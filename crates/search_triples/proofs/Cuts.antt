-- A triple's gate is its definition's, by its place and those of its two parts. The next in order of j stands after the triples of [i, j],
-- and the next in order of i as many places further as triples start at i, less those of [i, j].
use mathlib.Core.Path.{◌≡◌, sym, ap, ap₂, ◌∙◌, subst}
use mathlib.Core.List.{List}
use Prim.Native.Nat.{ℕ, suc, ◌+◌, ◌-◌, ◌^◌, ◌≤◌, ◌<◌}
use native.Mathlib.Nat.{zero-add}
use native.Mathlib.Omega.{arith}
use lib.ListN.{length}
use Rattle.lists.specs.Listing.{sum}
use Rattle.interval.specs.Places.{count_of, triple_count_of, place_of, triple_place_of}
use Rattle.interval.specs.Limits.{max_steps, max_count}
use Rattle.interval.specs.declared.Triple.{Triple}
use Rattle.lists.proofs.Listing.{sum_next}
use Rattle.interval.proofs.Counts.{triangle_count, interval_place, triple_count_le, few_intervals}
use Rattle.interval.proofs.Laws.{triple_place, triples_numbered}
use Rattle.paper_circuit.specs.declared.Gate.TheVariants.{Both}
use Rattle.table_blocks.specs.Blocks.{gate_of, defined_by, Placed, Bounded, bound}
use Rattle.table_blocks.specs.declared.Block.{Block}
use Rattle.table_blocks.specs.declared.Rule.{Rule}
use Rattle.table_blocks.specs.declared.Rule.TheVariants.{Cut}
use Rattle.table_blocks.proofs.Positions.{gate_by_lem}
use Rattle.paper_clauses.specs.Clauses.{clauses_of}
use Rattle.table_gates.specs.Mentioned.{Variable, InputsIn}
use Rattle.search_clauses.specs.Clauses.{clauses_at}
use Rattle.search_clauses.proofs.Walk.{clauses_here, visit_asks}
use Rattle.search_fanout.specs.Walks.{Standing}
use Rattle.search_walks.proofs.Places.{interval_small}

module _ (C k : ℕ) (b : Block) (cut : b.rule ≡ Cut) (i m j : ℕ) (o : i ≤ m) (p : m ≤ j) (q : j ≤ k) where
  abbrev t : Triple
  t = record { i = i; m = m; j = j }

  placed : Placed b.points k b.rule (triple_place_of k t) i (j - i) (m - i)
  placed = subst (λ (r : Rule). Placed b.points k r (triple_place_of k t) i (j - i) (m - i)) (sym cut)
      (record { inside = (omega arith, (omega arith, omega arith)); at = triple_place k t (record { starts = o; cut = p; ends = q }) })

  module _ {v x y : ℕ} (e : v ≡ b.first + triple_place_of k t) (f : x ≡ b.left + place_of k (record { i = i; j = m })) (g : y ≡ b.right + place_of k (record { i = m; j = j })) where
    gate : Both x y ≡ gate_of C k b (triple_place_of k t) i (j - i) (m - i)
    gate =
        let a : m ≡ i + (m - i) = omega arith in
        let d : j ≡ i + (j - i) = omega arith in
        ap₂ Both (f ∙ ap (λ (n : ℕ). b.left + place_of k (record { i = i; j = n })) a) (g ∙ ap₂ (λ (n l : ℕ). b.right + place_of k (record { i = n; j = l })) a d)
        ∙ gate_by_lem C k b (triple_place_of k t) i (j - i) (m - i) cut

    triple_clauses_lem : clauses_of v (Both x y) ≡ clauses_at (defined_by C k b) (triple_place_of k t)
    triple_clauses_lem = ap (λ (v : ℕ). clauses_of v (Both x y)) e ∙ clauses_here C k b placed gate

    triple_asks : {values trail : List ℕ} {top : ℕ} → Standing C k b values trail top → Variable (length values) v × InputsIn (length values) (Both x y)
    triple_asks {values} s = let a = visit_asks C k b placed gate (s.bounded, s.points) s.mentioned in (subst (Variable (length values)) (sym e) a.0, a.1)

-- ---- a place is small

triple_small : (k i m j : ℕ) → k ≤ max_steps → i ≤ m → m ≤ j → j ≤ k → triple_place_of k (record { i = i; m = m; j = j }) < 2 ^ 23
unfolding triple_count_of
triple_small k i m j h o p q = omega (arith, (triples_numbered k).below (record { i = i; m = m; j = j }) (record { starts = o; cut = p; ends = q }), triple_count_le max_steps k h)

-- ---- the next triple

first_next : (k i m e : ℕ) → i ≤ m → m + (e + 1) ≤ k → triple_place_of k (record { i = i; m = m; j = m + e }) + (m - i + 1 + e) ≡ triple_place_of k (record { i = i; m = m; j = m + (e + 1) })
first_next k i m e o h =
    let n : m + (e + 1) - i ≡ m + e - i + 1 = omega arith in
    omega (
      arith,
      triple_place k (record { i = i; m = m; j = m + e }) (record { starts = o; cut = omega arith; ends = omega arith }),
      triple_place k (record { i = i; m = m; j = m + (e + 1) }) (record { starts = o; cut = omega arith; ends = h }),
      ap (sum suc) n,
      sum_next suc (m + e - i),
    )

start_next : (k m e : ℕ) → place_of k (record { i = m; j = m + e }) ≡ place_of k (record { i = m; j = m }) + e
unfolding place_of
start_next k m e = omega arith

-- the loop over j stands at m + e: v is the triple, x its first part, and the second parts start at y
pub record Firsts (k : ℕ) (b : Block) (i m x y v e : ℕ) : Type 0 where
  pub cut : b.rule ≡ Cut
  pub starts : i ≤ m
  pub ends : m ≤ k
  pub left : x ≡ b.left + place_of k (record { i = i; j = m })
  pub right : y ≡ place_of k (record { i = m; j = m })
  pub here : e ≤ k - m → v ≡ b.first + triple_place_of k (record { i = i; m = m; j = m + e })

pub first_begun : {k : ℕ} {b : Block} {i m p y v : ℕ} → b.rule ≡ Cut → i ≤ m → m ≤ k →
    p ≡ place_of k (record { i = i; j = i + (m - i) }) → y ≡ place_of k (record { i = m; j = m + 0 })
    → v ≡ triple_place_of k (record { i = i; m = i + (m - i); j = i + (m - i) }) → Firsts k b i m (b.left + p) y (b.first + v) 0
first_begun {k} {b} {i} {m} c o h e f g =
    let a : i + (m - i) ≡ m = omega arith in
    let z : m + 0 ≡ m = omega arith in
    record {
      cut = c;
      starts = o;
      ends = h;
      left = ap (λ (p : ℕ). b.left + p) (e ∙ ap (λ (j : ℕ). place_of k (record { i = i; j = j })) a);
      right = f ∙ ap (λ (j : ℕ). place_of k (record { i = m; j = j })) z;
      here = λ _. ap (λ (p : ℕ). b.first + p) (g ∙ ap₂ (λ (m j : ℕ). triple_place_of k (record { i = i; m = m; j = j })) a (a ∙ sym z));
    }

module _ {k : ℕ} {b : Block} {i m x y v e : ℕ} (f : Firsts k b i m x y v e) (h : e < k - m + 1) where
  second : b.right + y + e ≡ b.right + place_of k (record { i = m; j = m + e })
  second = omega (arith, f.right, start_next k m e)

  pub first_clauses_lem : (C : ℕ) → clauses_of v (Both x (b.right + y + e)) ≡ clauses_at (defined_by C k b) (triple_place_of k (record { i = i; m = m; j = m + e }))
  first_clauses_lem C = triple_clauses_lem C k b f.cut i m (m + e) f.starts (omega arith) (omega (arith, f.ends)) (f.here (omega arith)) f.left second

  pub first_asks : {C : ℕ} {values trail : List ℕ} {top : ℕ} → Standing C k b values trail top → Variable (length values) v × InputsIn (length values) (Both x (b.right + y + e))
  first_asks {C} s = triple_asks C k b f.cut i m (m + e) f.starts (omega arith) (omega (arith, f.ends)) (f.here (omega arith)) f.left second s

  pub first_turn : Firsts k b i m x y (v + (m - i + 1 + e)) (e + 1)
  first_turn = record {
    cut = f.cut;
    starts = f.starts;
    ends = f.ends;
    left = f.left;
    right = f.right;
    here = λ g. omega (arith, f.here (omega arith), first_next k i m e f.starts (omega (arith, f.ends)));
  }

  pub first_small : {C : ℕ} → Bounded C k b → (y < max_count) × (v < bound + 2 ^ 23) × (e ≤ max_steps) × (m ≤ max_steps)
  first_small s = (
    omega (arith, f.right, interval_small k m m s.steps (omega arith) f.ends),
    omega (arith, f.here (omega arith), triple_small k i m (m + e) s.steps f.starts (omega arith) (omega (arith, f.ends)), s.first),
    omega (arith, s.steps),
    omega (arith, f.ends, s.steps),
  )

-- ---- the next start

-- the triples that start at i
abbrev from : ℕ → ℕ → ℕ
from k i = sum suc (suc k - i)

from_next : (k i : ℕ) → i ≤ k → from k i ≡ from k (i + 1) + (k - i + 1)
from_next k i h =
    let a : suc k - i ≡ k - i + 1 = omega arith in
    let b : suc k - (i + 1) ≡ k - i = omega arith in
    omega (arith, ap (sum suc) a, ap (sum suc) b, sum_next suc (k - i))

from_small : (k i : ℕ) → k ≤ max_steps → i ≤ k → (from k i ≤ max_count) × (k - i + 1 ≤ from k i)
from_small k i h o =
    let a : suc k - i ≡ suc (k - i) = omega arith in
    (omega (arith, ap (sum suc) a, triangle_count (k - i), few_intervals (k - i) (omega arith)), omega (arith, from_next k i o))

start_place : (k i m : ℕ) → i + 1 ≤ m → m ≤ k → place_of k (record { i = i; j = m }) + (k - i) ≡ place_of k (record { i = i + 1; j = m })
start_place k i m o h =
    omega (
      arith,
      interval_place k (record { i = i; j = m }) (record { starts = omega arith; ends = h }),
      interval_place k (record { i = i + 1; j = m }) (record { starts = o; ends = h }),
      sum_next (λ i. suc k - i) i,
    )

start_triple : (k i m j : ℕ) → i + 1 ≤ m → m ≤ j → j ≤ k
    → triple_place_of k (record { i = i; m = m; j = j }) + from k i - (j - i + 1) ≡ triple_place_of k (record { i = i + 1; m = m; j = j })
start_triple k i m j o p h =
    let a : j - i ≡ j - (i + 1) + 1 = omega arith in
    omega (
      arith,
      triple_place k (record { i = i; m = m; j = j }) (record { starts = omega arith; cut = p; ends = h }),
      triple_place k (record { i = i + 1; m = m; j = j }) (record { starts = o; cut = p; ends = h }),
      sum_next (from k) i,
      ap (sum suc) a,
      sum_next suc (j - (i + 1)),
    )

-- the loop over i: v is the triple, x its first part, y the second's place, and so many start at i
pub record Seconds (k : ℕ) (b : Block) (m j y x v row i : ℕ) : Type 0 where
  pub cut : b.rule ≡ Cut
  pub starts : m ≤ j
  pub ends : j ≤ k
  pub right : y ≡ place_of k (record { i = m; j = j })
  pub many : row ≡ from k i
  pub left : i ≤ m → x ≡ b.left + place_of k (record { i = i; j = m })
  pub here : i ≤ m → v ≡ b.first + triple_place_of k (record { i = i; m = m; j = j })

pub second_begun : {k : ℕ} {b : Block} {m j y v row : ℕ} → b.rule ≡ Cut → m ≤ j → j ≤ k → y ≡ place_of k (record { i = m; j = m + (j - m) }) → row ≡ count_of k
    → v ≡ triple_place_of k (record { i = 0; m = 0 + m; j = 0 + j }) → Seconds k b m j y (b.left + m) (b.first + v) row 0
unfolding sum
second_begun {k} {b} {m} {j} c o h e f g =
    let a : m + (j - m) ≡ j = omega arith in
    let z : suc k ≡ suc k - 0 = omega arith in
    record {
      cut = c;
      starts = o;
      ends = h;
      right = e ∙ ap (λ (j : ℕ). place_of k (record { i = m; j = j })) a;
      many = f ∙ sym (triangle_count k) ∙ ap (sum suc) z;
      left = λ _. omega (arith, interval_place k (record { i = 0; j = m }) (record { starts = omega arith; ends = omega arith }));
      here = λ _. ap (λ (p : ℕ). b.first + p) (g ∙ ap₂ (λ (m j : ℕ). triple_place_of k (record { i = 0; m = m; j = j })) (zero-add m) (zero-add j));
    }

module _ {k : ℕ} {b : Block} {m j y x v row i : ℕ} (f : Seconds k b m j y x v row i) (h : i < m + 1) where
  pub second_clauses_lem : (C : ℕ) → clauses_of v (Both x (b.right + y)) ≡ clauses_at (defined_by C k b) (triple_place_of k (record { i = i; m = m; j = j }))
  second_clauses_lem C = triple_clauses_lem C k b f.cut i m j (omega arith) f.starts f.ends (f.here (omega arith)) (f.left (omega arith)) (ap (λ (p : ℕ). b.right + p) f.right)

  pub second_asks : {C : ℕ} {values trail : List ℕ} {top : ℕ} → Standing C k b values trail top → Variable (length values) v × InputsIn (length values) (Both x (b.right + y))
  second_asks {C} s = triple_asks C k b f.cut i m j (omega arith) f.starts f.ends (f.here (omega arith)) (f.left (omega arith)) (ap (λ (p : ℕ). b.right + p) f.right) s

  pub second_turn : Seconds k b m j y (x + (k - i)) (v + row - (j - i + 1)) (row - (k - i + 1)) (i + 1)
  second_turn = record {
    cut = f.cut;
    starts = f.starts;
    ends = f.ends;
    right = f.right;
    many = omega (arith, f.many, from_next k i (omega (arith, f.starts, f.ends)));
    left = λ g. omega (arith, f.left (omega arith), start_place k i m g (omega (arith, f.starts, f.ends)));
    here = λ g. omega (arith, f.here (omega arith), f.many, start_triple k i m j g f.starts f.ends, from_small');
  }
    where
      from_small' : j - i + 1 ≤ from k i
      from_small' = omega (arith, from_next k i (omega (arith, f.starts, f.ends)), f.ends)

  pub second_small : {C : ℕ} → Bounded C k b → (y < max_count) × (x < bound + max_count) × (v < bound + 2 ^ 23) × (row ≤ max_count) ×
      (k - i + 1 ≤ row) × (j ≤ k) × (k ≤ max_steps) × (i ≤ j)
  second_small s =
      let w = from_small k i s.steps (omega (arith, f.starts, f.ends)) in (
        omega (arith, f.right, interval_small k m j s.steps f.starts f.ends),
        omega (arith, f.left (omega arith), interval_small k i m s.steps (omega arith) (omega (arith, f.starts, f.ends)), s.left),
        omega (arith, f.here (omega arith), triple_small k i m j s.steps (omega arith) f.starts f.ends, s.first),
        omega (arith, f.many, w),
        omega (arith, f.many, w),
        f.ends,
        s.steps,
        omega (arith, f.starts),
      )
