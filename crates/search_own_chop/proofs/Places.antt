-- Where a chop's own variable stands: on an interval or a triple, in that one's place among them.
-- A triple's variable is named by its own gate and by two clauses of its interval's.
use mathlib.Core.Path.{◌≡◌, refl, sym, ap, ap₂, ◌∙◌, subst}
use mathlib.Core.Bool.{true, false}
use mathlib.Core.List.{List, [], ◌∷◌, ◌++◌}
use Prim.Native.Nat.{ℕ, suc, ◌+◌, ◌-◌, ◌<◌}
use native.Mathlib.Omega.{arith}
use lib.ListN.{length}
use Rattle.interval.specs.Limits.{IntervalOf}
use Rattle.interval.specs.Places.{count_of, place_of, triple_place_of}
use Rattle.interval.specs.declared.Interval.{Interval}
use Rattle.interval.specs.declared.Triple.{Triple}
use Rattle.interval.proofs.Shape.{Inside, place, place_lt, get_or_per}
use Rattle.interval.proofs.Laws.{triple_place, triples_numbered, triples_in_a_row, counts_at_32}
use Rattle.paper_circuit.specs.Circuit.{define}
use Rattle.paper_circuit.specs.declared.Gate.TheVariants.{Constant, AnyOf}
use Rattle.table_blocks.specs.Blocks.{shape_of, gate_by, gate_of, defined_by, Placed, Before}
use Rattle.table_blocks.specs.declared.Block.{Block}
use Rattle.table_blocks.specs.declared.Rule.TheVariants.{Chop, Cut}
use Rattle.table_sizes.proofs.Weights.{block_length}
use Rattle.table_nodes.specs.Walk.{definition_in}
use Rattle.table_nodes.specs.Nodes.{interval_block, triple_block}
use Rattle.table_nodes.proofs.Nodes.{halves}
use Rattle.table_gates.specs.Mentioned.{Variable, Mentioned, AllMentioned}
use Rattle.search_decode.specs.Decode.{InPlace, TripleIn}
use Rattle.search_closing.specs.Values.{Trailing}
use Rattle.search_visits.specs.Visits.{Visited, Row, raised_by, long_by}
use Rattle.search_visits.proofs.Parts.{visited_named, visited_stop, visited_then}
use Rattle.search_clauses.specs.Clauses.{clauses_at}
use Rattle.search_closing.specs.declared.Closed.{Closed}
use Rattle.search_fanout.specs.Fanout.{Node, triple_clauses}
use Rattle.search_fanout.proofs.Fine.{cut_place, chop_place}
use Rattle.search_fanout.proofs.Stands.{intervals_stand}

module _ (points k x : ℕ) where
  pub interval_placed : (v : Interval) → InPlace k x v → Placed points k Chop x 0 v.i (v.j - v.i)
  interval_placed v (o, e) =
      let g : Inside (shape_of points k Chop) (0, (v.i, v.j - v.i)) = (omega arith, (omega (arith, o.starts, o.ends), omega (arith, o.starts, o.ends))) in
      let t : v.i + (v.j - v.i) ≡ v.j = omega (arith, o.starts) in
      record { inside = g; at = sym e ∙ ap (λ (j : ℕ). place_of k (record { i = v.i; j = j })) (sym t) ∙ sym (chop_place k points 0 v.i (v.j - v.i) g) }

  pub triple_placed : (t : Triple) → TripleIn k x t → Placed points k Cut x t.i (t.j - t.i) (t.m - t.i)
  triple_placed t (o, e) =
      let g : Inside (shape_of points k Cut) (t.i, (t.j - t.i, t.m - t.i)) =
      (omega (arith, o.starts, o.cut, o.ends), (omega (arith, o.starts, o.cut, o.ends), omega (arith, o.starts, o.cut, o.ends))) in
      let m : t.i + (t.m - t.i) ≡ t.m = omega (arith, o.starts) in
      let j : t.i + (t.j - t.i) ≡ t.j = omega (arith, o.starts, o.cut) in
      record { inside = g; at = sym e ∙ ap (triple_place_of k) (λ s. record { i = t.i; m = sym m s; j = sym j s }) ∙ sym (cut_place k points t.i (t.j - t.i) (t.m - t.i) g) }

-- ---- a chop's interval and its triples' variables

module _ (C k w : ℕ) (b : Block) (v : Interval) (o : IntervalOf k v) where
  abbrev d : ℕ
  d = v.j - v.i

  chop_definition : definition_in (defined_by C k (interval_block w b)) (place_of k v) ≡ define (b.first + place_of k v) (AnyOf (w + triple_place_of k (record { i = v.i; m = v.i; j = v.j })) (suc d))
  unfolding defined_by gate_of
  chop_definition =
      let q = interval_placed b.points k (place_of k v) v (o, refl) in
      let s = shape_of b.points k Chop in
      let t : v.i + d ≡ v.j = omega (arith, o.starts) in
      ap (definition_in (defined_by C k (interval_block w b))) q.at
      ∙ get_or_per s (λ y. define (b.first + place s y) (gate_by C k b.first w b.right (place s y) y.0 y.1.0 y.1.1 Chop)) (0, (v.i, d)) (define 0 (Constant false)) q.inside
      ∙ ap₂ (λ (y z : ℕ). define (b.first + y) (AnyOf (w + z) (suc d))) (sym q.at) (ap (triple_place_of k) (λ s. record { i = v.i; m = v.i; j = t s }))

  pub chop_asks : {n : ℕ} → AllMentioned n (defined_by C k (interval_block w b))
      → Variable n (b.first + place_of k v) × ((e : ℕ) → e < suc d → Variable n (w + triple_place_of k (record { i = v.i; m = v.i; j = v.j }) + e))
  chop_asks {n} f =
      let l : place_of k v < length (defined_by C k (interval_block w b)) =
      omega (
        arith,
        block_length C k (interval_block w b),
        (interval_placed b.points k (place_of k v) v (o, refl)).at,
        place_lt (shape_of b.points k Chop) (0, (v.i, d)) (interval_placed b.points k (place_of k v) v (o, refl)).inside,
      ) in
      let m = subst (Mentioned n) chop_definition (f (place_of k v) l) in
      (m.variable, m.inputs)

-- before the triples of an interval stand as many as its first one's place says
pub before_here : (points k : ℕ) (v : Interval) → IntervalOf k v → {at : ℕ} → at ≡ triple_place_of k (record { i = v.i; m = v.i + 0; j = v.i + (v.j - v.i) })
    → Before points k Chop (record { row = 0; line = v.i; cell = v.j - v.i; before = at })
before_here points k v o e =
    let m : v.i + 0 ≡ v.i = omega arith in
    let j : v.i + (v.j - v.i) ≡ v.j = omega (arith, o.starts) in
    let f : triple_place_of k (record { i = v.i; m = v.i + 0; j = v.i + (v.j - v.i) }) ≡ triple_place_of k (record { i = v.i; m = v.i; j = v.j }) =
    ap₂ (λ (m j : ℕ). triple_place_of k (record { i = v.i; m = m; j = j })) m j in
    omega (arith, e, f, triple_place k (record { i = v.i; m = v.i; j = v.j }) (record { starts = omega arith; cut = o.starts; ends = o.ends }))

-- ---- by the code's blocks

module _ (k : ℕ) (b : Block) (w x : ℕ) {t : Block} (e : t ≡ triple_block w b) where
  pub triple_here : (v : Triple) → TripleIn k x v → Placed t.points k t.rule x v.i (v.j - v.i) (v.m - v.i)
  triple_here v o = subst (λ (t : Block). Placed t.points k t.rule x v.i (v.j - v.i) (v.m - v.i)) (sym e) (triple_placed b.points k x v o)

module _ (k : ℕ) (b : Block) (w : ℕ) {s : Block} (e : s ≡ interval_block w b) (v : Interval) where
  pub interval_here : {x : ℕ} → InPlace k x v → Placed s.points k s.rule x 0 v.i (v.j - v.i)
  interval_here {x} o = subst (λ (s : Block). Placed s.points k s.rule x 0 v.i (v.j - v.i)) (sym e) (interval_placed b.points k x v o)

  pub before_at : IntervalOf k v → {at : ℕ} → at ≡ triple_place_of k (record { i = v.i; m = v.i + 0; j = v.i + (v.j - v.i) })
      → s.rule ≡ Chop → Before s.points k Chop (record { row = 0; line = v.i; cell = v.j - v.i; before = at })
  before_at o f g = before_here s.points k v o f

pub interval_clauses : (C k : ℕ) (b : Block) (x : ℕ) {w : ℕ} {s : Block} → w ≡ b.first + count_of k → s ≡ interval_block w b
    → clauses_at (defined_by C k s) x ≡ clauses_at (defined_by C k (interval_block (b.first + count_of k) b)) x
interval_clauses C k b x e f = ap (λ (s : Block). clauses_at (defined_by C k s) x) (f ∙ ap (λ (w : ℕ). interval_block w b) e)

-- ---- a triple's variable: its own gate, and its interval's two clauses

pub one_place : (k x : ℕ) (t : Triple) → TripleIn k x t → x ≡ triple_place_of k (record { i = t.i; m = t.i; j = t.j }) + (t.m - t.i)
one_place k x t (o, e) = sym e ∙ triples_in_a_row k t.i t.m t.j o.starts o.cut o.ends

module _ {C k : ℕ} {b : Block} {values trail : List ℕ} {top : ℕ} (n : Node C k b values trail top) (q : b.rule ≡ Chop) {w x : ℕ}
    (e : w ≡ b.first + count_of k) (t : Triple) (o : TripleIn k x t)
    {p : ℕ} (f : p ≡ place_of k (record { i = t.i; j = t.i + (t.j - t.i) })) {v₁ t₁ : List ℕ} {top₁ : ℕ} where
  pub one_asks : length v₁ ≡ length values → Trailing v₁ t₁ top₁
      → Trailing v₁ t₁ top₁ × Variable (length v₁) (b.first + p) × Row (length v₁) (w + x - (t.m - t.i)) (t.j - t.i + 1) × (t.m - t.i < t.j - t.i + 1)
  one_asks l r =
      let v : Interval = record { i = t.i; j = t.j } in
      let i : IntervalOf k v = record { starts = omega (arith, o.0.starts, o.0.cut); ends = o.0.ends } in
      let j : t.i + (t.j - t.i) ≡ t.j = omega (arith, o.0.starts, o.0.cut) in
      let g : p ≡ place_of k v = f ∙ ap (λ (j : ℕ). place_of k (record { i = t.i; j = j })) j in
      let s = intervals_stand n q (halves b refl refl refl) in
      let a = chop_asks C k (b.first + count_of k) b v i s.mentioned in
      let d = one_place k x t o in
      let c = a.1 (t.j - t.i) (omega arith) in (
        r,
        (omega (arith, a.0, g, l)),
        (
          omega (
            arith,
            e,
            d,
            n.fine.first,
            (triples_numbered k).below
                (record { i = t.i; m = t.i; j = t.j }) (record { starts = omega arith; cut = i.starts; ends = i.ends }),
            counts_at_32 k
                n.fine.bounded.steps,
            n.fine.bounded.steps,
            i.ends,
          ),
          (λ y h. omega (arith, a.1 y (omega arith), e, d, l)),
        ),
        omega (arith, o.0.cut),
      )

module _ (C k : ℕ) (b : Block) (t : Triple) {x w : ℕ} (o : TripleIn k x t) (e : w ≡ b.first + count_of k) {s : Block} (f : s ≡ triple_block w b) where
  own_clauses : clauses_at (defined_by C k s) x ≡ clauses_at (defined_by C k (triple_block (b.first + count_of k) b)) (triple_place_of k t)
  own_clauses = ap₂ (λ (s : Block) (x : ℕ). clauses_at (defined_by C k s) x) (f ∙ ap (λ (w : ℕ). triple_block w b) e) (sym o.1)

  pub first_visit : {v₀ t₀ v₁ t₁ : List ℕ} {top₀ : ℕ} {r : Closed} → r.clash ≡ true →
      Visited (clauses_at (defined_by C k s) x) v₀ t₀ top₀ v₁ t₁ r → Visited (triple_clauses C k b t) v₀ t₀ top₀ v₁ t₁ r
  first_visit g v = visited_stop (visited_named own_clauses v) _ g

  pub both_visits : {v₀ t₀ v₁ t₁ : List ℕ} {top₀ : ℕ} {r : Closed} → r.clash ≡ false →
      Visited (clauses_at (defined_by C k s) x) v₀ t₀ top₀ v₁ t₁ r → {p : ℕ} → p ≡ place_of k (record { i = t.i; j = t.i + (t.j - t.i) }) →
      {v₂ t₂ : List ℕ} {q : Closed}
      → Visited (raised_by (b.first + p) (w + x - (t.m - t.i)) (t.m - t.i) ++ long_by (b.first + p) (w + x - (t.m - t.i)) (t.j - t.i + 1) ∷ []) v₁ t₁ r.top v₂ t₂ q
      → Visited (triple_clauses C k b t) v₀ t₀ top₀ v₂ t₂ q
  both_visits g v {p} h u =
      let j : t.i + (t.j - t.i) ≡ t.j = omega (arith, o.0.starts, o.0.cut) in
      let a : b.first + p ≡ b.first + place_of k (record { i = t.i; j = t.j }) = ap (λ (p : ℕ). b.first + p) (h ∙ ap (λ (j : ℕ). place_of k (record { i = t.i; j = j })) j) in
      let c : w + x - (t.m - t.i) ≡ b.first + count_of k + triple_place_of k (record { i = t.i; m = t.i; j = t.j }) = omega (arith, e, one_place k x t o) in
      let n : t.j - t.i + 1 ≡ suc (t.j - t.i) = omega arith in
      visited_then (visited_named own_clauses v) _ g
      (visited_named (λ i. raised_by (a i) (c i) (t.m - t.i) ++ long_by (a i) (c i) (n i) ∷ []) u)
