-- The inputs of each definition are channels, the truth of the node's parts, whose blocks follow its own, or variables of its own block
-- whose turn comes before. So no input is the variable itself; and two inputs lie in different blocks, or at different places of one.
use mathlib.Core.Path.{◌≡◌}
use mathlib.Core.Logic.{◌≢◌}
use mathlib.Core.Bool.{cond}
use mathlib.Core.List.{List, [], ◌∷◌, ◌++◌, map}
use Prim.Native.Nat.{ℕ, zero, suc, ◌+◌, ◌-◌, ◌*◌, ◌<◌}
use native.Mathlib.Nat.{suc-mul}
use native.Mathlib.Omega.{arith}
use lib.Dec.{eqb}
use lib.Arith.{digits_lt}
use borrow.Author.Tests.{eqb-true, eqb-false}
use Rattle.lists.specs.Listing.{rows, tab, All}
use Rattle.interval.specs.Places.{count_of, triple_count_of, place_of, triple_place_of, intervals_of, triples_of}
use Rattle.interval.specs.Limits.{IntervalOf, TripleOf}
use Rattle.interval.specs.declared.Interval.{Interval}
use Rattle.interval.specs.declared.Triple.{Triple}
use Rattle.interval.proofs.Laws.{intervals_numbered, triples_numbered, triples_in_a_row}
use Rattle.paper_grammar.specs.Trees.{Link, and, or, chop, Tree, constant, letter, negation, pair, duration, throughout, Letters}
use Rattle.paper_grammar.specs.declared.Sort.{Sort}
use Rattle.paper_grammar.specs.declared.Sort.TheVariants.{State, Formula}
use Rattle.lists.proofs.Tests.{cond_elim}
use Rattle.paper_grammar.specs.Nodes.{nodes_of}
use Rattle.lists.proofs.Lists.{all_append, all_rows, all_mapped}
use Rattle.paper_circuit.specs.Gates.{inputs_of}
use Rattle.paper_circuit.specs.Circuit.{Definition, define, points_of, shorter, level_of, width_of, blocks_of, truth_of, throughout_gate, level_gate, triple_gate, chop_gate, own_by, own_of}
use Rattle.paper_circuit.specs.declared.Gate.{Gate}
use Rattle.paper_circuit.proofs.Blocks.{From, parts_of, blocks_append, truth_lt}

-- no entry occurs twice
abbrev pub Distinct : List ℕ → Type 0
Distinct [] = Unit
Distinct (u ∷ l) = All (λ w. u ≢ w) l × Distinct l

pub intervals_in : (k : ℕ) → All (IntervalOf k) (intervals_of k)
unfolding intervals_of
intervals_in k = all_rows _ _ _ (λ i h. all_rows _ _ _ (λ d g. (omega arith, tt)))

pub triples_in : (k : ℕ) → All (TripleOf k) (triples_of k)
unfolding triples_of
triples_in k = all_rows _ _ _ (λ i h. all_rows _ _ _ (λ d g. all_rows _ _ _ (λ e f. (omega arith, tt))))

distinct_snoc : (l : List ℕ) (u : ℕ) → Distinct l → All (λ w. w ≢ u) l → Distinct (l ++ u ∷ [])
distinct_snoc [] u d a = (tt, tt)
distinct_snoc (w ∷ l) u d a = (all_append (λ u. w ≢ u) l (u ∷ []) d.0 (a.0, tt), distinct_snoc l u d.1 a.1)

distinct_tab : (w n : ℕ) → Distinct (tab n (λ e. w + e))
unfolding rows
distinct_tab w zero = tt
distinct_tab w (suc n) = distinct_snoc (tab n (λ e. w + e)) (w + n) (distinct_tab w n) (all_rows _ n _ (λ i h. (omega arith, tt)))

-- place p of row c is among the places of n rows
pub row_lt : (w n c p : ℕ) → c < n → p < w → c * w + p < n * w
row_lt w n c p h g = digits_lt h g

-- when a variable of a node's own block has its turn, the block ending at e: those of a chop go backwards, as its triples come first
abbrev pub turn_of : {s : Sort} → Tree s → ℕ → ℕ → ℕ
turn_of (constant v) e u = u
turn_of (letter c) e u = u
turn_of (negation x) e u = u
turn_of (pair l x y) e u = e - u
turn_of (duration x n) e u = u
turn_of (throughout x) e u = u

-- where u stands, an input of v of the block of x, which begins at b
pub data Input (C k b : ℕ) {s : Sort} (x : Tree s) (v u : ℕ) : Type 0 where
  channel : From 1 (k * C) u → Input C k b x v u
  part : From (b + width_of k x) (blocks_of k (parts_of x)) u → Input C k b x v u
  own : From b (width_of k x) u × (turn_of x (b + width_of k x) u < turn_of x (b + width_of k x) v) → Input C k b x v u

-- v of the block of x, which begins at b, and its inputs
pub record Stands (C k b : ℕ) {s : Sort} (x : Tree s) (v : ℕ) (us : List ℕ) : Type 0 where
  pub inside : From b (width_of k x) v
  pub inputs : All (Input C k b x v) us
  pub apart : Distinct us

module _ (C k b : ℕ) where
  abbrev Defined : {s : Sort} → Tree s → Definition → Type 0
  Defined x d = Stands C k b x d.variable (inputs_of d.gate)

  -- an input from each part
  two_parts : {s : Sort} (l : Link s) (x y : Tree s) (v p q : ℕ) → From b (width_of k (pair l x y)) v → p < points_of s k → q < points_of s k
      → (let e = b + width_of k (pair l x y) in Stands C k b (pair l x y) v ((e + truth_of k x + p) ∷ (e + blocks_of k (nodes_of x 0) + truth_of k y + q) ∷ []))
  two_parts l x y v p q h i j =
      let m = truth_lt k x p i in
      let n = truth_lt k y q j in
      let o = blocks_append k (nodes_of x 0) (nodes_of y 0) in
      record { inside = h; inputs = (part (omega arith), (part (omega arith), tt)); apart = omega arith }

  -- a triple's w
  triple_stands : (x y : Tree Formula) (t : Triple) → TripleOf k t
      → (let e = b + (count_of k + triple_count_of k) in
      Defined (pair chop x y) (define (b + count_of k + triple_place_of k t) (triple_gate k (e + truth_of k x) (e + blocks_of k (nodes_of x 0) + truth_of k y) t)))
  unfolding width_of inputs_of
  triple_stands x y t o =
      two_parts chop x y (b + count_of k + triple_place_of k t) _ _ (omega (arith, (triples_numbered k).below t o))
      ((intervals_numbered k).below (record { i = t.i; j = t.m }) (omega arith)) ((intervals_numbered k).below (record { i = t.m; j = t.j }) (omega arith))

  -- a chop on an interval: its inputs are w of the interval's triples
  chop_stands : (x y : Tree Formula) (v : Interval) → IntervalOf k v → Defined (pair chop x y) (define (b + place_of k v) (chop_gate k (b + count_of k) v))
  unfolding width_of inputs_of
  chop_stands x y v o =
      let n = suc (v.j - v.i) in
      let p = (intervals_numbered k).below v o in
      record {
        inside = omega arith;
        inputs = all_rows _ n _ (λ e h.
            let q = (triples_numbered k).below (record { i = v.i; m = v.i + e; j = v.j }) (omega arith) in
            let r = triples_in_a_row k v.i (v.i + e) v.j (omega arith) (omega arith) (omega arith) in
            (own (omega arith), tt));
        apart = distinct_tab (b + count_of k + triple_place_of k (record { i = v.i; m = v.i; j = v.j })) n;
      }

  -- a gate for empty intervals, and one for the others, which looks at the shorter interval and at the last instant
  by_shorter : (P : Gate → Type 0) (v : Interval) {g h : Gate} → IntervalOf k v → P g → (place_of k (shorter v) + 1 ≡ place_of k v → v.j - 1 < k → P h)
      → P (cond (eqb v.i v.j) g h)
  unfolding place_of
  by_shorter P v o f g = cond_elim P (eqb v.i v.j) (λ e. f) (λ e. let n = eqb-false v.i v.j e in g (omega arith) (omega arith))

  throughout_stands : (x : Tree State) (v : Interval) → IntervalOf k v
      → Defined (throughout x) (define (b + place_of k v) (throughout_gate k b (b + count_of k + truth_of k x) v))
  unfolding width_of inputs_of
  throughout_stands x v o =
      let p = (intervals_numbered k).below v o in
      by_shorter Fine v o (omega arith)
      (λ q h. let t = truth_lt k x (v.j - 1) h in
      cond_elim Fine (eqb (v.i + 1) v.j) (λ e. record { inside = omega arith; inputs = (part (omega (arith, eqb-true (v.i + 1) v.j e)), tt); apart = (tt, tt) })
      (λ e. record { inside = omega arith; inputs = (own (omega arith), (part (omega arith), tt)); apart = omega arith }))
    where
      Fine : Gate → Type 0
      Fine g = Stands C k b (throughout x) (b + place_of k v) (inputs_of g)

  level_stands : (x : Tree State) (n c : ℕ) → c < suc n → (v : Interval) → IntervalOf k v
      → Defined (duration x n) (define (level_of k b c v) (level_gate k b (b + suc n * count_of k + truth_of k x) c v))
  unfolding width_of inputs_of
  level_stands x n zero l v o = let p = row_lt (count_of k) (suc n) 0 (place_of k v) l ((intervals_numbered k).below v o) in omega arith
  level_stands x n (suc c) l v o =
      let m = (intervals_numbered k).below v o in
      let p = row_lt (count_of k) (suc n) (suc c) (place_of k v) l m in
      by_shorter (λ g. Stands C k b (duration x n) (level_of k b (suc c) v) (inputs_of g)) v o (omega arith)
      (λ q h.
      let r = suc-mul c (count_of k) in
      let t = truth_lt k x (v.j - 1) h in
      record { inside = omega arith; inputs = (own (omega arith), (own (omega arith), (part (omega arith), tt))); apart = omega arith })

  pub own_stands : {s : Sort} (x : Tree s) → Letters C x → All (Defined x) (own_of C k b x)
  unfolding width_of own_of own_by inputs_of
  own_stands {s} (constant v) L = all_rows _ (points_of s k) _ (λ p h. omega arith)
  own_stands (letter c) L = all_rows _ k _ (λ t h. (record { inside = omega arith; inputs = (channel (omega (arith, row_lt C k t c h L)), tt); apart = (tt, tt) }, tt))
  own_stands {s} (negation x) L =
      all_rows _ (points_of s k) _ (λ p h. (record { inside = omega arith; inputs = (part (omega (arith, truth_lt k x p h)), tt); apart = (tt, tt) }, tt))
  own_stands {s} (pair and x y) L = all_rows _ (points_of s k) _ (λ p h. (two_parts and x y (b + p) p p (omega arith) h h, tt))
  own_stands {s} (pair or x y) L = all_rows _ (points_of s k) _ (λ p h. (two_parts or x y (b + p) p p (omega arith) h h, tt))
  own_stands (pair chop x y) L =
      all_append _ (map _ (triples_of k)) (map _ (intervals_of k)) (all_mapped (Defined (pair chop x y)) (TripleOf k) _ (triples_of k) (triple_stands x y) (triples_in k))
      (all_mapped (Defined (pair chop x y)) (IntervalOf k) _ (intervals_of k) (chop_stands x y) (intervals_in k))
  own_stands (duration x n) L = all_rows _ (suc n) _ (λ c h. all_mapped (Defined (duration x n)) (IntervalOf k) _ (intervals_of k) (level_stands x n c h) (intervals_in k))
  own_stands (throughout x) L = all_mapped (Defined (throughout x)) (IntervalOf k) _ (intervals_of k) (throughout_stands x) (intervals_in k)
