-- A block's gates by their places: where every place that mentions u is covered, the block is. A place tells what it is the place of, an
-- interval, a triple or an entry of the block, so a gate's input tells its gate but for the one coordinate over which the code walks.
use mathlib.Core.Path.{◌≡◌, sym, ap, ◌∙◌, subst}
use mathlib.Core.Bool.{false}
use mathlib.Core.List.{List, [], ◌∷◌}
use Prim.Native.Nat.{ℕ, suc, ◌+◌, ◌*◌, ◌≤◌, ◌<◌}
use native.Mathlib.Omega.{arith}
use lib.ListN.{get_or}
use Rattle.lists.specs.Listing.{rows, sum, All}
use Rattle.interval.specs.Places.{count_of, place_of, triple_place_of}
use Rattle.interval.specs.declared.Interval.{Interval}
use Rattle.interval.specs.declared.Triple.{Triple}
use Rattle.interval.proofs.Shape.{Shape, Entry, Inside, count, place, per, intervals, Numbered, get_or_per}
use Rattle.interval.proofs.Counts.{intervals_count}
use Rattle.interval.proofs.Laws.{intervals_numbered, triples_numbered, interval_entry, triple_entry}
use Rattle.lists.proofs.Lists.{all_map}
use Rattle.lists.proofs.Listing.{sum_alike}
use Rattle.paper_circuit.specs.Circuit.{Definition, define}
use Rattle.paper_circuit.specs.declared.Gate.{Gate}
use Rattle.paper_circuit.specs.declared.Gate.TheVariants.{Constant}
use Rattle.table_blocks.specs.Blocks.{shape_of, gate_by, gate_of, defined_by}
use Rattle.table_blocks.specs.declared.Block.{Block}
use Rattle.table_blocks.specs.declared.Rule.{Rule}
use Rattle.table_blocks.specs.declared.Rule.TheVariants.{Chop, Duration, Cut}
use Rattle.table_sizes.proofs.Weights.{block_length}
use Rattle.paper_clauses.specs.Clauses.{Clause, clauses_of, clauses_by}
use Rattle.search_visits.proofs.Parts.{Part}
use Rattle.search_clauses.specs.Clauses.{clauses_at}
use Rattle.search_fanout.specs.Fanout.{Names}
use Rattle.search_fanout.proofs.Named.{Mention, named, all_clauses, all_per}
use Rattle.search_fanout.proofs.Cover.{part_each, part_at, Covers, covers_self, covers_row, Suffices}

-- the same block by another rule
abbrev pub ruled : Rule → Block → Block
ruled q b = record { rule = q; points = b.points; first = b.first; left = b.left; right = b.right }

-- ---- a place tells what it is the place of

pub one_entry : (s : Shape) (x y : Entry s) → Inside s x → Inside s y → place s x ≡ place s y → x ≡ y
one_entry s x y h g e = sym (get_or_per s (λ x. x) x x h) ∙ ap (λ p. get_or (per s (λ x. x)) p x) e ∙ get_or_per s (λ x. x) y x g

injective : {A : Type 0} {In : A → Type 0} {placed : A → ℕ} {listed : List A} {n : ℕ} → Numbered In placed listed n → (a b : A) → In a → In b → placed a ≡ placed b → a ≡ b
injective {listed = listed} m a b i j e = sym (m.at_place a a i) ∙ ap (λ p. get_or listed p a) e ∙ m.at_place b a j

pub interval_same : (k : ℕ) {i j x y : ℕ} → i ≡ x → j ≡ y → place_of k (record { i = i; j = j }) ≡ place_of k (record { i = x; j = y })
interval_same k e f = ap (place_of k) (λ s. record { i = e s; j = f s })

pub triple_same : (k : ℕ) {i m j x y z : ℕ} → i ≡ x → m ≡ y → j ≡ z → triple_place_of k (record { i = i; m = m; j = j }) ≡ triple_place_of k (record { i = x; m = y; j = z })
triple_same k e f g = ap (triple_place_of k) (λ s. record { i = e s; m = f s; j = g s })

module _ (k : ℕ) where
  pub one_interval : (i j x y : ℕ) → i ≤ j → j ≤ k → x ≤ y → y ≤ k → place_of k (record { i = i; j = j }) ≡ place_of k (record { i = x; j = y }) → (i ≡ x) × (j ≡ y)
  one_interval i j x y a b c d e =
      let s = injective (intervals_numbered k) (record { i = i; j = j }) (record { i = x; j = y }) (record { starts = a; ends = b }) (record { starts = c; ends = d }) e in
      (ap (λ (v : Interval). v.i) s, ap (λ (v : Interval). v.j) s)

  pub one_triple : (i m j x y z : ℕ) → i ≤ m → m ≤ j → j ≤ k → x ≤ y → y ≤ z → z ≤ k
      → triple_place_of k (record { i = i; m = m; j = j }) ≡ triple_place_of k (record { i = x; m = y; j = z }) → (i ≡ x) × (m ≡ y) × (j ≡ z)
  one_triple i m j x y z a b c d f g e =
      let s = injective (triples_numbered k) (record { i = i; m = m; j = j }) (record { i = x; m = y; j = z }) (record {
        starts = a;
        cut = b;
        ends = c;
      }) (record { starts = d; cut = f; ends = g }) e in
      (ap (λ (v : Triple). v.i) s, ap (λ (v : Triple). v.m) s, ap (λ (v : Triple). v.j) s)

  -- the places of the code's positions
  pub cut_place : (points a i d : ℕ) → Inside (shape_of points k Cut) (a, (i, d)) → place (shape_of points k Cut) (a, (i, d)) ≡ triple_place_of k (record { i = a; m = a + d; j = a + i })
  cut_place points a i d h = sym (triple_entry k (a, (i, d)) h).1

  pub level_place : (points n a i d : ℕ) → Inside (shape_of points k (Duration n)) (a, (i, d)) →
      place (shape_of points k (Duration n)) (a, (i, d)) ≡ a * count_of k + place_of k (record { i = i; j = i + d })
  level_place points n a i d h = omega (arith, sum_alike (count (intervals k)) a, ap (λ c. a * c) (intervals_count k), (interval_entry k (i, d) h.1).1)

  pub level_count : (points n : ℕ) → count (shape_of points k (Duration n)) ≡ suc n * count_of k
  level_count points n = sum_alike (count (intervals k)) (suc n) ∙ ap (λ c. suc n * c) (intervals_count k)

  pub chop_place : (points a i d : ℕ) → Inside (shape_of points k Chop) (a, (i, d)) → place (shape_of points k Chop) (a, (i, d)) ≡ place_of k (record { i = i; j = i + d })
  unfolding sum
  chop_place points a i d h = let z : a ≡ 0 = omega (arith, h.0) in omega (arith, (interval_entry k (i, d) h.1).1, ap (sum (λ _. count (intervals k))) z)

-- ---- a block by its places

-- place p is one of f 0, .., f (m − 1); of m times n places
abbrev pub Hit : ℕ → (ℕ → ℕ) → ℕ → Type 0
Hit m f p = (e : ℕ) × (e < m) × (f e ≡ p)

abbrev pub HitTwo : ℕ → ℕ → (ℕ → ℕ → ℕ) → ℕ → Type 0
HitTwo m n f p = (i : ℕ) × (e : ℕ) × (i < m) × (e < n) × (f i e ≡ p)

-- where u is named at all, all of these hold
pick : (X : Type 0) (P Q : Clause → Type 0) (L : List Clause) → All (λ c. P c → X) L → (X → All (λ c. P c → Q c) L) → All (λ c. P c → Q c) L
pick X P Q [] a g = tt
pick X P Q (c ∷ L) a g = ((λ p. (g (a.0 p)).0 p), pick X P Q L a.1 (λ x. (g x).1))

module _ (C k u : ℕ) (b : Block) where
  abbrev pub shape : Shape
  shape = shape_of b.points k b.rule

  abbrev pub gate : Entry shape → Gate
  gate x = gate_by C k b.first b.left b.right (place shape x) x.0 x.1.0 x.1.1 b.rule

  -- u is mentioned at x
  abbrev pub At : Entry shape → Type 0
  At x = Mention u (b.first + place shape x) (gate x)

  pub there : (x : Entry shape) → Inside shape x → clauses_at (defined_by C k b) (place shape x) ≡ clauses_of (b.first + place shape x) (gate x)
  unfolding defined_by gate_of
  there x h = ap (λ (d : Definition). clauses_of d.variable d.gate) (get_or_per shape (λ x. define (b.first + place shape x) (gate x)) x (define 0 (Constant false)) h)

  pub covered : {W : List Clause} (X : ℕ → Type 0) → ((p : ℕ) → X p → Covers (clauses_at (defined_by C k b) p) u W) → ((x : Entry shape) → Inside shape x → At x → X (place shape x))
      → Covers (clauses_by (defined_by C k b)) u W
  unfolding defined_by gate_of
  covered X w hits = record {
    whatever = λ Q q.
        all_clauses (λ c. Names u c → Q c) (defined_by C k b)
        (all_per (λ (d : Definition). All (λ c. Names u c → Q c) (clauses_of d.variable d.gate)) shape
        (λ x. define (b.first + place shape x) (gate x)) (λ x h.
        let T = clauses_of (b.first + place shape x) (gate x) in
        pick (X (place shape x)) (Names u) Q T (all_map (λ c. Names u c → At x) (λ c. Names u c → X (place shape x)) (λ c f m. hits x h (f m)) T (named u (b.first + place shape x) (gate x)))
        (λ y. subst (All (λ c. Names u c → Q c)) (there x h) ((w (place shape x) y).whatever Q q))));
  }

  abbrev pub at : ℕ → List Clause
  at p = clauses_at (defined_by C k b) p

  at_place : {p y : ℕ} → y ≡ p → Covers (at p) u (at y)
  at_place {p} {y} e = subst (λ p. Covers (at p) u (at y)) e (covers_self (at y) u)

  pub part_place_lem : (p : ℕ) → p < count shape → Part (at p) (clauses_by (defined_by C k b))
  part_place_lem p h = part_at (defined_by C k b) p (omega (arith, h, block_length C k b))

  abbrev pub all : List Clause
  all = clauses_by (defined_by C k b)

  -- one place
  pub one_place : (y : ℕ) → y < count shape → ((x : Entry shape) → Inside shape x → At x → y ≡ place shape x) → Suffices all u (at y)
  one_place y h hits = record { part = part_place_lem y h; covers = covered (λ p. y ≡ p) (λ p e. at_place e) hits }

  -- m places
  pub some_places : (m : ℕ) (f : ℕ → ℕ) → ((e : ℕ) → e < m → f e < count shape) →
      ((x : Entry shape) → Inside shape x → At x → Hit m f (place shape x)) → Suffices all u (rows m (λ e. at (f e)))
  some_places m f h hits = record {
    part = part_each all (λ e. at (f e)) m (λ e l. part_place_lem (f e) (h e l));
    covers = covered (Hit m f) (λ p o. covers_row (λ e. at (f e)) m o.0 o.1 (at_place o.2)) hits;
  }

  -- m times n places
  pub more_places : (m n : ℕ) (f : ℕ → ℕ → ℕ) → ((i e : ℕ) → i < m → e < n → f i e < count shape) →
      ((x : Entry shape) → Inside shape x → At x → HitTwo m n f (place shape x))
      → Suffices all u (rows m (λ i. rows n (λ e. at (f i e))))
  more_places m n f h hits = record {
    part = part_each all (λ i. rows n (λ e. at (f i e))) m (λ i l. part_each all (λ e. at (f i e)) n (λ e g. part_place_lem (f i e) (h i e l g)));
    covers = covered (HitTwo m n f) (λ p o. covers_row (λ i. rows n (λ e. at (f i e))) m o.0 o.2 (covers_row (λ e. at (f o.0 e)) n o.1 o.3 (at_place o.4))) hits;
  }
