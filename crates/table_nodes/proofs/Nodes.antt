-- A node's definitions are those of its one block, or of a chop's two, one after the other; so are their clauses' places.
-- The blocks of a node whose block is fine are bounded.
use mathlib.Core.Path.{◌≡◌, refl, sym, ap, ap₂, ◌∙◌, subst}
use mathlib.Core.Bool.{Bool}
use mathlib.Core.List.{List, [], ◌∷◌, ◌++◌, flat_map}
use Prim.Native.Nat.{ℕ, zero, suc, ◌+◌, ◌≤◌, ◌<◌}
use native.Mathlib.Omega.{arith}
use Rattle.lists.specs.Listing.{rows, tab, sum}
use Rattle.interval.specs.Limits.{max_steps, max_count}
use Rattle.interval.specs.Places.{count_of}
use Rattle.interval.proofs.Counts.{count_le}
use Rattle.lists.proofs.Lists.{flat_append}
use Rattle.paper_meaning.specs.Meaning.{bit}
use Rattle.paper_circuit.specs.Circuit.{Definition, define}
use Rattle.paper_circuit.specs.declared.Gate.TheVariants.{Constant}
use Rattle.table_blocks.specs.Blocks.{is_chop, gate_of, defined_by, Bounded, bound}
use Rattle.table_blocks.specs.declared.Block.{Block}
use Rattle.table_blocks.specs.declared.Rule.TheVariants.{Fixed}
use Rattle.paper_clauses.specs.Clauses.{clauses_of, clauses_by}
use Rattle.paper_clauses.specs.Entries.{Entry, entry, entries_of, flat}
use Rattle.table_literals.specs.Written.{Room, Wrote, run_of}
use Rattle.paper_clauses.proofs.Flat.{flat_join}
use Rattle.table_literals.proofs.Written.{and_then, named, room_first, room_next}
use Rattle.table_nodes.specs.Nodes.{triple_block, interval_block, chopped_by, node_by, node_places, Fine}

pub clauses_join : (D E : List Definition) → clauses_by (D ++ E) ≡ clauses_by D ++ clauses_by E
unfolding clauses_by
clauses_join D E = flat_append (λ (d : Definition). clauses_of d.variable d.gate) D E

pub places_join : (D E : List Definition) → flat (clauses_by D) ++ flat (clauses_by E) ≡ flat (clauses_by (D ++ E))
places_join D E = sym (ap flat (clauses_join D E) ∙ flat_join (clauses_by D) (clauses_by E))

-- ---- a constant's block is one line, and each of its clauses one literal

constant_places : (b n : ℕ) (v : Bool) → rows n (run_of b (bit v + 2)) ≡ flat (clauses_by (tab n (λ p. define (b + (0 + (0 + p))) (Constant v))))
unfolding clauses_by flat flat_map entries_of clauses_of rows
constant_places b zero v = refl
constant_places b (suc n) v =
    ap₂ (λ (F : List Entry) (p : ℕ). F ++ entry (b + p) (bit v + 2) ∷ []) (constant_places b n v) (omega arith)
    ∙ places_join (tab n (λ p. define (b + (0 + (0 + p))) (Constant v))) (define (b + (0 + (0 + n))) (Constant v) ∷ [])

pub constant_known : (C k : ℕ) (b : Block) {v : Bool} → b.rule ≡ Fixed v → {m : ℕ} → m ≡ bit v + 2 → rows b.points (run_of b.first m) ≡ flat (clauses_by (defined_by C k b))
unfolding defined_by gate_of rows sum
constant_known C k b {v} e f =
    let same : record { rule = Fixed v; points = b.points; first = b.first; left = b.left; right = b.right } ≡ b =
    λ i. record { rule = sym e i; points = b.points; first = b.first; left = b.left; right = b.right } in
    ap (λ (m : ℕ). rows b.points (run_of b.first m)) f ∙ constant_places b.first b.points v ∙ ap (λ (b : Block). flat (clauses_by (defined_by C k b))) same

-- ---- a chop's two blocks, as the code has found them

pub record Halves (k : ℕ) (b t s : Block) : Type 0 where
  pub triples : t ≡ triple_block (b.first + count_of k) b
  pub intervals : s ≡ interval_block (b.first + count_of k) b

pub halves : {k w : ℕ} (b : Block) {t s : Block} → w ≡ b.first + count_of k → t ≡ triple_block w b → s ≡ interval_block w b → Halves k b t s
halves b e f g = record { triples = f ∙ ap (λ (w : ℕ). triple_block w b) e; intervals = g ∙ ap (λ (w : ℕ). interval_block w b) e }

module _ (C : ℕ) {k : ℕ} {b t s : Block} (h : Halves k b t s) where
  pub chopped : defined_by C k t ++ defined_by C k s ≡ chopped_by C k (b.first + count_of k) b
  chopped = ap₂ (λ (t s : Block). defined_by C k t ++ defined_by C k s) h.triples h.intervals

  module _ (f : Fine C k b) where
    beyond : b.first + count_of k < bound
    unfolding count_of
    beyond = omega (arith, f.first, count_le max_steps k f.bounded.steps)

    pub triples_bounded : Bounded C k t × (t.points ≤ max_count)
    triples_bounded =
        subst (λ (t : Block). Bounded C k t × (t.points ≤ max_count)) (sym h.triples)
        (record { channels = f.bounded.channels; steps = f.bounded.steps; number = omega arith; first = beyond; left = f.bounded.left; right = f.bounded.right }, f.points)

    pub intervals_bounded : Bounded C k s × (s.points ≤ max_count)
    intervals_bounded =
        subst (λ (s : Block). Bounded C k s × (s.points ≤ max_count)) (sym h.intervals)
        (record { channels = f.bounded.channels; steps = f.bounded.steps; number = omega arith; first = f.bounded.first; left = beyond; right = f.bounded.right }, f.points)

  abbrev triples : List Entry
  triples = flat (clauses_by (defined_by C k t))

  abbrev intervals : List Entry
  intervals = flat (clauses_by (defined_by C k s))

  places : triples ++ intervals ≡ flat (clauses_by (chopped_by C k (b.first + count_of k) b))
  places = places_join (defined_by C k t) (defined_by C k s) ∙ ap (λ (D : List Definition). flat (clauses_by D)) chopped

  module _ {v m : List ℕ} {at : ℕ} (r : Room v m at (flat (clauses_by (chopped_by C k (b.first + count_of k) b)))) where
    pub room_triples : Room v m at triples
    room_triples = room_first r triples intervals places

    pub room_intervals : {v' m' : List ℕ} {at' : ℕ} → Wrote v m at triples v' m' at' → Room v' m' at' intervals
    room_intervals t = room_next r triples intervals places t

  pub wrote_chopped : {v m v' m' v'' m'' : List ℕ} {at at' at'' : ℕ} → Wrote v m at triples v' m' at' → Wrote v' m' at' intervals v'' m'' at''
      → Wrote v m at (flat (clauses_by (chopped_by C k (b.first + count_of k) b))) v'' m'' at''
  wrote_chopped s t = named places (and_then s t)

-- ---- a node, known to be a chop or not

pub node_known : (C k : ℕ) (b : Block) {c d : Bool} → c ≡ is_chop b.rule → c ≡ d → node_by C k b d ≡ node_by C k b (is_chop b.rule)
node_known C k b e f = ap (node_by C k b) (sym f ∙ e)

pub places_known : (C k : ℕ) (b : Block) {c d : Bool} → c ≡ is_chop b.rule → c ≡ d → flat (clauses_by (node_by C k b d)) ≡ node_places C k b
unfolding node_places
places_known C k b e f = ap (λ (D : List Definition). flat (clauses_by D)) (node_known C k b e f)
