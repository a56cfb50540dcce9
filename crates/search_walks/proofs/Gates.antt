-- The gate in a place is that of its definition, whose clauses a visit goes through: a triple's goes by its two parts, that of a block of
-- one line by its pattern and its inputs.
use mathlib.Core.Path.{◌≡◌, refl, sym, ap₂, ◌∙◌, subst}
use mathlib.Core.List.{List}
use Prim.Native.Nat.{ℕ, ◌+◌}
use lib.ListN.{length}
use Rattle.interval.specs.Places.{place_of}
use Rattle.paper_circuit.specs.declared.Gate.{Gate}
use Rattle.paper_circuit.specs.declared.Gate.TheVariants.{Both}
use Rattle.table_blocks.specs.Blocks.{gate_of, defined_by, Placed}
use Rattle.table_blocks.specs.declared.Block.{Block}
use Rattle.table_blocks.specs.declared.Rule.TheVariants.{Cut}
use Rattle.table_blocks.proofs.Positions.{gate_by_lem}
use Rattle.paper_clauses.specs.Clauses.{clauses_of}
use Rattle.search_closing.specs.declared.Closed.{Closed}
use Rattle.search_patterns.specs.Patterns.{Settled, pattern_of, among, renamed}
use Rattle.search_visits.specs.Visits.{Visited}
use Rattle.search_visits.proofs.Parts.{settled_visited, visited_named}
use Rattle.table_gates.specs.Mentioned.{Variable, InputsIn}
use Rattle.search_clauses.specs.Clauses.{clauses_at}
use Rattle.search_clauses.proofs.Walk.{clauses_here, visit_asks}
use Rattle.search_fanout.specs.Walks.{Standing}
use Rattle.search_walks.specs.declared.Inputs.{Inputs}
use Rattle.search_walks.specs.Lines.{GoesBy}

module _ (C k : ℕ) (b : Block) (x a i d : ℕ) where
  pub cut_gate : b.rule ≡ Cut → {p q : ℕ} → p ≡ place_of k (record { i = a; j = a + d }) → q ≡ place_of k (record { i = a + d; j = a + i }) →
      Both (b.left + p) (b.right + q) ≡ gate_of C k b x a i d
  cut_gate r e f = ap₂ (λ (p q : ℕ). Both (b.left + p) (b.right + q)) e f ∙ gate_by_lem C k b x a i d r

-- ---- its visit

module _ {C k : ℕ} {b : Block} {values trail : List ℕ} {top x a i d : ℕ} (s : Standing C k b values trail top) (p : Placed b.points k b.rule x a i d) where
  pub variable_here : Variable (length values) (b.first + x)
  variable_here = (visit_asks C k b p refl (s.bounded, s.points) s.mentioned).0

  module _ {g : Gate} (e : g ≡ gate_of C k b x a i d) where
    pub inputs_here : InputsIn (length values) g
    inputs_here = (visit_asks C k b p e (s.bounded, s.points) s.mentioned).1

    pub visited_here : {v t : List ℕ} {r : Closed} → Settled (clauses_of (b.first + x) g) values trail top v t r → Visited (clauses_at (defined_by C k b) x) values trail top v t r
    visited_here w = visited_named (clauses_here C k b p e) (settled_visited w)

-- ---- a line's gate, its rule being known

pub goes_by : (C k : ℕ) (b : Block) (x v : ℕ) {g : Gate} → g ≡ gate_of C k b x 0 0 x → (r : Inputs) →
    renamed (among v r.x r.y v) (pattern_of r.gate) ≡ clauses_of v g
    → ((l : ℕ) → Variable l v → InputsIn l g → Variable l r.x × Variable l r.y) → GoesBy C k b x v r
goes_by C k b x v {g} e r c f =
    subst (λ (g : Gate). (renamed (among v r.x r.y v) (pattern_of r.gate) ≡ clauses_of v g) ×
    ((l : ℕ) → Variable l v → InputsIn l g → Variable l r.x × Variable l r.y) → GoesBy C k b x v r) (sym e)
    (λ w. record { clauses = w.0; inputs = w.1 }) (c, f)
