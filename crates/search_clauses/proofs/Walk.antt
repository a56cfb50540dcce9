-- The definitions of a block stand in the order of places, so the walk visits the clauses of the definition in place x at its turn x.
-- By its gate it is one visit.
use mathlib.Core.Path.{◌≡◌, refl, sym, ap, ◌∙◌, subst}
use mathlib.Core.List.{List, [], ◌∷◌, ◌++◌, flat_map}
use Prim.Native.Nat.{ℕ, ◌+◌, ◌≤◌, ◌<◌}
use native.Mathlib.Omega.{arith}
use lib.ListN.{length}
use Rattle.lists.specs.Listing.{rows}
use Rattle.interval.specs.Limits.{max_count}
use Rattle.interval.proofs.Shape.{place_lt}
use Rattle.paper_circuit.specs.Circuit.{Definition}
use Rattle.paper_circuit.specs.declared.Gate.{Gate}
use Rattle.table_blocks.specs.Blocks.{shape_of, gate_of, defined_by, Placed, Bounded, is_chop}
use Rattle.table_blocks.specs.declared.Block.{Block}
use Rattle.paper_clauses.specs.Clauses.{Clause, clauses_of, clauses_by}
use Rattle.table_gates.specs.Within.{Within}
use Rattle.table_sizes.proofs.Weights.{block_length}
use Rattle.table_nodes.specs.Walk.{DefinedAt, Walks}
use Rattle.table_nodes.specs.declared.cursor.Cursor.{Cursor}
use Rattle.table_nodes.proofs.Walk.{rows_first, all_defined, definition_here, defined_at}
use mathlib.Core.Bool.{Bool}
use Rattle.interval.specs.Places.{count_of}
use Rattle.table_nodes.specs.Nodes.{chopped_by, node_by}
use Rattle.table_nodes.proofs.Nodes.{clauses_join, Halves, chopped, node_known}
use Rattle.table_gates.specs.Mentioned.{Variable, InputsIn, Mentioned, AllMentioned}
use Rattle.table_layout.specs.Rows.{block_by, row_definitions}
use Rattle.search_clauses.specs.Clauses.{clauses_at, row_clauses}

pub by_rows : (D : List Definition) → rows (length D) (clauses_at D) ≡ clauses_by D
unfolding rows clauses_by flat_map
by_rows [] = refl
by_rows (d ∷ D) = rows_first (length D) (clauses_at (d ∷ D)) ∙ ap (λ (T : List Clause). clauses_of d.variable d.gate ++ T) (by_rows D)

-- the definition in place x
module _ {C k : ℕ} {block : Block} {x : ℕ} {gate : Gate} (g : DefinedAt C k block x gate) where
  pub clauses_at_lem : clauses_of (block.first + x) gate ≡ clauses_at (defined_by C k block) x
  clauses_at_lem = sym (ap (λ (d : Definition). clauses_of d.variable d.gate) g.here)

  pub asks_at : {l : ℕ} → x < length (defined_by C k block) → AllMentioned l (defined_by C k block) → Variable l (block.first + x) × InputsIn l gate × Within gate
  asks_at {l} h f = let e = subst (Mentioned l) g.here (f x h) in (e.variable, e.inputs, g.within)

-- the same by its position
module _ (C k : ℕ) (block : Block) {x a i d : ℕ} (p : Placed block.points k block.rule x a i d) {gate : Gate} (g : gate ≡ gate_of C k block x a i d) where
  pub clauses_here : clauses_of (block.first + x) gate ≡ clauses_at (defined_by C k block) x
  clauses_here = sym (ap (λ (d : Definition). clauses_of d.variable d.gate) (definition_here C k block p g))

  pub visit_asks : {l : ℕ} → Bounded C k block × (block.points ≤ max_count) → AllMentioned l (defined_by C k block) → Variable l (block.first + x) × InputsIn l gate × Within gate
  visit_asks s f = asks_at (defined_at C k block p g s.0) (omega (arith, p.at, block_length C k block, place_lt (shape_of block.points k block.rule) (a, (i, d)) p.inside)) f

pub whole_block : (C : ℕ) {k : ℕ} {block : Block} {c : Cursor} → Walks k block c → rows c.end (clauses_at (defined_by C k block)) ≡ clauses_by (defined_by C k block)
whole_block C {k} {block} w = ap (λ (n : ℕ). rows n (clauses_at (defined_by C k block))) (all_defined C w) ∙ by_rows (defined_by C k block)

-- ---- a length that is the same

pub still : (D : List Definition) {n m : ℕ} → m ≡ n → AllMentioned n D → AllMentioned m D
still D e f = subst (λ (n : ℕ). AllMentioned n D) (sym e) f

-- ---- a chop, a node known to be one or not

pub chop_clauses : (C : ℕ) {k : ℕ} {b t s : Block} → Halves k b t s → clauses_by (defined_by C k t) ++ clauses_by (defined_by C k s) ≡ clauses_by (chopped_by C k (b.first + count_of k) b)
chop_clauses C {k} {b} {t} {s} h = sym (clauses_join (defined_by C k t) (defined_by C k s)) ∙ ap clauses_by (chopped C h)

pub node_clauses_lem : (C k : ℕ) (b : Block) {c d : Bool} → c ≡ is_chop b.rule → c ≡ d → clauses_by (node_by C k b d) ≡ clauses_by (node_by C k b (is_chop b.rule))
node_clauses_lem C k b e f = ap clauses_by (node_known C k b e f)

pub node_mentioned : (C k : ℕ) (b : Block) {c d : Bool} {n : ℕ} → c ≡ is_chop b.rule → c ≡ d → AllMentioned n (node_by C k b (is_chop b.rule)) → AllMentioned n (node_by C k b d)
node_mentioned C k b {n = n} e f m = subst (AllMentioned n) (sym (node_known C k b e f)) m

-- ---- a node by its row

module _ (C k : ℕ) (kinds numbers sizes firsts : List ℕ) (x : ℕ) (b : Block) (e : b ≡ block_by kinds numbers sizes firsts k x) where
  same_row : row_definitions C k kinds numbers sizes firsts x ≡ node_by C k b (is_chop b.rule)
  same_row = ap (λ (b : Block). node_by C k b (is_chop b.rule)) (sym e)

  pub row_mentioned : {n m : ℕ} → m ≡ n → AllMentioned n (row_definitions C k kinds numbers sizes firsts x) → AllMentioned m (node_by C k b (is_chop b.rule))
  row_mentioned {n} {m} l f = still (node_by C k b (is_chop b.rule)) l (subst (AllMentioned n) same_row f)

  pub row_clauses_lem : clauses_by (node_by C k b (is_chop b.rule)) ≡ row_clauses C k kinds numbers sizes firsts x
  row_clauses_lem = sym (ap clauses_by same_row)
