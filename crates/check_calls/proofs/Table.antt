-- The rows of a formula's node table give its definitions, and then the root; so the clauses that the code asks about, row after row, are
-- those of the formula's table.
use mathlib.Core.Path.{◌≡◌, refl, sym, ap, ap₂, ◌∙◌, subst}
use mathlib.Core.Bool.{Bool, true, false, cond, ◌||◌}
use mathlib.Core.List.{List, [], ◌∷◌, ◌++◌, flat_map}
use Prim.Native.Nat.{ℕ, ◌+◌, ◌≤◌, ◌<◌}
use native.Mathlib.Omega.{arith}
use lib.ListN.{length}
use Rattle.std.specs.Prelude.{Err}
use Rattle.refusal.specs.Asked.{Reply, ok}
use Rattle.refusal.specs.declared.Refusal.{Refusal}
use Rattle.lists.specs.Listing.{rows}
use Rattle.lists.proofs.Listing.{rows_rest, rows_next}
use Rattle.paper_grammar.specs.Trees.{Tree}
use Rattle.paper_grammar.specs.declared.Sort.TheVariants.{Formula}
use Rattle.node_rows.specs.declared.NodeTable.{NodeTable}
use Rattle.paper_circuit.specs.Gates.{Assignment}
use Rattle.paper_circuit.specs.Circuit.{Definition}
use Rattle.table_blocks.specs.Blocks.{is_chop}
use Rattle.table_blocks.specs.declared.Block.{Block}
use Rattle.table_sizes.specs.Weights.{clause_weight, weight_to}
use Rattle.paper_clauses.specs.Clauses.{Clause, plain, clauses_by, clause_table, meets_clause}
use Rattle.table_sizes.proofs.Sizes.{clauses_by_lem}
use Rattle.table_nodes.specs.Nodes.{node_by}
use Rattle.node_calls.specs.Rows.{node_table_of}
use Rattle.table_layout.specs.Rows.{row_definitions, Measured}
use Rattle.table_layout.specs.declared.Sizes.{Sizes}
use Rattle.table_layout.proofs.Mentioned.{defined_known, root_known}
use Rattle.table_layout.proofs.Known.{rows_weigh}
use Rattle.paper_assignments.specs.Calls.{ask_clauses}
use Rattle.table_gates.specs.Mentioned.{AllMentioned}
use Rattle.check_clauses.proofs.Walk.{either, ask_append, first_no, then_asked}
use Rattle.check_calls.specs.Rows.{clauses_for}

-- ---- one row after another

module _ (D : ℕ → List Definition) {n x : ℕ} (h : x < n) where
  -- row x is among all
  abbrev after : (R : List Definition) × (rows (x + 1) D ++ R ≡ rows n D)
  after = rows_rest D n (x + 1) (omega arith)

  -- the rows before x are met, and row x is asked about, its first clause having the number m
  module _ (a : Assignment) {m : ℕ} (w : m ≡ 0 + length (clauses_by (rows x D))) (y : ok ≡ ask_clauses a 0 (clauses_by (rows x D))) {q : Reply} (o : q ≡ ask_clauses a m (clauses_by (D x))) where
    row_asked : q ≡ ask_clauses a 0 (clauses_by (rows (x + 1) D))
    row_asked = then_asked (rows x D) (D x) (rows_next D x) a 0 y refl w o

    pub row_met : q ≡ ok → ok ≡ ask_clauses a 0 (clauses_by (rows (x + 1) D))
    row_met e = sym e ∙ row_asked

    pub row_unmet : {r : Refusal} → q ≡ Err r → Err r ≡ ask_clauses a 0 (clauses_by (rows n D))
    row_unmet e = first_no (rows (x + 1) D) after.0 after.1 a 0 row_asked e

pub none_met : (a : Assignment) (D : ℕ → List Definition) → ok ≡ ask_clauses a 0 (clauses_by (rows 0 D))
unfolding rows clauses_by flat_map ask_clauses
none_met a D = refl

pub all_met : (a : Assignment) (D : ℕ → List Definition) {n x : ℕ} → x ≤ n → n ≤ x → ok ≡ ask_clauses a 0 (clauses_by (rows x D)) → ok ≡ ask_clauses a 0 (clauses_by (rows n D))
all_met a D {n} {x} h g y = let e : x ≡ n = omega arith in y ∙ ap (λ (n : ℕ). ask_clauses a 0 (clauses_by (rows n D))) e

-- the number of a row's first clause
pub row_number : (C k : ℕ) (kinds numbers sizes firsts : List ℕ) (x : ℕ) {m : ℕ} → m ≡ 0 + weight_to clause_weight k kinds numbers x →
    m ≡ 0 + length (clauses_by (rows x (row_definitions C k kinds numbers sizes firsts)))
row_number C k kinds numbers sizes firsts x e =
    omega (arith, e, clauses_by_lem (rows x (row_definitions C k kinds numbers sizes firsts)), rows_weigh C k kinds numbers sizes firsts clause_weight x)

-- the block that the code finds for a row is the row's
abbrev own_of : ℕ → ℕ → Block → List Definition
own_of C k b = node_by C k b (is_chop b.rule)

module _ (C k : ℕ) {b b' : Block} (e : b ≡ b') where
  pub block_mentioned : (l : ℕ) → AllMentioned l (own_of C k b') → AllMentioned l (own_of C k b)
  block_mentioned l a = subst (λ (b : Block). AllMentioned l (own_of C k b)) (sym e) a

  pub block_asked : (a : Assignment) (m : ℕ) {q : Reply} → q ≡ ask_clauses a m (clauses_by (own_of C k b)) → q ≡ ask_clauses a m (clauses_by (own_of C k b'))
  block_asked a m o = o ∙ ap (λ (b : Block). ask_clauses a m (clauses_by (own_of C k b))) e

-- ---- the root, alone

module _ (a : Assignment) (T : List Clause) (v : ℕ) {q : Reply} (f : q ≡ ask_clauses a 0 T) where
  abbrev whole : List Clause
  whole = T ++ (plain v ∷ []) ∷ []

  -- what the last clause says, its variable being high or low
  abbrev lastly : Bool → Reply
  lastly h = cond (h || false) ok (Err (record { number = 14; place = 0 + length T }))

  root_after : either q (lastly (a v)) ≡ ask_clauses a 0 whole
  unfolding ask_clauses meets_clause
  root_after = sym (ask_append a 0 T ((plain v ∷ []) ∷ []) ∙ ap (λ (q : Reply). either q (lastly (a v))) (sym f))

  pub nodes_unmet : {r : Refusal} → q ≡ Err r → Err r ≡ ask_clauses a 0 whole
  nodes_unmet e = sym (ap (λ (q : Reply). either q (lastly (a v))) e) ∙ root_after

  module _ (y : q ≡ ok) {h : Bool} (g : h ≡ a v) where
    root_next : (b : Bool) → h ≡ b → lastly b ≡ ask_clauses a 0 whole
    root_next b e = ap lastly (sym e ∙ g) ∙ sym (ap (λ (q : Reply). either q (lastly (a v))) y) ∙ root_after

    pub root_met : h ≡ true → ok ≡ ask_clauses a 0 whole
    root_met e = root_next true e

    pub root_unmet : h ≡ false → {m : ℕ} → m ≡ 0 + length T → Err (record { number = 14; place = m }) ≡ ask_clauses a 0 whole
    root_unmet e n = ap (λ (m : ℕ). Err (record { number = 14; place = m })) n ∙ root_next false e

-- ---- a formula's table

module _ (C k : ℕ) (f : Tree Formula) {T : NodeTable} (e : T ≡ node_table_of f) {F : List ℕ} {s : Sizes} (w : Measured C k T.kinds T.numbers T.count F s) where
  pub clauses_known : clauses_for C k T F ≡ clause_table C k f
  unfolding clause_table
  clauses_known = ap₂ (λ (D : List Definition) (v : ℕ). clauses_by D ++ (plain v ∷ []) ∷ []) (defined_known C k f e w) (root_known C k f e w)
