-- The sums along the node table are the sizes of the formula's table, since a row weighs what its node's definitions weigh; and the
-- places that the rows give are the table's.
use mathlib.Core.Path.{◌≡◌, refl, sym, ap, ◌∙◌, subst}
use mathlib.Core.Bool.{Bool, true, false, cond}
use mathlib.Core.List.{List, [], ◌∷◌, ◌++◌, flat_map, append-nil}
use Prim.Native.Nat.{ℕ, ◌+◌, ◌*◌, ◌≤◌}
use native.Mathlib.Nat.{zero-add}
use native.Mathlib.Omega.{arith}
use lib.ListN.{length, get_or, length-append, length-map}
use Rattle.lists.specs.Listing.{rows, sum}
use Rattle.interval.specs.Places.{count_of}
use Rattle.lists.proofs.Listing.{measure_rows, length_rows}
use Rattle.paper_grammar.specs.Trees.{Tree}
use Rattle.paper_grammar.specs.declared.Sort.TheVariants.{Formula}
use Rattle.paper_grammar.specs.Nodes.{Node, nodes_of}
use Rattle.node_rows.specs.Table.{row_of, table_of}
use Rattle.node_rows.specs.declared.NodeTable.{NodeTable}
use Rattle.paper_circuit.specs.Circuit.{variables_of, definitions_of, root_of}
use Rattle.table_blocks.specs.Blocks.{is_chop, defined_by}
use Rattle.table_blocks.specs.declared.Block.{Block}
use Rattle.table_blocks.proofs.Rules.{chop_rule}
use Rattle.table_blocks.specs.declared.Rule.TheVariants.{Cut}
use Rattle.table_sizes.specs.Weights.{weight_all, variable_weight, clause_weight, literal_weight, weight_by, row_weight, weight_to}
use Rattle.table_sizes.specs.declared.Weight.{Weight}
use Rattle.table_sizes.proofs.Weights.{weight_append, block_weight}
use Rattle.table_sizes.proofs.Rows.{weight_before, all_weight, part_width}
use Rattle.paper_clauses.specs.Clauses.{plain, clauses_by, clause_table}
use Rattle.paper_clauses.specs.Entries.{Entry, entries_of, flat}
use Rattle.table_literals.specs.Written.{Room}
use Rattle.paper_clauses.proofs.Flat.{length_flat_join}
use Rattle.table_sizes.proofs.Sizes.{clauses_by_lem, literals_by}
use Rattle.table_nodes.specs.Nodes.{triple_block, interval_block, node_by, node_places}
use Rattle.node_calls.specs.Rows.{node_table_of}
use Rattle.table_layout.specs.Rows.{block_by, row_definitions, row_places, root_places, nodes_places, table_places, Measured}
use Rattle.table_layout.specs.declared.Sizes.{Sizes}
use Rattle.table_layout.proofs.Places.{kinds, numbers, sizes, table_places_lem}

-- ---- how many places a table takes, whatever the node table says

node_weight : (w : Weight) (C k : ℕ) (b : Block) (c : Bool) → is_chop b.rule ≡ c
    → weight_all w (node_by C k b c) ≡ cond c (weight_by w k b.points b.rule + weight_by w k b.points Cut) (weight_by w k b.points b.rule)
node_weight w C k b true e =
    let t = triple_block (b.first + count_of k) b in
    let i = interval_block (b.first + count_of k) b in
    omega (arith, weight_append w (defined_by C k t) (defined_by C k i), block_weight w C k t, block_weight w C k i, ap (weight_by w k b.points) (chop_rule b.rule e))
node_weight w C k b false e = block_weight w C k b

module _ (C k : ℕ) (kinds numbers sizes firsts : List ℕ) where
  row_weighs : (w : Weight) (x : ℕ) → weight_all w (row_definitions C k kinds numbers sizes firsts x) ≡ row_weight w k (get_or kinds x 0) (get_or numbers x 0)
  unfolding row_weight block_by
  row_weighs w x = let b = block_by kinds numbers sizes firsts k x in node_weight w C k b (is_chop b.rule) refl

  pub rows_weigh : (w : Weight) (n : ℕ) → weight_all w (rows n (row_definitions C k kinds numbers sizes firsts)) ≡ weight_to w k kinds numbers n
  unfolding weight_to weight_all
  rows_weigh w n = measure_rows (weight_all w) refl (weight_append w) (row_definitions C k kinds numbers sizes firsts) (λ y. row_weight w k (get_or kinds y 0) (get_or numbers y 0)) (row_weighs w) n

module _ (C k : ℕ) (T : NodeTable) (firsts : List ℕ) where
  row_length : (x : ℕ) → length (row_places C k T.kinds T.numbers T.sizes firsts x) ≡ row_weight literal_weight k (get_or T.kinds x 0) (get_or T.numbers x 0)
  unfolding node_places
  row_length x = literals_by (row_definitions C k T.kinds T.numbers T.sizes firsts x) ∙ row_weighs C k T.kinds T.numbers T.sizes firsts literal_weight x

  places_length : length (table_places C k T firsts) ≡ 1 + weight_to literal_weight k T.kinds T.numbers T.count
  unfolding weight_to rows
  places_length =
      length-append (nodes_places C k T firsts) _
      ∙ omega (arith, length_rows (row_places C k T.kinds T.numbers T.sizes firsts) (λ y. row_weight literal_weight k (get_or T.kinds y 0) (get_or T.numbers y 0)) row_length T.count)

pub table_room : {C k : ℕ} (T : NodeTable) {firsts : List ℕ} {s : Sizes} {v m : List ℕ} → Measured C k T.kinds T.numbers T.count firsts s →
    s.literals ≤ length v → s.literals ≤ length m
    → Room v m 0 (table_places C k T firsts)
table_room {C} {k} T {firsts} w g h =
    let l = places_length C k T firsts in
    record { variables = omega (arith, l, w.literals, g); marks = omega (arith, l, w.literals, h) }

-- ---- the table of a formula

module _ (C k : ℕ) (f : Tree Formula) where
  abbrev nodes : List Node
  nodes = nodes_of f 0

  abbrev places : List Entry
  places = flat (clause_table C k f)

  abbrev before : Weight → ℕ
  before w = weight_before w k nodes (length nodes)

  root_length : length (flat ((plain (root_of C k f) ∷ []) ∷ [])) ≡ 1
  unfolding flat flat_map entries_of
  root_length = refl

  pub literals_are : length places ≡ 1 + before literal_weight
  unfolding clause_table definitions_of
  literals_are =
      let D = definitions_of C k nodes in
      omega (arith, root_length, length_flat_join (clauses_by D) ((plain (root_of C k f) ∷ []) ∷ []), literals_by D, all_weight literal_weight C k nodes (1 + k * C))

  pub clauses_are : length (clause_table C k f) ≡ 1 + before clause_weight
  unfolding clause_table definitions_of
  clauses_are =
      let D = definitions_of C k nodes in
      omega (arith, length-append (clauses_by D) ((plain (root_of C k f) ∷ []) ∷ []), clauses_by_lem D, all_weight clause_weight C k nodes (1 + k * C))

  pub variables_are : variables_of C k nodes ≡ k * C + before variable_weight
  unfolding variables_of weight_to sum
  variables_are = omega (arith, ap (weight_before variable_weight k nodes) (zero-add (length nodes)), part_width k nodes 0 nodes [] (sym (append-nil nodes)))

  module _ {T : NodeTable} (e : T ≡ node_table_of f) {F : List ℕ} {s : Sizes} (w : Measured C k T.kinds T.numbers T.count F s) where
    pub known : Measured C k (kinds nodes) (numbers nodes) (length nodes) F s
    unfolding table_of
    known =
        subst (λ (n : ℕ). Measured C k (kinds nodes) (numbers nodes) n F s) (length-map nodes row_of)
        (subst (λ (T : NodeTable). Measured C k T.kinds T.numbers T.count F s) e w)

    pub variables_known : s.variables ≡ variables_of C k nodes
    variables_known = known.variables ∙ sym variables_are

    pub literals_known : s.literals ≡ length places
    literals_known = known.literals ∙ sym literals_are

    pub places_known : table_places C k T F ≡ places
    unfolding table_of
    places_known =
        ap (λ (T : NodeTable). table_places C k T F) e
        ∙ ap (λ (n : ℕ). rows n (row_places C k (kinds nodes) (numbers nodes) (sizes nodes) F) ++ rows 1 (root_places (kinds nodes) (numbers nodes) F k)) (length-map nodes row_of)
        ∙ table_places_lem C k f F known.first
