-- A row of the node table tells its node's rule and points; its parts' rows follow it, and their first variables come after its own block
-- and the first part's. So each row's definitions are its node's own, and the rows together give the formula's definitions and their places.
use mathlib.Core.Path.{◌≡◌, refl, sym, ap, ap₂, ◌∙◌, subst}
use mathlib.Core.Bool.{true, false}
use mathlib.Core.List.{List, [], ◌∷◌, ◌++◌, flat_map}
use Prim.Native.Nat.{ℕ, zero, suc, ◌+◌, ◌*◌, ◌<◌}
use native.Mathlib.Nat.{zero-mul, zero-add, add-zero}
use native.Mathlib.Omega.{arith}
use lib.ListN.{length, get_or, drop, length-drop}
use borrow.Author.Tests.{ne_eqb}
use Rattle.lists.specs.Listing.{rows, sum}
use Rattle.interval.specs.Places.{place_of}
use Rattle.lists.proofs.Listing.{rows_same}
use Rattle.paper_grammar.specs.Trees.{and, or, chop, Tree, constant, letter, negation, pair, duration, throughout}
use Rattle.paper_grammar.specs.declared.Sort.{Sort}
use Rattle.paper_grammar.specs.declared.Sort.TheVariants.{State, Formula}
use Rattle.paper_grammar.proofs.Written.{drop_front}
use Rattle.paper_grammar.specs.Nodes.{Node, node, nodes_of}
use Rattle.paper_grammar.proofs.EachNode.{OnParts, parts_map, Begins, begins_first, begins_whole, parts_begin, Each, each_begins}
use Rattle.node_rows.specs.Table.{sort_code, head_of}
use Rattle.node_rows.specs.declared.Row.{Row}
use Rattle.node_calls.proofs.Standing.{column, nodes_count, stands}
use Rattle.paper_circuit.specs.Circuit.{Definition, points_of, width_of, blocks_of, truth_of, Seats, own_by, own_of, defined_from, definitions_of, root_of}
use Rattle.paper_circuit.proofs.Blocks.{blocks_parts}
use Rattle.table_blocks.specs.Blocks.{rule_of, rule_by, is_chop, block_of}
use Rattle.table_blocks.specs.declared.Rule.{Rule}
use Rattle.table_blocks.proofs.Heads.{rule_head, chop_or_not}
use Rattle.table_blocks.proofs.Own.{own_defined, chop_defined}
use Rattle.table_sizes.specs.Weights.{variable_weight, points_by, weight_to}
use Rattle.table_sizes.proofs.Rows.{points_head, part_width}
use Rattle.paper_clauses.specs.Clauses.{plain, clauses_by, clause_table}
use Rattle.paper_clauses.specs.Entries.{Entry, entry, entries_of, flat}
use Rattle.paper_clauses.proofs.Flat.{flat_join}
use Rattle.table_nodes.specs.Nodes.{node_by, node_places}
use Rattle.table_layout.specs.Rows.{truth_by, seat_by, block_by, row_definitions, row_places, root_places}
use Rattle.table_nodes.proofs.Walk.{rows_first}
use Rattle.table_nodes.proofs.Nodes.{places_join}

-- ---- a node by its row's kind and number

module _ (C k b : ℕ) (S : Seats) where
  abbrev node_for : Rule → ℕ → List Definition
  node_for rule points = node_by C k (record { rule = rule; points = points; first = b; left = S.left; right = S.right }) (is_chop rule)

  abbrev head_for : ℕ → ℕ → List Definition
  head_for kind number = node_for (rule_by kind number) (points_by k kind)

  alone : (s : Sort) (x : Tree s) → is_chop (rule_of x) ≡ false → node_for (rule_of x) (points_of s k) ≡ own_by C k b S x
  alone s x n = ap (node_by C k (block_of k b S.left S.right x)) n ∙ sym (own_defined C k b S x n)

  by_head : {s : Sort} (x : Tree s) → head_for (head_of x).kind (head_of x).number ≡ own_by C k b S x
  by_head x = ap₂ node_for (rule_head x) (points_head k x)
      ∙ chop_or_not (λ s x. node_for (rule_of x) (points_of s k) ≡ own_by C k b S x) (λ x y. sym (chop_defined C k b S x y)) alone x

-- a duration's kind is 23, no other's
module _ (k : ℕ) where
  at_first : (s : Sort) (op n : ℕ) → op < 7 → truth_by k (sort_code s + op) n ≡ 0
  at_first State op n h = rw (ne_eqb (0 + op) 23 (λ e. omega arith)) refl
  at_first Formula op n h = rw (ne_eqb (16 + op) 23 (λ e. omega arith)) refl

  pub truth_by_lem : {s : Sort} (x : Tree s) → truth_by k (head_of x).kind (head_of x).number ≡ truth_of k x
  unfolding truth_of
  truth_by_lem {s} (constant false) = at_first s 0 0 (omega arith)
  truth_by_lem {s} (constant true) = at_first s 1 0 (omega arith)
  truth_by_lem (letter c) = at_first State 6 c (omega arith)
  truth_by_lem {s} (negation x) = at_first s 2 0 (omega arith)
  truth_by_lem {s} (pair and x y) = at_first s 3 0 (omega arith)
  truth_by_lem {s} (pair or x y) = at_first s 4 0 (omega arith)
  truth_by_lem (pair chop x y) = at_first Formula 5 0 (omega arith)
  truth_by_lem (duration x n) = refl
  truth_by_lem (throughout x) = refl

-- ---- a node by its place in the list

module _ (l : List Node) where
  abbrev pub kinds : List ℕ
  kinds = column l (λ (r : Row). r.head.kind)

  abbrev pub numbers : List ℕ
  numbers = column l (λ (r : Row). r.head.number)

  abbrev pub sizes : List ℕ
  sizes = column l (λ (r : Row). r.size)

  -- where the blocks of the nodes from row x on begin
  abbrev pub start : ℕ → ℕ → ℕ → ℕ
  start C k x = 1 + k * C + weight_to variable_weight k kinds numbers x

  pub start_next : (C k : ℕ) (w : Node) (x : ℕ) (m : List Node) → drop x l ≡ w ∷ m → start C k (x + 1) ≡ start C k x + width_of k w.part
  unfolding blocks_of
  start_next C k w x m e = omega (arith, part_width k l x (w ∷ []) m e)

module _ (C k : ℕ) (l : List Node) (firsts : List ℕ) (h : (y : ℕ) → y < length l → get_or firsts y 0 ≡ start l C k y) where
  abbrev seat : ℕ → ℕ
  seat y = seat_by (kinds l) (numbers l) firsts k y

  first_at_lem : (w : Node) (x : ℕ) → Begins (drop x l) w → get_or firsts x 0 ≡ start l C k x
  first_at_lem w x b = h x (omega (arith, length-drop x l, ap length (begins_first b)))

  -- the first variable of a part's truth
  pub seat_at : (w : Node) (x : ℕ) → Begins (drop x l) w → seat x ≡ start l C k x + truth_of k w.part
  unfolding seat_by
  seat_at w x b =
      let o = (stands l w x b).own in
      omega (arith, first_at_lem w x b, ap₂ (truth_by k) o.kind o.number, truth_by_lem k w.part)

  -- the seats of the parts of the node at row n, if it has two
  abbrev seats : ℕ → Seats
  seats n = record { left = seat (n + 1); right = seat (n + 1 + get_or (sizes l) (n + 1) 0) }

  -- the part next to a node, and the part after all of that one's nodes
  module _ (v : Node) (n : ℕ) (b : Begins (drop n l) v) where
    abbrev next : ℕ
    next = start l C k n + width_of k v.part

    next_is : start l C k (n + 1) ≡ next
    next_is = start_next l C k v n _ (begins_first b)

    left_at : (u : Node) → Begins (drop (n + 1) l) u → (seats n).left ≡ next + truth_of k u.part
    left_at u d = omega (arith, next_is, seat_at u (n + 1) d)

    right_at : (u w : Node) → Begins (drop (n + 1) l) u → Begins (drop (n + 1 + length (nodes_of u.part u.first)) l) w
        → (seats n).right ≡ next + blocks_of k (nodes_of u.part 0) + truth_of k w.part
    right_at u w d e =
        let a = nodes_of u.part u.first in
        ap (λ (c : ℕ). seat (n + 1 + c)) ((stands l u (n + 1) d).own.size ∙ sym (nodes_count u.part u.first))
        ∙ seat_at w (n + 1 + length a) e
        ∙ omega (arith, next_is, part_width k l (n + 1) a d.later d.is, blocks_parts k u.part u.first, blocks_parts k u.part 0)

    seated : OnParts (λ u. (seats n).left ≡ next + truth_of k u.part) (λ u w. (seats n).right ≡ next + blocks_of k (nodes_of u.part 0) + truth_of k w.part) v.part v.first
    seated = parts_map left_at right_at v.part v.first (parts_begin l n v.part v.first b)

  -- a node's parts stand where its own definitions go by them
  parts_at : {s : Sort} (x : Tree s) (n at : ℕ) → Begins (drop n l) (node x at) → own_by C k (start l C k n) (seats n) x ≡ own_of C k (start l C k n) x
  unfolding own_by own_of
  parts_at (constant v) n at b = refl
  parts_at (letter c) n at b = refl
  parts_at (negation x) n at b = ap (λ (v : ℕ). own_by C k (start l C k n) (record { left = v; right = 0 }) (negation x)) (seated (node (negation x) at) n b)
  parts_at (pair o x y) n at b =
      let s = seated (node (pair o x y) at) n b in
      ap₂ (λ (v u : ℕ). own_by C k (start l C k n) (record { left = v; right = u }) (pair o x y)) s.0 s.1
  parts_at (duration x c) n at b = ap (λ (v : ℕ). own_by C k (start l C k n) (record { left = v; right = 0 }) (duration x c)) (seated (node (duration x c) at) n b)
  parts_at (throughout x) n at b = ap (λ (v : ℕ). own_by C k (start l C k n) (record { left = v; right = 0 }) (throughout x)) (seated (node (throughout x) at) n b)

  -- a row's definitions are its node's own
  row_defined : (w : Node) (n : ℕ) → Begins (drop n l) w → row_definitions C k (kinds l) (numbers l) (sizes l) firsts n ≡ own_of C k (start l C k n) w.part
  unfolding block_by
  row_defined w n b =
      let o = (stands l w n b).own in
      ap (λ (b : ℕ). head_for C k b (seats n) (get_or (kinds l) n 0) (get_or (numbers l) n 0)) (first_at_lem w n b)
      ∙ ap₂ (head_for C k (start l C k n) (seats n)) o.kind o.number
      ∙ by_head C k (start l C k n) (seats n) w.part
      ∙ parts_at w.part n w.first b

-- ---- the rows of a formula's nodes

module _ (C k : ℕ) (f : Tree Formula) (firsts : List ℕ) (h : (y : ℕ) → y < length (nodes_of f 0) → get_or firsts y 0 ≡ start (nodes_of f 0) C k y) where
  abbrev pub nodes : List Node
  nodes = nodes_of f 0

  abbrev defined : ℕ → List Definition
  defined x = row_definitions C k (kinds nodes) (numbers nodes) (sizes nodes) firsts x

  -- the rows from x on
  rows_from : (x : ℕ) (A : List Node) → drop x nodes ≡ A → Each (λ w. Unit) A → rows (length A) (λ i. defined (x + i)) ≡ defined_from C k (start nodes C k x) A
  unfolding defined_from rows
  rows_from x [] e r = refl
  rows_from x (w ∷ A) e r =
      rows_first (length A) (λ i. defined (x + i))
      ∙ ap₂ (λ (D E : List Definition). D ++ E)
      (ap defined (add-zero x) ∙ row_defined C k nodes firsts h w x (subst (λ (l : List Node). Begins l w) (sym e) r.1))
      (rows_same (length A) (λ i. defined (x + suc i)) (λ i. defined (x + 1 + i)) (λ i _. ap defined (omega arith))
      ∙ rows_from (x + 1) A (drop_front nodes x (w ∷ []) A e) r.2
      ∙ ap (λ (b : ℕ). defined_from C k b A) (start_next nodes C k w x A e))

  pub rows_defined : rows (length nodes) defined ≡ definitions_of C k nodes
  unfolding definitions_of weight_to sum
  rows_defined =
      rows_same (length nodes) defined (λ i. defined (0 + i)) (λ i _. ap defined (sym (zero-add i)))
      ∙ rows_from 0 nodes refl (each_begins f 0)
      ∙ ap (λ (b : ℕ). defined_from C k b nodes) (add-zero (1 + k * C))

  -- the root's truth begins where the code has it
  pub root_at : seat_by (kinds nodes) (numbers nodes) firsts k 0 + k ≡ root_of C k f
  unfolding root_of place_of weight_to sum
  root_at = omega (arith, seat_at C k nodes firsts h (node f 0) 0 (begins_whole f 0), zero-mul (k + 1))

  root_places_lem : rows 1 (root_places (kinds nodes) (numbers nodes) firsts k) ≡ flat ((plain (root_of C k f) ∷ []) ∷ [])
  unfolding rows flat flat_map entries_of
  root_places_lem = ap (λ (v : ℕ). entry v 3 ∷ []) (add-zero _ ∙ root_at)

  -- what is written row after row are the places of the rows' definitions
  places_rows : (n : ℕ) → rows n (row_places C k (kinds nodes) (numbers nodes) (sizes nodes) firsts) ≡ flat (clauses_by (rows n defined))
  unfolding rows flat clauses_by flat_map node_places
  places_rows zero = refl
  places_rows (suc n) = ap (λ (F : List Entry). F ++ flat (clauses_by (defined n))) (places_rows n) ∙ places_join (rows n defined) (defined n)

  pub table_places_lem : rows (length nodes) (row_places C k (kinds nodes) (numbers nodes) (sizes nodes) firsts) ++ rows 1 (root_places (kinds nodes) (numbers nodes) firsts k) ≡ flat (clause_table C k f)
  unfolding clause_table
  table_places_lem =
      ap₂ (λ (F G : List Entry). F ++ G) (places_rows (length nodes) ∙ ap (λ (D : List Definition). flat (clauses_by D)) rows_defined) root_places_lem
      ∙ sym (flat_join (clauses_by (definitions_of C k nodes)) ((plain (root_of C k f) ∷ []) ∷ []))
