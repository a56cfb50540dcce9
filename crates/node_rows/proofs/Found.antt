-- The nodes of a node stand in a row in the list of nodes, from itself on, so the rows of its parts are the next and the one after all
-- of the first part's. They are found before it, the last row first; so each row is found from theirs, until all are.
use mathlib.Core.Path.{◌≡◌, refl, sym, ap, ap₂, ◌∙◌, subst}
use mathlib.Core.List.{List, [], ◌∷◌, ◌++◌, append_assoc, append-nil, map, map-append}
use Prim.Native.Nat.{ℕ, suc, ◌+◌, ◌-◌, ◌≤◌, ◌<◌}
use native.Mathlib.Omega.{arith}
use lib.ListN.{length, get_or, take, drop, set, drop_of_length-le, length-append, length-map, length-drop}
use lib.Seq.{take_all, drop_at, drop-drop, drop-append-add, length-take-le}
use Rattle.refusal.specs.Asked.{ok}
use Rattle.paper_grammar.specs.Limits.{max_nodes, max_number}
use Rattle.paper_grammar.specs.Trees.{text_of}
use Rattle.paper_grammar.specs.declared.Sort.{Sort}
use Rattle.paper_grammar.specs.declared.Sort.TheVariants.{State, Formula}
use Rattle.paper_grammar.specs.Nodes.{Node, nodes_of, nodes_in}
use Rattle.paper_grammar.specs.Questions.{accept_of}
use Rattle.formula_text.proofs.Standing.{StandsNode, end_within, stands_pass}
use Rattle.paper_grammar.proofs.EachNode.{Begins, Each, Chosen, choose, each_node, both_pass, NumbersNode, numbers_pass, begins_first, parts_map, parts_begin}
use Rattle.formula_text.proofs.Found.{root_stands}
use Rattle.formula_text.proofs.Laws.{accepted, nodes_read_lem}
use Rattle.node_rows.specs.Table.{sort_code, row_of, padded, table_of}
use Rattle.node_rows.specs.Rows.{begun, part_at, row_from, row_at}
use Rattle.node_rows.specs.declared.Row.{Row}
use Rattle.node_rows.specs.declared.NodeTable.{NodeTable}
use Rattle.node_rows.proofs.Steps.{field_at, drop_map, stored_at, kept_at}
use Rattle.node_rows.proofs.Begun.{nodes_most, bytes_most}
use Rattle.node_rows.proofs.Rows.{PartIs, PartsAre, row_found}

-- what is known of a node of an accepted text
abbrev pub Known : List ℕ → Node → Type 0
Known t w = StandsNode t w × NumbersNode max_number w

pub node_chosen : (t : List ℕ) (C k y : ℕ) → accept_of C k t ≡ ok → y < length (nodes_in t) → Chosen (Known t) (nodes_in t) y
node_chosen t C k y e h =
    let a = accepted C k t e in
    let r = each_node (Known t) (both_pass (StandsNode t) (NumbersNode max_number) (stands_pass t) (numbers_pass max_number)) a.root 0 (root_stands t a.root a.reads, a.numbers) in
    choose (Known t) (nodes_in t) y (subst (Each (Known t)) (sym (nodes_read_lem t a.root a.reads)) r) h

-- the rows of which those from x on are found
abbrev pub mixed : ℕ → List Node → List Row
mixed x l = map begun (take x l) ++ map row_of (drop x l)

module _ (t : List ℕ) (l : List Node) (y : ℕ) (h : y < length l) (c : Chosen (Known t) l y) where
  abbrev own : Node
  own = c.chosen

  abbrev before : List Row
  before = map begun (take y l)

  abbrev after : List Row
  after = map row_of (drop (suc y) l)

  abbrev rows : List Row
  rows = before ++ begun own ∷ after

  pub rows_are : mixed (suc y) l ≡ rows
  rows_are = ap (λ (q : List Node). map begun q ++ after) c.front ∙ ap (λ (q : List Row). q ++ after) (map-append begun (take y l) (own ∷ [])) ∙ append_assoc before (begun own ∷ []) after

  pub rows_next : before ++ row_of own ∷ after ≡ mixed y l
  rows_next = sym (ap (λ (q : List Node). before ++ map row_of q) c.back)

  pub before_count : length before ≡ y
  before_count = length-map (take y l) begun ∙ length-take-le y l (omega arith)

  pub own_field : (f : Row → ℕ) → get_or (padded (map f rows)) y 0 ≡ f (begun own)
  own_field f = field_at f rows after y (begun own) (drop_at before (begun own ∷ after) y before_count)

  rows_later : (n : ℕ) → y < n → drop n rows ≡ map row_of (drop n l)
  rows_later n g =
      let k : ℕ = n - suc y in
      let e : n ≡ length before + suc k = omega (arith, before_count) in
      let f : suc y + k ≡ n = omega arith in
      ap (λ (n : ℕ). drop n rows) e ∙ drop-append-add before (begun own ∷ after) (suc k) ∙ drop_map row_of k (drop (suc y) l) ∙
      ap (map row_of) (drop-drop k (suc y) l ∙ ap (λ (n : ℕ). drop n l) f)

  abbrev sizes : List ℕ
  sizes = padded (map (λ (r : Row). r.size) rows)

  abbrev lengths : List ℕ
  lengths = padded (map (λ (r : Row). r.length) rows)

  part_is : (u : Node) (n : ℕ) → y < n → Begins (drop n l) u → PartIs u (part_at sizes lengths n)
  part_is u n g b =
      let d : drop n rows ≡ row_of u ∷ _ = rows_later n g ∙ ap (map row_of) (begins_first b) in
      record { nodes = field_at (λ (r : Row). r.size) rows _ n (row_of u) d; bytes = field_at (λ (r : Row). r.length) rows _ n (row_of u) d }

  parts_are : PartsAre own.part own.first (part_at sizes lengths (y + 1)) (part_at sizes lengths (y + 1 + get_or sizes (y + 1) 0))
  parts_are = parts_map (λ u. part_is u (y + 1) (omega arith)) second own.part own.first (parts_begin l y own.part own.first c.begins)
    where
      second : (u w : Node) → Begins (drop (y + 1) l) u → Begins (drop (y + 1 + length (nodes_of u.part u.first)) l) w → PartIs w (part_at sizes lengths (y + 1 + get_or sizes (y + 1) 0))
      second u w b d = part_is w (y + 1 + get_or sizes (y + 1) 0) (omega arith) (subst (λ (n : ℕ). Begins (drop (y + 1 + n) l) w) (sym (part_is u (y + 1) (omega arith) b).nodes) d)

  pub row_is : row_at t (padded (map (λ (r : Row). r.head.kind) rows)) sizes (padded (map (λ (r : Row). r.first) rows)) lengths y ≡ row_of own
  unfolding row_at
  row_is =
      ap₂ (λ (code at : ℕ). row_from t (get_or t at 0) code at (part_at sizes lengths (y + 1)) (part_at sizes lengths (y + 1 + get_or sizes (y + 1) 0)))
      (own_field (λ (r : Row). r.head.kind)) (own_field (λ (r : Row). r.first))
      ∙ row_found t own.part own.first _ _ c.holds.0 c.holds.1 parts_are

-- the rows from x on are found
pub record Found (t : List ℕ) (table : NodeTable) (x : ℕ) : Type 0 where
  pub within : x ≤ length (nodes_in t)
  pub is : table ≡ table_of (mixed x (nodes_in t))

pub found_none : (t : List ℕ) (table : NodeTable) → table ≡ table_of (map begun (nodes_in t)) → Found t table table.count
unfolding table_of
found_none t table e =
    let l = nodes_in t in
    let n : table.count ≡ length l = ap (λ (n : NodeTable). n.count) e ∙ length-map l begun in
    record {
      within = omega arith;
      is =
          e ∙ ap table_of (sym (append-nil (map begun l)) ∙
          ap₂ (λ (a b : List Node). map begun a ++ map row_of b) (sym (take_all table.count l (omega arith)))
          (sym (drop_of_length-le l {i = table.count} (omega arith))));
    }

-- a table with another row found at y
abbrev pub with_row : NodeTable → ℕ → Row → NodeTable
with_row n y r = record {
  count = n.count;
  kinds = set n.kinds y r.head.kind;
  numbers = set n.numbers y r.head.number;
  sizes = set n.sizes y r.size;
  firsts = n.firsts;
  lengths = set n.lengths y r.length;
}

stored : (a b : List Row) (w : Node) (y : ℕ) → length a ≡ y → with_row (table_of (a ++ begun w ∷ b)) y (row_of w) ≡ table_of (a ++ row_of w ∷ b)
unfolding table_of
stored a b w y e =
    let r = begun w in
    let r' = row_of w in
    rw (
      sym e,
      stored_at (λ (r : Row). r.head.kind) a r r' b,
      stored_at (λ (r : Row). r.head.number) a r r' b,
      stored_at (λ (r : Row). r.size) a r r' b,
      kept_at (λ (r : Row). r.first) a r r' b refl,
      stored_at (λ (r : Row). r.length) a r r' b,
      length-append a (r ∷ b),
      length-append a (r' ∷ b),
    )

module _ (C k : ℕ) (t : List ℕ) (a : accept_of C k t ≡ ok) (table : NodeTable) (x : ℕ) (w : Found t table x) (h : 0 < x) where
  abbrev y : ℕ
  y = x - 1

  within : y < length (nodes_in t)
  within = omega (arith, w.within)

  pub found_room : y < max_nodes
  found_room = omega (arith, within, nodes_most C k t a)

  choice : Chosen (Known t) (nodes_in t) y
  choice = node_chosen t C k y a within

  table_is : table ≡ table_of (map begun (take y (nodes_in t)) ++ begun choice.chosen ∷ map row_of (drop (suc y) (nodes_in t)))
  table_is =
      let e : x ≡ suc y = omega arith in
      w.is ∙ ap table_of (ap (λ (x : ℕ). mixed x (nodes_in t)) e ∙ rows_are t (nodes_in t) y within choice)

  sort_most : (s : Sort) → sort_code s ≤ 16
  sort_most State = omega arith
  sort_most Formula = omega arith

  pub found_code : get_or table.kinds y 0 ≤ 16
  unfolding table_of
  found_code =
      let e : get_or table.kinds y 0 ≡ sort_code choice.chosen.sort = ap (λ (n : NodeTable). get_or n.kinds y 0) table_is ∙
      own_field t (nodes_in t) y within choice (λ (r : Row). r.head.kind) in
      omega (arith, sort_most choice.chosen.sort)

  module _ (r : Row) (e : r ≡ row_at t table.kinds table.sizes table.firsts table.lengths y) where
    found_is : r ≡ row_of choice.chosen
    unfolding table_of
    found_is = e ∙ ap (λ (n : NodeTable). row_at t n.kinds n.sizes n.firsts n.lengths y) table_is ∙ row_is t (nodes_in t) y within choice

    pub found_fits : (r.size ≤ 255) × (r.length ≤ 255)
    found_fits =
        let c = choice.chosen in
        let b = choice.begins in
        let n = nodes_of c.part c.first in
        let s : r.size ≡ length n = ap (λ (r : Row). r.size) found_is in
        let m : r.length ≡ length (text_of c.part) = ap (λ (r : Row). r.length) found_is in (
          omega (arith, nodes_most C k t a, ap length b.is, length-append n b.later, length-drop y (nodes_in t)),
          omega (arith, bytes_most C k t a, end_within t c.part c.first choice.holds.0),
        )

    pub found_more : Found t (with_row table y r) y
    found_more =
        let l = nodes_in t in
        let n = before_count t l y within choice in
        record {
          within = omega (arith, within);
          is =
              ap₂ (λ (n : NodeTable) (r : Row). with_row n y r) table_is found_is ∙
              stored (map begun (take y l)) (map row_of (drop (suc y) l)) choice.chosen y n ∙ ap table_of (rows_next t l y within choice);
        }
