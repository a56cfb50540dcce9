-- A formula's node table is a grid: each row's parts stand where the code has them, each part's truth lies in its block, and the row that
-- has it as a part is the nearest one before whose nodes it is among. So what the search goes by, the ground, is the formula's.
use mathlib.Core.Path.{◌≡◌, refl, sym, ap, ap₂, ◌∙◌, subst}
use mathlib.Core.List.{List, map}
use Prim.Native.Nat.{ℕ, ◌+◌, ◌≤◌, ◌<◌}
use mathlib.Core.Logic.{by_cases}
use native.Mathlib.Decide.{dec_lt}
use native.Mathlib.Omega.{arith}
use lib.ListN.{length, get_or, length-drop, length-append, length-map}
use Rattle.interval.specs.Limits.{max_steps}
use Rattle.paper_grammar.specs.Limits.{max_nodes, max_channels}
use Rattle.paper_grammar.specs.Trees.{Link, and, or, chop, Tree, constant, letter, negation, pair, duration, throughout, Letters}
use Rattle.paper_grammar.specs.declared.Sort.{Sort}
use Rattle.paper_grammar.specs.declared.Sort.TheVariants.{Formula}
use Rattle.paper_grammar.specs.Nodes.{Node, nodes_of, node}
use Rattle.paper_grammar.proofs.EachNode.{first_node, begins_whole, Chosen, choose, each_node, LettersNode, letters_pass}
use Rattle.node_rows.specs.Table.{head_of, row_of, table_of}
use Rattle.node_rows.specs.declared.NodeTable.{NodeTable}
use Rattle.node_calls.specs.Parts.{size_of, Own, Parts, Stands}
use Rattle.node_calls.proofs.Standing.{nodes_count, stands}
use Rattle.paper_circuit.specs.Circuit.{points_of}
use Rattle.paper_circuit.proofs.Blocks.{truth_fits}
use Rattle.table_blocks.specs.Blocks.{rule_of, rule_by}
use Rattle.table_blocks.specs.declared.Rule.{Rule}
use Rattle.table_blocks.proofs.Heads.{rule_head}
use Rattle.table_sizes.specs.Weights.{variable_weight, points_by, row_weight}
use Rattle.table_sizes.proofs.Weights.{suc_le_count}
use Rattle.table_sizes.proofs.Rows.{points_head, row_width}
use Rattle.paper_clauses.specs.Clauses.{clause_table}
use Rattle.table_layout.specs.declared.Sizes.{Sizes}
use Rattle.table_layout.proofs.Places.{truth_by_lem, kinds, numbers, sizes, start}
use Rattle.node_calls.specs.Rows.{node_table_of}
use Rattle.table_layout.specs.Rows.{truth_by, seat_by, Seated, row_definitions, Measured}
use Rattle.table_layout.proofs.Known.{known}
use Rattle.table_layout.proofs.Mentioned.{row_mentioned, table_mentioned}
use Rattle.search_clauses.specs.Clauses.{table_by}
use Rattle.search_clauses.proofs.Formula.{table_is}
use Rattle.search_fanout.specs.Fanout.{InRow, PartAt, PartsAt, Grid, Ground, Nearest}

size_some : {s : Sort} (x : Tree s) → 1 ≤ size_of x
size_some x = omega (arith, nodes_count x 0, ap length (first_node x 0))

-- ---- the nearest row whose nodes a row is among is the one that has it as a part

module _ (K N S : List ℕ) where
  -- the rows of a tree's nodes end where the tree's do, if those of its parts do
  ends_within : {s : Sort} (x : Tree s) (y : ℕ) → Own K N S y x → ((v : ℕ) → y < v → v < y + size_of x → v + get_or S v 0 ≤ y + size_of x)
      → (v : ℕ) → y ≤ v → v < y + size_of x → v + get_or S v 0 ≤ y + size_of x
  ends_within x y o f v g h = by_cases (dec_lt y v) (λ m. f v m h) (λ m. let e : v ≡ y = omega arith in omega (arith, o.size, ap (λ v. get_or S v 0) e))

  parts_within : {s : Sort} (x : Tree s) (y : ℕ) → Parts K N S y x → (v : ℕ) → y < v → v < y + size_of x → v + get_or S v 0 ≤ y + size_of x
  unfolding size_of
  parts_within (constant b) y p v g h = absurd (omega arith)
  parts_within (letter c) y p v g h = absurd (omega arith)
  parts_within (negation x) y p v g h = omega (arith, ends_within x (y + 1) p.0 (parts_within x (y + 1) p.1) v (omega arith) (omega arith))
  parts_within (pair l x z) y p v g h = by_cases (dec_lt v (y + 1 + size_of x))
      (λ q. omega (arith, ends_within x (y + 1) p.0.0 (parts_within x (y + 1) p.0.1) v (omega arith) (omega arith)))
      (λ q. omega (arith, ends_within z (y + 1 + size_of x) p.1.0 (parts_within z (y + 1 + size_of x) p.1.1) v (omega arith) (omega arith)))
  parts_within (duration x c) y p v g h = omega (arith, ends_within x (y + 1) p.0 (parts_within x (y + 1) p.1) v (omega arith) (omega arith))
  parts_within (throughout x) y p v g h = omega (arith, ends_within x (y + 1) p.0 (parts_within x (y + 1) p.1) v (omega arith) (omega arith))

-- z is among the nodes of y, and among those of no row between
parent_is : {S P : List ℕ} {n : ℕ} → Nearest S P n → (y z : ℕ) → y < z → z < n → z < y + get_or S y 0 → ((v : ℕ) → y < v → v < z → v + get_or S v 0 ≤ z) → get_or P z 0 ≡ y
parent_is {P = P} c y z h g m f = by_cases (dec_lt (get_or P z 0) y) (λ q. absurd (omega (arith, c.between z (omega arith) g y q h)))
    (λ q. by_cases (dec_lt y (get_or P z 0)) (λ o. absurd (omega (arith, f (get_or P z 0) o (c.before z (omega arith) g), c.holds z (omega arith) g))) (λ o. omega arith))

-- ---- a row's parts stand where the code has them

module _ (C k : ℕ) (K N S P : List ℕ) (n : ℕ) (c : Nearest S P n) where
  part_stands : {s : Sort} (x : Tree s) (y z : ℕ) → Own K N S z x → z < n → get_or P z 0 ≡ y → PartAt k K N P n y z (points_of s k)
  part_stands x y z o h e =
      (h, e, omega (arith, truth_fits k x, row_width k x, truth_by_lem k x, ap₂ (truth_by k) o.kind o.number, ap₂ (row_weight variable_weight k) o.kind o.number))

  first_stands : {s : Sort} (x : Tree s) (y : ℕ) → Own K N S (y + 1) x → y + (1 + size_of x) ≤ n → 1 + size_of x ≤ get_or S y 0 → PartAt k K N P n y (y + 1) (points_of s k)
  first_stands x y o h g =
      let l : y + 1 < n = omega (arith, size_some x) in
      part_stands x y (y + 1) o l (parent_is c y (y + 1) (omega arith) l (omega (arith, size_some x)) (λ v a b. absurd (omega arith)))

  pair_stands : {s : Sort} (l : Link s) (x z : Tree s) (y : ℕ) → Stands K N S y (pair l x z) → y + size_of (pair l x z) ≤ n
      → PartAt k K N P n y (y + 1) (points_of s k) × PartAt k K N P n y (y + 1 + get_or S (y + 1) 0) (points_of s k)
  unfolding size_of
  pair_stands {s} l x z y t h =
      let p = t.parts.0 in
      let m : y + 1 + size_of x < n = omega (arith, size_some z) in
      let within = ends_within K N S x (y + 1) p.0 (parts_within K N S x (y + 1) p.1) in
      let e = parent_is c y (y + 1 + size_of x) (omega arith) m (omega (arith, t.own.size, size_some z)) (λ v a b. within v (omega arith) b) in (
        first_stands x y p.0 (omega arith) (omega (arith, t.own.size)),
        subst (λ (m : ℕ). PartAt k K N P n y (y + 1 + m) (points_of s k)) (sym p.0.size) (part_stands z y (y + 1 + size_of x) t.parts.1.0 m e),
      )

  -- by rule, and by kind and number
  abbrev By : ℕ → ℕ → Rule → Type 0
  By y p q = PartsAt C k K N P n y (y + 1 + get_or S (y + 1) 0) p q

  rule_stands : {s : Sort} (x : Tree s) (y : ℕ) → Letters C x → Stands K N S y x → y + size_of x ≤ n → By y (points_of s k) (rule_of x)
  unfolding size_of
  rule_stands (constant v) y L t h = tt
  rule_stands (letter c) y L t h = (L, refl)
  rule_stands (negation x) y L t h = first_stands x y t.parts.0 h (omega (arith, t.own.size))
  rule_stands (pair and x z) y L t h = pair_stands and x z y t h
  rule_stands (pair or x z) y L t h = pair_stands or x z y t h
  rule_stands (pair chop x z) y L t h = pair_stands chop x z y t h
  rule_stands (duration x m) y L t h = first_stands x y t.parts.0 h (omega (arith, t.own.size))
  rule_stands (throughout x) y L t h = first_stands x y t.parts.0 h (omega (arith, t.own.size))

  row_stands : {s : Sort} (x : Tree s) (y : ℕ) → Letters C x → Stands K N S y x → y + size_of x ≤ n
      → By y (points_by k (head_of x).kind) (rule_by (head_of x).kind (head_of x).number)
  row_stands {s} x y L t h =
      subst (λ (p : ℕ). By y p (rule_by (head_of x).kind (head_of x).number)) (sym (points_head k x))
      (subst (λ (q : Rule). By y (points_of s k) q) (sym (rule_head x)) (rule_stands x y L t h))

-- ---- the formula's

module _ (C k : ℕ) (f : Tree Formula) (L : Letters C f) (firsts parents : List ℕ)
    (h : (y : ℕ) → y < length (nodes_of f 0) → get_or firsts y 0 ≡ start (nodes_of f 0) C k y)
    (c : Nearest (sizes (nodes_of f 0)) parents (length (nodes_of f 0))) where
  abbrev l : List Node
  l = nodes_of f 0

  -- row y's node
  chosen : (y : ℕ) → y < length l → Chosen (LettersNode C) l y
  chosen y g = choose (LettersNode C) l y (each_node (LettersNode C) (letters_pass C) f 0 L) g

  at_row : (y : ℕ) → y < length l → PartsAt C k (kinds l) (numbers l) parents (length l) y (y + 1 + get_or (sizes l) (y + 1) 0)
      (points_by k (get_or (kinds l) y 0)) (rule_by (get_or (kinds l) y 0) (get_or (numbers l) y 0))
  at_row y g =
      let w = (chosen y g).chosen in
      let b = (chosen y g).begins in
      let t = stands l w y b in
      let p : y + size_of w.part ≤ length l =
      omega (arith, g, length-drop y l, ap length b.is, length-append (nodes_of w.part w.first) b.later, nodes_count w.part w.first) in
      let s = row_stands C k (kinds l) (numbers l) (sizes l) parents (length l) c w.part y (chosen y g).holds t p in
      subst (λ (p : ℕ). PartsAt C k (kinds l) (numbers l) parents (length l) y (y + 1 + get_or (sizes l) (y + 1) 0) (points_by k p) (rule_by p (get_or (numbers l) y 0))) (sym t.own.kind)
      (subst (λ (p : ℕ). PartsAt C k (kinds l) (numbers l) parents (length l) y (y + 1 + get_or (sizes l) (y + 1) 0) (points_by k (head_of w.part).kind)
      (rule_by (head_of w.part).kind p)) (sym t.own.number) s)

  row_full : (y : ℕ) → y < length l → 1 ≤ get_or (sizes l) y 0
  row_full y g = let c = chosen y g in omega (arith, (stands l c.chosen y c.begins).own.size, size_some c.chosen.part)

  root_in : InRow k (kinds l) (numbers l) firsts 0 (seat_by (kinds l) (numbers l) firsts k 0 + k)
  unfolding seat_by
  root_in =
      let o = (stands l (node f 0) 0 (begins_whole f 0)).own in
      omega (arith, truth_fits k f, suc_le_count k, row_width k f, truth_by_lem k f, ap₂ (truth_by k) o.kind o.number, ap₂ (row_weight variable_weight k) o.kind o.number)

  pub grid_of : Grid C k (kinds l) (numbers l) (sizes l) firsts parents (length l)
  grid_of = record {
    first = h;
    parts = at_row;
    upward = λ y g. by_cases (dec_lt 0 y) (λ p. omega (arith, c.before y p g)) (λ p. let e : y ≡ 0 = omega arith in omega (arith, c.root, ap (λ y. get_or parents y 0) e));
    top = c.root;
    under = c.before;
    full = row_full;
    root = root_in;
  }

-- ---- and the ground that the search goes by

module _ (C k : ℕ) (f : Tree Formula) {T : NodeTable} (e : T ≡ node_table_of f) {F : List ℕ} {s : Sizes} (w : Measured C k T.kinds T.numbers T.count F s) where
  abbrev nodes : List Node
  nodes = nodes_of f 0

  -- what is said of the formula's columns is said of the table's
  there : (X : NodeTable → ℕ → Type 0) → X T T.count → X (table_of (map row_of nodes)) (length nodes)
  unfolding table_of
  there X x = subst (X (table_of (map row_of nodes))) (length-map nodes row_of) (subst (λ (T : NodeTable). X T T.count) e x)

  back : (X : NodeTable → ℕ → Type 0) → X (table_of (map row_of nodes)) (length nodes) → X T T.count
  unfolding table_of
  back X x = subst (λ (T : NodeTable). X T T.count) (sym e) (subst (X (table_of (map row_of nodes))) (sym (length-map nodes row_of)) x)

  pub table_known : table_by C k T.kinds T.numbers T.sizes F T.count ≡ clause_table C k f
  unfolding table_of
  table_known = back (λ T n. table_by C k T.kinds T.numbers T.sizes F n ≡ clause_table C k f) (table_is C k f F (known C k f e w).first)

  pub ground_of : Letters C f → C ≤ max_channels → k ≤ max_steps → T.count ≤ max_nodes → {Q P : List ℕ} →
      Seated T.kinds T.numbers F k Q max_nodes → Nearest T.sizes P T.count
      → (values : List ℕ) → length values ≡ s.variables → Ground C k T.kinds T.numbers T.sizes F Q P T.count (length values)
  unfolding table_of
  ground_of L c h n {P = P} q m values v =
      let a = table_mentioned C k f e w L values v in
      record {
        channels = c;
        steps = h;
        some = back (λ T n. 0 < n) (omega (arith, nodes_count f 0, size_some f));
        few = n;
        low = w.low;
        seated = q;
        grid = back (λ T n. Grid C k T.kinds T.numbers T.sizes F P n) (grid_of C k f L F P (known C k f e w).first (there (λ T n. Nearest T.sizes P n) m));
        total = v ∙ w.variables;
        root = a.1;
        mentioned = λ x l. row_mentioned (row_definitions C k T.kinds T.numbers T.sizes F) l a.0;
      }
