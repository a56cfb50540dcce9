-- The nodes are written the last first, so a node's parts, which stand after it, are written when its turn comes; their truth is found
-- from the seat that the node's block has for them. So after each turn the values of all nodes from here on are written.
use mathlib.Core.Path.{◌≡◌, refl, sym, ap, ap₂, ◌∙◌, subst}
use mathlib.Core.Bool.{Bool, cond}
use mathlib.Core.List.{List, [], ◌∷◌, ◌++◌, append-nil, flat_map}
use Prim.Native.Nat.{ℕ, ◌+◌, ◌-◌, ◌*◌, ◌%◌, ◌≤◌, ◌<◌}
use native.Mathlib.Nat.{suc-mul}
use native.Mathlib.Omega.{arith}
use lib.Dec.{eqb}
use lib.ListN.{length, get_or, drop, length-append, length-map, length-drop, drop_of_length-le}
use lib.Seq.{sets, get_or-append-add}
use Rattle.lists.specs.Listing.{All, sum}
use Rattle.interval.specs.Places.{count_of}
use Rattle.interval.specs.Limits.{max_steps, max_count}
use Rattle.paper_grammar.specs.Limits.{max_channels}
use Rattle.paper_grammar.specs.Trees.{and, or, chop, Tree, constant, letter, negation, pair, duration, throughout, Letters}
use Rattle.paper_grammar.specs.declared.Sort.{Sort}
use Rattle.paper_grammar.specs.declared.Sort.TheVariants.{Formula}
use Rattle.paper_grammar.proofs.Written.{drop_front}
use Rattle.paper_grammar.specs.Nodes.{Node, node, nodes_of}
use Rattle.paper_grammar.proofs.EachNode.{OnParts, parts_map, Begins, parts_begin, each_node, choose, LettersNode, letters_pass}
use Rattle.node_rows.specs.Table.{row_of, table_of}
use Rattle.lists.proofs.Lists.{all_or}
use Rattle.node_rows.specs.declared.NodeTable.{NodeTable}
use Rattle.node_calls.proofs.Standing.{nodes_count, stands}
use Rattle.node_calls.specs.Rows.{TableFor}
use Rattle.paper_meaning.specs.Meaning.{truth}
use Rattle.paper_meaning.proofs.Words.{high_bit}
use Rattle.paper_circuit.specs.Circuit.{points_of, width_of, variables_of, truth_of}
use Rattle.paper_circuit.proofs.Blocks.{truth_lt, blocks_append, blocks_parts}
use Rattle.truth_table.specs.Table.{high_at}
use Rattle.table_blocks.specs.Blocks.{is_chop, number_of, rule_of, rules_for, rule_by}
use Rattle.table_blocks.specs.declared.Block.{Block}
use Rattle.table_blocks.specs.declared.Rule.{Rule}
use Rattle.table_blocks.specs.declared.Rule.TheVariants.{Duration, Throughout, Cut}
use Rattle.table_blocks.proofs.Heads.{rule_head}
use Rattle.table_sizes.specs.Weights.{variable_weight, weight_by, points_by, row_weight, weight_to}
use Rattle.table_sizes.proofs.Weights.{longer_ones}
use Rattle.table_sizes.proofs.Rows.{weight_before, part_width, total_next}
use Rattle.table_nodes.specs.Nodes.{Fine}
use Rattle.table_layout.specs.Rows.{seat_by, block_by}
use Rattle.table_layout.proofs.Places.{kinds as kindsOf, numbers as numbersOf, sizes as sizes_of, start, start_next, seat_at}
use Rattle.table_layout.proofs.Known.{variables_are}
use Rattle.paper_assignments.specs.Extension.{block_values, node_values}
use Rattle.paper_assignments.proofs.Values.{point_at, block_length, values_append, values_length, truth_stands}
use Rattle.extend_blocks.specs.Values.{values_by, Fits}
use Rattle.extend_nodes.specs.Parts.{part_points, TruthFrom, Makes, BlockIn, BlockPut}
use Rattle.extend_calls.specs.Rows.{Seated}
use Rattle.lists.proofs.Stored.{stored_before, stored_at}
use Rattle.extend_nodes.proofs.Blocks.{TruthIs, PartsAre, block_values_lem}

module _ (C k : ℕ) (recording : List ℕ) (f : Tree Formula) (L : Letters max_channels f) (firsts : List ℕ)
    (h : (y : ℕ) → y < length (nodes_of f 0) → get_or firsts y 0 ≡ start (nodes_of f 0) C k y) where
  abbrev nodes : List Node
  nodes = nodes_of f 0

  abbrev first : ℕ → ℕ
  first x = start nodes C k x

  abbrev block : ℕ → Block
  block x = block_by (kindsOf nodes) (numbersOf nodes) (sizes_of nodes) firsts k x

  -- the values of the nodes from n on
  abbrev later : ℕ → List ℕ
  later n = node_values k recording (drop n nodes)

  -- they end with the last variable
  later_ends : (n : ℕ) → n ≤ length nodes → first n - 1 + length (later n) ≡ variables_of C k nodes
  later_ends n l =
      let e : n + length (drop n nodes) ≡ length nodes = omega (arith, length-drop n nodes) in
      omega (arith, values_length k recording (drop n nodes), part_width k nodes n (drop n nodes) [] (sym (append-nil (drop n nodes))), ap (weight_before variable_weight k nodes) e, variables_are C k f)

  -- they stand in the assignment
  abbrev Later : List ℕ → ℕ → Type 0
  Later A n = (e : ℕ) → e < length (later n) → high_at A (first n - 1 + e) ≡ high_at (later n) e

  later_stands : (A : List ℕ) (n : ℕ) → n ≤ length nodes → variables_of C k nodes ≤ length A → Later (sets A (first n - 1) (later n)) n
  later_stands A n l m e i = ap (λ (b : ℕ). eqb b 1) (stored_at A (later n) (first n - 1) e (omega (arith, later_ends n l)) i)

  -- so do those from a later node on
  later_still : (A : List ℕ) (n : ℕ) (P Q : List Node) → drop n nodes ≡ P ++ Q → Later A n → Later A (n + length P)
  later_still A n P Q e a i l =
      let d : drop (n + length P) nodes ≡ Q = drop_front nodes n P Q e in
      let v : later n ≡ node_values k recording P ++ later (n + length P) = ap (node_values k recording) e ∙ values_append k recording P Q ∙
      ap (λ (Q : List Node). node_values k recording P ++ node_values k recording Q) (sym d) in
      let b = values_length k recording P in
      let p : first (n + length P) - 1 + i ≡ first n - 1 + (length (node_values k recording P) + i) = omega (arith, b, part_width k nodes n P Q e) in
      ap (high_at A) p
      ∙ a (length (node_values k recording P) + i) (omega (arith, ap length v, length-append (node_values k recording P) (later (n + length P))))
      ∙ ap (λ (l : List ℕ). high_at l (length (node_values k recording P) + i)) v
      ∙ ap (λ (b : ℕ). eqb b 1) (get_or-append-add (node_values k recording P) (later (n + length P)) i 0)

  -- a part's truth, from its seat on
  seat_truth : (A : List ℕ) (w : Node) (n : ℕ) → Begins (drop n nodes) w → Later A n
      → (g : ℕ → Bool) → TruthFrom A (seat_by (kindsOf nodes) (numbersOf nodes) firsts k n) (points_of w.sort k) g → TruthIs k recording g w
  seat_truth A w n b a g t e l =
      let x = w.part in
      let m = b.later in
      let p : seat_by (kindsOf nodes) (numbersOf nodes) firsts k n - 1 + e ≡ first n - 1 + (truth_of k x + e) = omega (arith, seat_at C k nodes firsts h w n b) in
      let v : later n ≡ node_values k recording (nodes_of x w.first ++ m) = ap (node_values k recording) b.is in
      let i : truth_of k x + e < length (later n) =
      omega (arith, truth_lt k x e l, ap length v, values_length k recording (nodes_of x w.first ++ m), blocks_append k (nodes_of x w.first) m, blocks_parts k x w.first, blocks_parts k x 0) in
      t e l ∙ ap (high_at A) p ∙ a (truth_of k x + e) i ∙ ap (λ (l : List ℕ). high_at l (truth_of k x + e)) v
      ∙ ap (λ (b : ℕ). eqb b 1) (truth_stands k recording x w.first m e l) ∙ high_bit (truth recording x (point_at w.sort k e))

  -- the truth that a block finds for its node's parts is theirs
  module _ (A : List ℕ) (one two : ℕ → Bool) (n : ℕ) (a : Later A (n + 1)) where
    first_found : (u : Node) → Begins (drop (n + 1) nodes) u → TruthFrom A (block n).left (points_of u.sort k) one → TruthIs k recording one u
    unfolding block_by
    first_found u b p = seat_truth A u (n + 1) b a one p

    second_found : (u w : Node) → Begins (drop (n + 1) nodes) u → Begins (drop (n + 1 + length (nodes_of u.part u.first)) nodes) w
        → TruthFrom A (block n).right (points_of w.sort k) two → TruthIs k recording two w
    unfolding block_by
    second_found u w b d q =
        let U = nodes_of u.part u.first in
        let row = ap (λ (c : ℕ). n + 1 + c) ((stands nodes u (n + 1) b).own.size ∙ sym (nodes_count u.part u.first)) in
        let t = subst (λ (r : ℕ). TruthFrom A (seat_by (kindsOf nodes) (numbersOf nodes) firsts k r) (points_of w.sort k) two) row q in
        seat_truth A w (n + 1 + length U) d (later_still A (n + 1) U b.later b.is a) two t

    found : {s : Sort} (x : Tree s) (at : ℕ) → Begins (drop n nodes) (node x at)
        → OnParts (λ u. TruthFrom A (block n).left (points_of u.sort k) one → TruthIs k recording one u)
        (λ u w. TruthFrom A (block n).right (points_of w.sort k) two → TruthIs k recording two w) x at
    found x at b = parts_map first_found second_found x at (parts_begin nodes n x at b)

    parts_are : {s : Sort} (x : Tree s) (at : ℕ) → Begins (drop n nodes) (node x at) → TruthFrom A (block n).left (part_points k (width_of k x) (rule_of x)) one
        → TruthFrom A (block n).right (part_points k (width_of k x) (rule_of x)) two → PartsAre k recording one two x
    unfolding width_of
    parts_are (constant v) at b p q = tt
    parts_are (letter c) at b p q = tt
    parts_are (negation x) at b p q = found (negation x) at b p
    parts_are (pair and x y) at b p q = let t = found (pair and x y) at b in (t.0 p, t.1 q)
    parts_are (pair or x y) at b p q = let t = found (pair or x y) at b in (t.0 p, t.1 q)
    parts_are (pair chop x y) at b p q = let t = found (pair chop x y) at b in (t.0 p, t.1 q)
    parts_are (duration x c) at b p q = found (duration x c) at b p
    parts_are (throughout x) at b p q = found (throughout x) at b p

  -- one node more is written, its block being handed what it makes of its parts' truth
  pub written_more : (A : List ℕ) → variables_of C k nodes ≤ length A → (n : ℕ) → n < length nodes → {end : ℕ} → end ≡ first (n + 1) - 1 →
      {A' A'' : List ℕ} → A' ≡ sets A end (later (n + 1))
      → ((B : List ℕ) → Makes k recording A' (block n) (end - ((block n).first - 1)) B → A'' ≡ sets A' ((block n).first - 1) B) → A'' ≡ sets A ((block n).first - 1) (later n)
  written_more A long n l {end} o {A'} {A''} w c =
      let v = choose (LettersNode max_channels) nodes n (each_node (LettersNode max_channels) (letters_pass max_channels) f 0 L) l in
      let x = v.chosen.part in
      let own = (stands nodes v.chosen n v.begins).own in
      let rule : (block n).rule ≡ rule_of x = unfold block_by in ap₂ rule_by own.kind own.number ∙ rule_head x in
      let begins : (block n).first ≡ first n = unfold block_by in h n l in
      let here = v.back in
      let next = start_next nodes C k v.chosen n _ here in
      let width : end - ((block n).first - 1) ≡ width_of k x = omega (arith, next, begins, o) in
      let known : later n ≡ block_values k recording x ++ later (n + 1) =
      unfold node_values flat_map in ap (node_values k recording) here ∙
      ap (λ (l : List Node). block_values k recording x ++ node_values k recording l) (sym (drop_front nodes n (v.chosen ∷ []) _ here)) in
      let after = subst (λ (A : List ℕ). Later A (n + 1)) (sym (w ∙ ap (λ (i : ℕ). sets A i (later (n + 1))) o)) (later_stands A (n + 1) (omega arith) long) in
      let makes : Makes k recording A' (block n) (end - ((block n).first - 1)) (block_values k recording x) = λ f g p q.
      ap₂ (λ (w : ℕ) (r : Rule). values_by k recording w f g r) width rule
      ∙ block_values_lem k recording f g x v.holds
      (parts_are A' f g n after x v.chosen.first v.begins (subst (λ (i : ℕ). TruthFrom A' (block n).left i f) (ap₂ (part_points k) width rule) p)
      (subst (λ (i : ℕ). TruthFrom A' (block n).right i g) (ap₂ (part_points k) width rule) q)) in
      c (block_values k recording x) makes
      ∙ ap (λ (A : List ℕ). sets A ((block n).first - 1) (block_values k recording x)) w
      ∙ stored_before A (block_values k recording x) (later (n + 1)) ((block n).first - 1) (omega (arith, next, begins, o, block_length k recording x))
      ∙ ap (sets A ((block n).first - 1)) (sym known)

-- ---- a row's block is as long as its rule asks

module _ (k points : ℕ) where
  abbrev Long : Rule → Type 0
  Long r = let own = weight_by variable_weight k points r in number_of r ≤ 255 → Fits k (cond (is_chop r) (own + weight_by variable_weight k points Cut) own) r

  rules_fit : (number : ℕ) → k ≤ max_steps → points ≤ max_count → All Long (rules_for number)
  unfolding weight_by
  rules_fit number h p =
      let levels : Long (Duration number) = λ l. (l, omega (arith, ap (λ (m : ℕ). number * m) (longer_ones k), suc-mul number (count_of k))) in
      (λ l. p, (λ l. p, (λ l. omega arith, (λ l. omega arith, (λ l. omega arith, (λ l. omega arith, (λ l. omega arith, (levels, tt))))))))

row_fits : (k kind number : ℕ) → k ≤ max_steps → points_by k kind ≤ max_count → number_of (rule_by kind number) ≤ 255 → Fits k (row_weight variable_weight k kind number) (rule_by kind number)
unfolding row_weight rule_by weight_by
row_fits k kind number h p =
    let points = points_by k kind in
    all_or (Long k points) (rules_for number) Throughout (λ l. longer_ones k) (kind % 16) (rules_fit k points number h p)

-- ---- the loop over the nodes, whatever the node table says

-- the rows from x on are passed; their blocks begin at `end`
pub record Extending (k : ℕ) (recording : List ℕ) (T : NodeTable) (firsts : List ℕ) (last : ℕ) (A A' : List ℕ) (x end : ℕ) : Type 0 where
  pub turns : x ≤ T.count
  pub long : length A' ≡ length A
  pub within : end ≤ length A
  pub ends : (C : ℕ) → Seated C k T firsts last → end ≡ k * C + weight_to variable_weight k T.kinds T.numbers x
  pub wrote : (f : Tree Formula) → TableFor max_channels f T → A' ≡ sets A end (node_values k recording (drop x (nodes_of f 0)))

module _ {k : ℕ} {recording : List ℕ} {T : NodeTable} {firsts : List ℕ} {last : ℕ} {A : List ℕ} where
  pub extending_begun : last ≤ length A → Extending k recording T firsts last A A T.count last
  unfolding node_values flat_map table_of
  extending_begun h = record {
    turns = omega arith;
    long = refl;
    within = h;
    ends = λ C s. s.ends;
    wrote =
        λ f n. ap (λ (l : List Node). sets A last (node_values k recording l))
        (sym (drop_of_length-le (nodes_of f 0) {i = T.count} (omega (arith, ap (λ (T : NodeTable). T.count) n.is, length-map (nodes_of f 0) row_of))));
  }

  pub extending_done : {A' : List ℕ} {x end : ℕ} → Extending k recording T firsts last A A' x end → x ≡ 0 → (C : ℕ) (f : Tree Formula) → Seated C k T firsts last
      → TableFor max_channels f T → A' ≡ sets A (k * C) (node_values k recording (nodes_of f 0))
  unfolding weight_to sum
  extending_done {x = x} {end} e z C f s n =
      let o : end ≡ k * C = e.ends C s ∙ ap (λ (x : ℕ). k * C + weight_to variable_weight k T.kinds T.numbers x) z ∙ omega arith in
      e.wrote f n ∙ ap₂ (λ (i x : ℕ). sets A i (node_values k recording (drop x (nodes_of f 0)))) o z

  module _ {A' : List ℕ} {x end : ℕ} (e : Extending k recording T firsts last A A' x end) (o : 0 < x) {b : Block} (q : b ≡ block_by T.kinds T.numbers T.sizes firsts k (x - 1)) where
    -- the next block, the one before
    next_block : (C : ℕ) → Seated C k T firsts last
        → (b.first ≡ 1 + k * C + weight_to variable_weight k T.kinds T.numbers (x - 1)) ×
        (end ≡ b.first - 1 + row_weight variable_weight k (get_or T.kinds (x - 1) 0) (get_or T.numbers (x - 1) 0))
    unfolding block_by
    next_block C s =
        let first = ap (λ (b : Block). b.first) q ∙ s.first (x - 1) (omega (arith, e.turns)) in
        let one : x - 1 + 1 ≡ x = omega arith in
        let next = total_next variable_weight k T.kinds T.numbers (1 + k * C) (x - 1) refl refl ∙ ap (λ (x : ℕ). 1 + k * C + weight_to variable_weight k T.kinds T.numbers x) one in
        (first, omega (arith, e.ends C s, first, next))

    pub block_fits : (C : ℕ) → Seated C k T firsts last → Fine 0 k b → BlockIn k b end (length A')
    unfolding block_by
    block_fits C s f =
        let n = next_block C s in
        let width : row_weight variable_weight k (get_or T.kinds (x - 1) 0) (get_or T.numbers (x - 1) 0) ≡ end - (b.first - 1) = omega (arith, n.1) in
        let rule = ap (λ (b : Block). b.rule) q in (
          omega (arith, n.0),
          omega (arith, n.1),
          omega (arith, e.within, e.long),
          subst (λ (n : ℕ). Fits k n b.rule) width (subst (Fits k _) (sym rule)
              (row_fits k (get_or T.kinds (x - 1) 0) (get_or T.numbers (x - 1) 0) f.bounded.steps
              (subst (λ (n : ℕ). n ≤ max_count) (ap (λ (b : Block). b.points) q) f.points)
              (subst (λ (r : Rule). number_of r ≤ 255) rule f.bounded.number))),
        )

    block_written : (C : ℕ) → Seated C k T firsts last → last ≤ length A → {A'' : List ℕ} → BlockPut k recording b end A' A''
        → (f : Tree Formula) → TableFor max_channels f T → A'' ≡ sets A (b.first - 1) (node_values k recording (drop (x - 1) (nodes_of f 0)))
    unfolding table_of
    block_written C s m {A''} c f n =
        let l = nodes_of f 0 in
        let many : T.count ≡ length l = ap (λ (T : NodeTable). T.count) n.is ∙ length-map l row_of in
        let weight : (y : ℕ) → weight_to variable_weight k T.kinds T.numbers y ≡ weight_before variable_weight k l y = λ y. ap
        (λ (T : NodeTable). weight_to variable_weight k T.kinds T.numbers y) n.is in
        let same : b ≡ block_by (kindsOf l) (numbersOf l) (sizes_of l) firsts k (x - 1) = q ∙ ap (λ (T : NodeTable). block_by T.kinds T.numbers T.sizes firsts k (x - 1)) n.is in
        let one : x ≡ x - 1 + 1 = omega arith in
        let firsts_are : (y : ℕ) → y < length l → get_or firsts y 0 ≡ start l C k y = λ y h. s.first y (omega (arith, many)) ∙ ap (λ (w : ℕ). 1 + k * C + w) (weight y) in
        let fits : variables_of C k l ≤ length A = omega (arith, s.ends, weight T.count, ap (weight_before variable_weight k l) many, variables_are C k f) in
        let ends : end ≡ start l C k (x - 1 + 1) - 1 = omega (arith, e.ends C s, weight x, ap (weight_before variable_weight k l) one) in
        written_more C k recording f n.letters firsts firsts_are A fits (x - 1) (omega (arith, many, e.turns)) ends
        (e.wrote f n ∙ ap (λ (x : ℕ). sets A end (node_values k recording (drop x l))) one)
        (subst (λ (b : Block). BlockPut k recording b end A' A'') same c)
        ∙ ap (λ (b : Block). sets A (b.first - 1) (node_values k recording (drop (x - 1) l))) (sym same)

    pub extending_turn : (C : ℕ) → Seated C k T firsts last → last ≤ length A → {A'' : List ℕ} → length A'' ≡ length A'
        → BlockPut k recording b end A' A''
        → Extending k recording T firsts last A A'' (x - 1) (b.first - 1)
    extending_turn C s h l c = record {
      turns = omega (arith, e.turns);
      long = l ∙ e.long;
      within = omega (arith, e.within, (next_block C s).1);
      ends = λ D t. omega (arith, (next_block D t).0);
      wrote = block_written C s h c;
    }
