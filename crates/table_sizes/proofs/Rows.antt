-- A row weighs what its node's own definitions weigh, since its kind and number tell their rule and how many there are. So the sum over
-- the rows of nodes that follow each other is what the definitions of these nodes weigh, and in variables it is their blocks.
use mathlib.Core.Path.{◌≡◌, refl, sym, ap, ap₂, ◌∙◌, subst}
use mathlib.Core.Bool.{Bool, cond, true, false}
use mathlib.Core.List.{List, [], ◌∷◌, ◌++◌, append-nil}
use Prim.Native.Nat.{ℕ, suc, ◌+◌, ◌-◌, ◌*◌, ◌≤◌, ◌<◌}
use native.Mathlib.Nat.{mul-one, suc-mul, zero-add}
use native.Mathlib.Numerals.{add-one}
use native.Mathlib.Decide.{dec_lt}
use native.Mathlib.Omega.{arith}
use lib.ListN.{length, get_or, drop, length-append, length-drop}
use lib.Seq.{get_or-drop}
use Rattle.std.proofs.lemmas.List.{get_or_append_left, get_or-append_right}
use borrow.Author.Tests.{lt-ltb, le-ltb}
use Rattle.lists.specs.Listing.{sum}
use Rattle.interval.specs.Places.{count_of}
use Rattle.interval.specs.Limits.{max_steps, max_count}
use Rattle.lists.proofs.Listing.{sum_le}
use Rattle.paper_grammar.specs.Limits.{max_nodes}
use Rattle.paper_grammar.specs.Trees.{and, or, chop, Tree, constant, letter, negation, pair, duration, throughout}
use Rattle.paper_grammar.proofs.Written.{drop_front}
use Rattle.paper_grammar.specs.declared.Sort.{Sort}
use Rattle.paper_grammar.specs.declared.Sort.TheVariants.{State, Formula}
use Rattle.paper_grammar.specs.Nodes.{Node}
use Rattle.node_rows.specs.Table.{sort_code, head_of}
use Rattle.node_rows.proofs.Forms.{form_of}
use Rattle.node_rows.specs.declared.Row.{Row}
use Rattle.node_calls.proofs.Laws.{field_after}
use Rattle.node_calls.proofs.Standing.{column}
use Rattle.paper_circuit.specs.Circuit.{points_of, width_of, blocks_of, Seats, seats_of, own_by, own_of, defined_from}
use Rattle.table_blocks.specs.Blocks.{number_of, is_chop, rule_of, rule_by, defined_by, block_of}
use Rattle.table_blocks.specs.declared.Rule.{Rule}
use Rattle.table_blocks.specs.declared.Rule.TheVariants.{Chop, Cut}
use Rattle.table_blocks.proofs.Positions.{rule_number}
use Rattle.table_blocks.proofs.Heads.{rule_head, chop_or_not}
use Rattle.table_blocks.proofs.Own.{tripled, own_defined, chop_defined}
use Rattle.table_sizes.specs.Weights.{weight_all, variable_weight, weight_by, Light, Small, points_by, row_weight, weight_to, max_sum, Summed}
use Rattle.table_sizes.specs.declared.Weight.{Weight}
use Rattle.table_sizes.proofs.Weights.{weight_append, block_weight, longer_ones}

-- ---- a row

module _ (k kind : ℕ) where
  pub points_state : kind < 16 → k ≡ points_by k kind
  unfolding points_by
  points_state h = rw (lt-ltb kind 16 h)

  pub points_formula : 16 ≤ kind → count_of k ≡ points_by k kind
  unfolding points_by
  points_formula h = rw (le-ltb kind 16 h)

pub points_head : (k : ℕ) {s : Sort} (x : Tree s) → points_by k (head_of x).kind ≡ points_of s k
points_head k {s} x = let (op, h, e, f) = form_of x in ap (points_by k) e ∙ go s op h
  where
    go : (s : Sort) (op : ℕ) → op < 16 → points_by k (sort_code s + op) ≡ points_of s k
    go State op h = sym (points_state k (0 + op) (omega arith))
    go Formula op h = sym (points_formula k (16 + op) (omega arith))

module _ (w : Weight) (k : ℕ) where
  -- by its node's rule
  abbrev row_by : ℕ → Rule → ℕ
  row_by points r = let own = weight_by w k points r in cond (is_chop r) (own + weight_by w k points Cut) own

  row_by_lem : {s : Sort} (x : Tree s) → row_weight w k (head_of x).kind (head_of x).number ≡ row_by (points_of s k) (rule_of x)
  unfolding row_weight
  row_by_lem x = ap₂ (λ (p : ℕ) (r : Rule). row_by p r) (points_head k x) (rule_head x)

  module _ (C b : ℕ) (S : Seats) where
    chop_weight : (x y : Tree Formula) → row_by (count_of k) Chop ≡ weight_all w (own_by C k b S (pair chop x y))
    chop_weight x y =
        let m = tripled k b S.left S.right in
        let n = block_of k b (b + count_of k) S.right (pair chop x y) in
        omega (arith, ap (weight_all w) (chop_defined C k b S x y), weight_append w (defined_by C k m) (defined_by C k n), block_weight w C k m, block_weight w C k n)

    other_weight : (s : Sort) (x : Tree s) → is_chop (rule_of x) ≡ false → row_by (points_of s k) (rule_of x) ≡ weight_all w (own_by C k b S x)
    other_weight s x n =
        let own = weight_by w k (points_of s k) (rule_of x) in
        ap (λ (c : Bool). cond c (own + weight_by w k (points_of s k) Cut) own) n
        ∙ sym (ap (weight_all w) (own_defined C k b S x n) ∙ block_weight w C k (block_of k b S.left S.right x))

    -- weighs what its node's own definitions weigh
    pub row_weight_lem : {s : Sort} (x : Tree s) → row_weight w k (head_of x).kind (head_of x).number ≡ weight_all w (own_by C k b S x)
    row_weight_lem x = row_by_lem x ∙ chop_or_not (λ s x. row_by (points_of s k) (rule_of x) ≡ weight_all w (own_by C k b S x)) chop_weight other_weight x

-- in variables, as many as its node's block
width_by_lem : (k : ℕ) {s : Sort} (x : Tree s) → row_by variable_weight k (points_of s k) (rule_of x) ≡ width_of k x
unfolding weight_by width_of
width_by_lem k (constant v) = refl
width_by_lem k (letter c) = mul-one k
width_by_lem k {s} (negation x) = mul-one (points_of s k)
width_by_lem k {s} (pair and x y) = mul-one (points_of s k)
width_by_lem k {s} (pair or x y) = mul-one (points_of s k)
width_by_lem k (pair chop x y) = omega arith
width_by_lem k (duration x n) = omega (arith, ap (λ (m : ℕ). n * m) (longer_ones k), suc-mul n (count_of k))
width_by_lem k (throughout x) = longer_ones k

pub row_width : (k : ℕ) {s : Sort} (x : Tree s) → row_weight variable_weight k (head_of x).kind (head_of x).number ≡ width_of k x
row_width k x = row_by_lem variable_weight k x ∙ width_by_lem k x

-- ---- rows

weight_next : (w : Weight) (k : ℕ) (kinds numbers : List ℕ) (x : ℕ)
    → weight_to w k kinds numbers (x + 1) ≡ weight_to w k kinds numbers x + row_weight w k (get_or kinds x 0) (get_or numbers x 0)
unfolding weight_to sum
weight_next w k kinds numbers x = rw add-one

-- what the nodes before x weigh
abbrev pub weight_before : Weight → ℕ → List Node → ℕ → ℕ
weight_before w k l x = weight_to w k (column l (λ (r : Row). r.head.kind)) (column l (λ (r : Row). r.head.number)) x

module _ (w : Weight) (C k : ℕ) (l : List Node) where
  -- nodes from x on weigh what their definitions weigh, wherever their blocks begin
  pub part_weight : (b x : ℕ) (A m : List Node) → drop x l ≡ A ++ m → weight_before w k l (x + length A) ≡ weight_before w k l x + weight_all w (defined_from C k b A)
  unfolding defined_from own_of weight_all
  part_weight b x [] m e = let g : x + 0 ≡ x = omega arith in omega (arith, ap (weight_before w k l) g)
  part_weight b x (u ∷ A) m e =
      let p = b + width_of k u.part in
      let g : x + suc (length A) ≡ x + 1 + length A = omega arith in
      let kind = field_after (λ (r : Row). r.head.kind) l (A ++ m) x u e in
      let number = field_after (λ (r : Row). r.head.number) l (A ++ m) x u e in
      omega (
        arith,
        ap (weight_before w k l) g,
        part_weight p (x + 1) A m (drop_front l x (u ∷ []) (A ++ m) e),
        weight_next w k (column l (λ (r : Row). r.head.kind)) (column l (λ (r : Row). r.head.number)) x,
        ap₂ (row_weight w k) kind number,
        row_weight_lem w k C b (seats_of k p u.part) u.part,
        weight_append w (own_of C k b u.part) (defined_from C k p A),
      )

  pub all_weight : (b : ℕ) → weight_before w k l (length l) ≡ weight_all w (defined_from C k b l)
  unfolding weight_to sum
  all_weight b = omega (arith, ap (weight_before w k l) (zero-add (length l)), part_weight b 0 l [] (sym (append-nil l)))

-- each variable of these nodes has one gate
blocks_weight : (C k b : ℕ) (A : List Node) → weight_all variable_weight (defined_from C k b A) ≡ blocks_of k A
unfolding defined_from weight_all blocks_of own_of
blocks_weight C k b [] = refl
blocks_weight C k b (u ∷ A) =
    let p = b + width_of k u.part in
    omega (
      arith,
      weight_append variable_weight (own_of C k b u.part) (defined_from C k p A),
      blocks_weight C k p A,
      row_weight_lem variable_weight k C b (seats_of k p u.part) u.part,
      row_width k u.part,
    )

-- nodes from x on have their blocks in variables
pub part_width : (k : ℕ) (l : List Node) (x : ℕ) (A m : List Node) → drop x l ≡ A ++ m
    → weight_before variable_weight k l (x + length A) ≡ weight_before variable_weight k l x + blocks_of k A
part_width k l x A m e = omega (arith, part_weight variable_weight 0 k l 0 x A m e, blocks_weight 0 k 0 A)

-- ---- what the code comes to

-- a weight that the code has found to be small
pub small : {w v : Weight} {k : ℕ} → w ≡ v → v.copy ≤ 4 → v.each ≤ 3 → v.step ≤ 11 → k ≤ max_steps → Small w k
small {k = k} e x y z h = subst (λ (w : Weight). Small w k) (sym e) (record { copy = x; each = y; step = z; steps = h })

-- what `weigh` asks of a row's block
pub row_light : {w : Weight} {k points : ℕ} {r : Rule} (kind number : ℕ) → r ≡ rule_by kind number → Small w k → number ≤ 255 → points ≤ max_count → Light w k points r
row_light kind number e s h m = record { small = s; points = m; number = omega (arith, ap number_of e, rule_number kind number h) }

module _ (w : Weight) (k kind number : ℕ) {points : ℕ} {r : Rule} (p : points ≡ points_by k kind) (e : r ≡ rule_by kind number) where
  -- a chop's two blocks, or another node's one
  pub row_chop : {c : Bool} → c ≡ is_chop r → c ≡ true → {a d : ℕ} → a ≡ weight_by w k points r → d ≡ weight_by w k points Cut → a + d ≡ row_weight w k kind number
  unfolding row_weight
  row_chop f g h i = rw (← p, ← e, ← f, g, ← h, ← i) refl

  pub row_other : {c : Bool} → c ≡ is_chop r → c ≡ false → {a : ℕ} → a ≡ weight_by w k points r → a ≡ row_weight w k kind number
  unfolding row_weight
  row_other f g h = rw (← p, ← e, ← f, g, ← h) refl

module _ (w : Weight) (k : ℕ) (kinds numbers : List ℕ) (start : ℕ) where
  -- the total before the first row, and before the next
  pub total_first : start ≡ start + weight_to w k kinds numbers 0
  unfolding weight_to sum
  total_first = omega arith

  pub total_next : (x : ℕ) {t v : ℕ} → t ≡ start + weight_to w k kinds numbers x → v ≡ row_weight w k (get_or kinds x 0) (get_or numbers x 0) →
      t + v ≡ start + weight_to w k kinds numbers (x + 1)
  total_next x e f = omega (arith, weight_next w k kinds numbers x)

  -- all rows are passed, and what is beyond them stands
  pub summed : (count : ℕ) (old new : List ℕ) (x : ℕ) (r : ℕ) → x ≡ count → (length new ≡ count) × (count ≤ length old) × (length old ≡ max_nodes) →
      r ≡ start + weight_to w k kinds numbers x → r ≤ max_sum → ((y : ℕ) → y < x → get_or new y 0 ≡ start + weight_to w k kinds numbers y)
      → Summed w k kinds numbers start count old (new ++ drop count old) r
  unfolding weight_to
  summed count old new x r e (n, h, l) t m b = record {
    total = t ∙ ap (λ (x : ℕ). start + weight_to w k kinds numbers x) e;
    most = m;
    below = λ y g. at y g ∙ b y (omega arith);
    within = λ y g. omega (arith, at y g, b y (omega arith), sum_le (λ y. row_weight w k (get_or kinds y 0) (get_or numbers y 0)) x y (omega arith));
    beyond = λ y g.
        let z : count + (y - count) ≡ y = omega arith in
        get_or-append_right new (drop count old) count y 0 n g ∙ get_or-drop count old (y - count) 0 ∙ ap (λ (y : ℕ). get_or old y 0) z;
    whole = omega (arith, length-append new (drop count old), length-drop count old);
  }
    where
      at : (y : ℕ) → y < count → get_or (new ++ drop count old) y 0 ≡ get_or new y 0
      at y g = get_or_append_left new (drop count old) 0 y (omega arith)

-- no entry is more than the limit if none beyond the rows was
pub all_low : {w : Weight} {k : ℕ} {kinds numbers : List ℕ} {start count : ℕ} {old new : List ℕ} {r : ℕ} → Summed w k kinds numbers start count old new r
    → ((y : ℕ) → get_or old y 0 ≤ max_sum) → (y : ℕ) → get_or new y 0 ≤ max_sum
all_low {count = count} {new = new} s h y = go (dec_lt y count)
  where
    go : Dec (y < count) → get_or new y 0 ≤ max_sum
    go (yes l) = omega (arith, s.within y l, s.most)
    go (no l) = omega (arith, s.beyond y (omega arith), h y)
