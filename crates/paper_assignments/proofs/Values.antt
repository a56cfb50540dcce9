-- The values of nodes are as long as their blocks, each 0 or 1, and a node's truth stands in its block where `truth_of` says.
-- Each list is made by counting, or of the intervals or triples in the order of their places; a tree's nodes are its own and then its parts'.
use mathlib.Core.Path.{◌≡◌, refl, sym, ap, ap₂, ◌∙◌}
use mathlib.Core.Bool.{Bool}
use mathlib.Core.List.{List, [], ◌∷◌, ◌++◌, append_assoc, map, flat_map}
use Prim.Native.Nat.{ℕ, zero, suc, ◌+◌, ◌*◌, ◌<◌}
use native.Mathlib.Nat.{zero-add}
use native.Mathlib.Omega.{arith}
use lib.ListN.{length, get_or, length-append, length-map, get_or-append}
use lib.Seq.{ext_get_or}
use Rattle.lists.specs.Listing.{rows, tab}
use Rattle.interval.specs.Places.{count_of, intervals_of, triples_of, triple_count_of}
use Rattle.interval.specs.Limits.{IntervalOf, TripleOf}
use Rattle.lists.proofs.Listing.{length_rows, get_or_rows, length_tab, get_or_tab, sum_alike}
use Rattle.interval.specs.declared.Interval.{Interval}
use Rattle.interval.proofs.Shape.{Numbered}
use Rattle.interval.proofs.Laws.{intervals_numbered, triples_numbered}
use Rattle.paper_grammar.specs.Trees.{and, or, chop, Tree, constant, letter, negation, pair, duration, throughout}
use Rattle.paper_grammar.specs.declared.Sort.{Sort}
use Rattle.paper_grammar.specs.declared.Sort.TheVariants.{State, Formula}
use Rattle.paper_grammar.specs.Nodes.{Node, nodes_of}
use Rattle.lists.proofs.Lists.{all_append, flat_append, all_rows, all_mapped}
use Rattle.paper_meaning.specs.Meaning.{bit, channel_at, Point, truth}
use Rattle.paper_meaning.proofs.Words.{bit_lt}
use Rattle.paper_circuit.specs.Circuit.{points_of, width_of, blocks_of, variables_of, truth_of}
use Rattle.paper_circuit.proofs.Blocks.{parts_of, bare, by_parts, truth_fits}
use Rattle.paper_circuit.proofs.Inputs.{intervals_in, triples_in}
use Rattle.paper_meaning.specs.Recording.{EachBelow}
use Rattle.paper_assignments.specs.Extension.{channel_values, truth_values, cuts, cut_values, block_values, node_values, extension_of}

-- ---- lists of things by their places, and rows of one width

module _ {A : Type 0} {In : A → Type 0} {placed : A → ℕ} {listed : List A} {n : ℕ} (m : Numbered In placed listed n) where
  numbered_length : length listed ≡ n
  numbered_length = sym (length-map listed placed) ∙ ap length m.in_order ∙ length_tab n (λ p. p)

  pub mapped_length : (f : A → ℕ) → length (map f listed) ≡ n
  mapped_length f = length-map listed f ∙ numbered_length

  pub mapped_at : (f : A → ℕ) (e : ℕ) (d : A) → e < n → get_or (map f listed) e 0 ≡ f (get_or listed e d)
  mapped_at f e d h = go listed e (omega (arith, numbered_length))
    where
      go : (l : List A) (e : ℕ) → e < length l → get_or (map f l) e 0 ≡ f (get_or l e d)
      go [] e h = absurd (omega arith)
      go (a ∷ l) zero h = refl
      go (a ∷ l) (suc e) h = go l e (omega arith)

module _ {A : Type 0} (w : ℕ) (f : ℕ → List A) (e : (i : ℕ) → length (f i) ≡ w) where
  pub alike_length : (n : ℕ) → length (rows n f) ≡ n * w
  alike_length n = length_rows f (λ i. w) e n ∙ sum_alike w n

  pub alike_at : (n i y : ℕ) (d : A) → i < n → y < w → get_or (rows n f) (i * w + y) d ≡ get_or (f i) y d
  alike_at n i y d h l = rw (← sum_alike w i) (get_or_rows f (λ i. w) e n i y d h l)

-- ---- a truth at each point: at an instant, or on an interval

abbrev pub point_at : (s : Sort) → ℕ → ℕ → Point s
point_at State k e = e
point_at Formula k e = get_or (intervals_of k) e (record { i = 0; j = 0 })

pub truth_length : (s : Sort) (k : ℕ) (g : Point s → Bool) → length (truth_values s k g) ≡ points_of s k
truth_length State k g = length_tab k _
truth_length Formula k g = mapped_length (intervals_numbered k) _

pub truth_at : (s : Sort) (k : ℕ) (g : Point s → Bool) (e : ℕ) → e < points_of s k → get_or (truth_values s k g) e 0 ≡ bit (g (point_at s k e))
truth_at State k g e h = get_or_tab k (λ t. bit (g t)) e 0 h
truth_at Formula k g e h = mapped_at (intervals_numbered k) (λ v. bit (g v)) e (record { i = 0; j = 0 }) h

-- a truth at each point, listed by the points' places
pub truth_tab : (s : Sort) (k : ℕ) (g : Point s → Bool) (x : ℕ → ℕ) → ((e : ℕ) → e < points_of s k → x e ≡ bit (g (point_at s k e))) → tab (points_of s k) x ≡ truth_values s k g
truth_tab s k g x h =
    let n = length_tab (points_of s k) x in
    ext_get_or 0 _ _ (n ∙ sym (truth_length s k g)) (λ e l.
    let m : e < points_of s k = omega (arith, n) in
    get_or_tab (points_of s k) x e 0 m ∙ h e m ∙ sym (truth_at s k g e m))

truth_bits : (s : Sort) (k : ℕ) (f : Point s → Bool) → EachBelow 2 (truth_values s k f)
truth_bits State k f = all_rows _ k _ (λ t h. (bit_lt (f t), tt))
truth_bits Formula k f = all_mapped _ (IntervalOf k) _ (intervals_of k) (λ v o. bit_lt (f v)) (intervals_in k)

-- ---- blocks

module _ (k : ℕ) (recording : List ℕ) where
  -- a block is its node's truth, alone; or a chop's triples follow it; or a duration's lower levels stand before it
  module _ (Q : (s : Sort) → (Point s → Bool) → ℕ → ℕ → List ℕ → Type 0) (alone : (s : Sort) (g : Point s → Bool) → Q s g 0 (points_of s k) (truth_values s k g))
      (triples : (g f h : Interval → Bool) → Q Formula g 0 (count_of k + triple_count_of k) (truth_values Formula k g ++ cut_values k f h))
      (levels : (f : ℕ → Interval → Bool) (n : ℕ) → Q Formula (f n) (n * count_of k) (suc n * count_of k) (rows (suc n) (λ c. truth_values Formula k (f c)))) where
    by_block : {s : Sort} (x : Tree s) → Q s (truth recording x) (truth_of k x) (width_of k x) (block_values k recording x)
    unfolding block_values truth_of width_of
    by_block {s} (constant v) = alone s (truth {s = s} recording (constant v))
    by_block (letter c) = alone State (truth recording (letter c))
    by_block {s} (negation x) = alone s (truth recording (negation x))
    by_block {s} (pair and x y) = alone s (truth recording (pair and x y))
    by_block {s} (pair or x y) = alone s (truth recording (pair or x y))
    by_block (pair chop x y) = triples (truth recording (pair chop x y)) (truth recording x) (truth recording y)
    by_block (duration x n) = levels (λ c. truth recording (duration x c)) n
    by_block (throughout x) = alone Formula (truth recording (throughout x))

  pub block_length : {s : Sort} (x : Tree s) → length (block_values k recording x) ≡ width_of k x
  block_length x =
      by_block (λ s g t w B. length B ≡ w) (λ s g. truth_length s k g)
      (λ g f h. length-append (truth_values Formula k g) (cut_values k f h) ∙ ap₂ ◌+◌ (truth_length Formula k g) (mapped_length (triples_numbered k) (λ t. bit (cuts f h t))))
      (λ f n. alike_length (count_of k) _ (λ c. truth_length Formula k (f c)) (suc n)) x

  -- "Level n is the node's truth"
  truth_in_block : {s : Sort} (x : Tree s) (e : ℕ) → e < points_of s k → get_or (block_values k recording x) (truth_of k x + e) 0 ≡ bit (truth recording x (point_at s k e))
  truth_in_block x =
      by_block (λ s g t w B. (e : ℕ) → e < points_of s k → get_or B (t + e) 0 ≡ bit (g (point_at s k e)))
      (λ s g e h. ap (λ (i : ℕ). get_or (truth_values s k g) i 0) (zero-add e) ∙ truth_at s k g e h)
      (λ g f h e l. ap (λ (i : ℕ). get_or (truth_values Formula k g ++ cut_values k f h) i 0) (zero-add e)
      ∙ get_or-append (truth_values Formula k g) (cut_values k f h) 0 e (omega (arith, truth_length Formula k g)) ∙ truth_at Formula k g e l)
      (λ f n e h. alike_at (count_of k) _ (λ c. truth_length Formula k (f c)) (suc n) n e 0 (omega arith) h ∙ truth_at Formula k (f n) e h) x

  block_bits : {s : Sort} (x : Tree s) → EachBelow 2 (block_values k recording x)
  block_bits x =
      by_block (λ s g t w B. EachBelow 2 B) (λ s g. truth_bits s k g)
      (λ g f h. all_append _ (truth_values Formula k g) (cut_values k f h) (truth_bits Formula k g)
      (all_mapped _ (TripleOf k) _ (triples_of k) (λ t o. bit_lt (cuts f h t)) (triples_in k)))
      (λ f n. all_rows _ (suc n) _ (λ c h. truth_bits Formula k (f c))) x

  pub values_append : (l m : List Node) → node_values k recording (l ++ m) ≡ node_values k recording l ++ node_values k recording m
  unfolding node_values
  values_append l m = flat_append (λ (w : Node). block_values k recording w.part) l m

  pub values_length : (l : List Node) → length (node_values k recording l) ≡ blocks_of k l
  unfolding node_values flat_map blocks_of
  values_length [] = refl
  values_length (w ∷ l) = length-append (block_values k recording w.part) (node_values k recording l) ∙ ap₂ ◌+◌ (block_length w.part) (values_length l)

  pub node_bits : (l : List Node) → EachBelow 2 (node_values k recording l)
  unfolding node_values flat_map
  node_bits [] = tt
  node_bits (w ∷ l) = all_append _ (block_values k recording w.part) (node_values k recording l) (block_bits w.part) (node_bits l)

  values_bare : (l : List Node) → node_values k recording (bare l) ≡ node_values k recording l
  unfolding node_values flat_map
  values_bare [] = refl
  values_bare (w ∷ l) = ap (λ m. block_values k recording w.part ++ m) (values_bare l)

  pub values_parts : {s : Sort} (x : Tree s) (at : ℕ) → node_values k recording (nodes_of x at) ≡ block_values k recording x ++ node_values k recording (parts_of x)
  unfolding node_values flat_map
  values_parts x at = by_parts (node_values k recording) values_bare x at

  pub truth_stands : {s : Sort} (x : Tree s) (at : ℕ) (m : List Node) (e : ℕ) → e < points_of s k
      → get_or (node_values k recording (nodes_of x at ++ m)) (truth_of k x + e) 0 ≡ bit (truth recording x (point_at s k e))
  truth_stands x at m e h =
      rw (values_append, values_parts, append_assoc)
      (get_or-append (block_values k recording x) _ 0 (truth_of k x + e) (omega (arith, truth_fits k x, block_length x)) ∙ truth_in_block x e h)

-- ---- the extension

pub channels_length : (C k : ℕ) (recording : List ℕ) → length (channel_values C k recording) ≡ k * C
unfolding channel_values
channels_length C k recording = alike_length C _ (λ t. length_tab C (λ c. bit (channel_at recording c t))) k

pub extension_length : (C k : ℕ) (recording : List ℕ) (l : List Node) → length (extension_of C k recording l) ≡ variables_of C k l
unfolding extension_of variables_of
extension_length C k recording l =
    length-append (channel_values C k recording) (node_values k recording l) ∙ ap₂ ◌+◌ (channels_length C k recording) (values_length k recording l)
