-- An assignment that has a recording's channels and spells the values of a tree's nodes meets the nodes' definitions: by cases on the node,
-- since its own block and its parts' truth stand where the gates look, and each gate does what the meaning says.
use mathlib.Core.Path.{◌≡◌, sym, ap, ap₂, ◌∙◌, subst}
use mathlib.Core.Bool.{Bool, not, ◌&&◌, ◌||◌}
use mathlib.Core.List.{List, [], ◌∷◌, ◌++◌, append-nil, map, flat_map}
use Prim.Native.Nat.{ℕ, zero, suc, ◌+◌, ◌-◌, ◌*◌, ◌<◌}
use native.Mathlib.Omega.{arith}
use lib.Dec.{eqb}
use lib.ListN.{length, get_or, length-append, get_or-append}
use lib.Seq.{get_or-append-add}
use borrow.Author.Tests.{le-leb, eqb-true, eqb-false}
use Rattle.lists.specs.Listing.{rows, All}
use Rattle.interval.specs.Places.{count_of, place_of, triple_place_of, intervals_of, triples_of}
use Rattle.interval.specs.Limits.{IntervalOf, TripleOf}
use Rattle.interval.specs.declared.Interval.{Interval}
use Rattle.interval.specs.declared.Triple.{Triple}
use Rattle.interval.proofs.Shape.{Numbered}
use Rattle.interval.proofs.Laws.{intervals_numbered, triples_numbered, triples_in_a_row}
use Rattle.paper_grammar.specs.Trees.{and, or, chop, Tree, constant, letter, negation, pair, duration, throughout, Letters}
use Rattle.paper_grammar.specs.declared.Sort.{Sort}
use Rattle.paper_grammar.specs.declared.Sort.TheVariants.{Formula}
use Rattle.lists.proofs.Tests.{cond_elim}
use Rattle.paper_grammar.specs.Nodes.{nodes_of, Node}
use Rattle.lists.proofs.Lists.{all_append, all_rows, all_mapped}
use Rattle.paper_grammar.proofs.EachNode.{OnParts, Each, LettersNode}
use Rattle.paper_meaning.specs.Meaning.{bit, channel_at, highs, any, lasts, fills, chops, truth}
use Rattle.paper_meaning.proofs.Words.{high_bit}
use Rattle.paper_circuit.specs.declared.Gate.{Gate}
use Rattle.paper_circuit.specs.Gates.{Assignment, value_of}
use Rattle.paper_circuit.specs.Circuit.{channel_of, points_of, width_of, blocks_of, truth_of, Definition, shorter, throughout_gate, level_of, level_gate}
use Rattle.paper_circuit.specs.Circuit.{triple_gate, chop_gate, Seats, seats_of, own_by, own_of, defined_from}
use Rattle.paper_circuit.proofs.Blocks.{parts_of, truth_lt}
use Rattle.paper_circuit.proofs.Inputs.{intervals_in, triples_in, row_lt}
use Rattle.paper_assignments.specs.Extension.{truth_values, cuts, cut_values, block_values, node_values}
use Rattle.paper_assignments.proofs.Values.{mapped_length, mapped_at, alike_length, alike_at, point_at, truth_length, truth_at, block_length}
use Rattle.paper_assignments.proofs.Values.{values_append, values_length, values_parts, truth_stands}
use Rattle.paper_assignments.proofs.Longer.{fills_empty, fills_one, fills_longer, lasts_empty, lasts_longer, some_along}

-- the variable has its gate's value
abbrev pub Defined : Assignment → Definition → Type 0
Defined a d = a d.variable ≡ value_of a d.gate

module _ (a : Assignment) where
  -- the variables from b on have the values of these bytes
  abbrev pub Spells : ℕ → List ℕ → Type 0
  Spells b L = (y : ℕ) → y < length L → a (b + y) ≡ eqb (get_or L y 0) 1

  pub spells_append : (b n : ℕ) (L M : List ℕ) → length L ≡ n → Spells b (L ++ M) → Spells b L × Spells (b + n) M
  spells_append b n L M e h = (
    λ y l. h y (omega (arith, length-append L M)) ∙ ap (λ z. eqb z 1) (get_or-append L M 0 y l),
    λ y l.
        let q : b + n + y ≡ b + (length L + y) = omega arith in
        ap a q ∙ h (length L + y) (omega (arith, length-append L M)) ∙ ap (λ z. eqb z 1) (get_or-append-add L M y 0),
  )

  pub spells_row : (b w : ℕ) (f : ℕ → List ℕ) → ((i : ℕ) → length (f i) ≡ w) → (n i : ℕ) → i < n → Spells b (rows n f) → Spells (b + i * w) (f i)
  spells_row b w f e n i m h y l =
      let o : y < w = omega (arith, e i) in
      let q : b + i * w + y ≡ b + (i * w + y) = omega arith in
      ap a q ∙ h (i * w + y) (omega (arith, row_lt w n i y m o, alike_length w f e n)) ∙ ap (λ z. eqb z 1) (alike_at w f e n i y 0 m o)

  -- the n variables from b on have the values of f
  abbrev pub Has : ℕ → ℕ → (ℕ → Bool) → Type 0
  Has b n f = (e : ℕ) → e < n → a (b + e) ≡ f e

  pub spelled : (b n : ℕ) (f : ℕ → Bool) (L : List ℕ) → length L ≡ n → ((e : ℕ) → e < n → get_or L e 0 ≡ bit (f e)) → Spells b L → Has b n f
  spelled b n f L l g h e m = h e (omega arith) ∙ ap (λ z. eqb z 1) (g e m) ∙ high_bit (f e)

  placed_has : {A : Type 0} {In : A → Type 0} {placed : A → ℕ} {listed : List A} {n : ℕ} → Numbered In placed listed n → (b : ℕ) (f : A → Bool) (d : A)
      → Has b n (λ e. f (get_or listed e d)) → (x : A) → In x → a (b + placed x) ≡ f x
  placed_has m b f d h x i = h _ (m.below x i) ∙ ap f (m.at_place x d i)

-- ---- each gate does what the meaning says

module _ (a : Assignment) (k : ℕ) where
  abbrev pub HasOn : ℕ → (Interval → Bool) → Type 0
  HasOn b f = Has a b (count_of k) (λ e. f (point_at Formula k e))

  pub on_intervals : (b : ℕ) (f : Interval → Bool) → HasOn b f → (v : Interval) → IntervalOf k v → a (b + place_of k v) ≡ f v
  on_intervals b f h = placed_has a (intervals_numbered k) b f (record { i = 0; j = 0 }) h

  module _ (b l : ℕ) (f : ℕ → Bool) (part : Has a l k f) where
    throughout_meets : HasOn b (fills f) → (v : Interval) → IntervalOf k v → a (b + place_of k v) ≡ value_of a (throughout_gate k b l v)
    unfolding value_of
    throughout_meets h v o =
        let own = on_intervals b (fills f) h in
        cond_elim Met (eqb v.i v.j) (λ e. own v o ∙ fills_empty f v (eqb-true v.i v.j e))
        (λ e.
        let n : v.i < v.j = omega (arith, eqb-false v.i v.j e) in
        cond_elim Met (eqb (v.i + 1) v.j) (λ e. own v o ∙ fills_one f v n (eqb-true (v.i + 1) v.j e) ∙ sym (part v.i (omega arith)))
        (λ e. own v o ∙ fills_longer f v n (eqb-false (v.i + 1) v.j e) ∙ sym (ap₂ ◌&&◌ (own (shorter v) (omega arith)) (part (v.j - 1) (omega arith)))))
      where
        Met : Gate → Type 0
        Met g = a (b + place_of k v) ≡ value_of a g

    level_meets : (n : ℕ) → ((c : ℕ) → c < n → HasOn (b + c * count_of k) (lasts c f))
        → (c : ℕ) → c < n → (v : Interval) → IntervalOf k v → a (level_of k b c v) ≡ value_of a (level_gate k b l c v)
    unfolding value_of lasts
    level_meets n h zero m v o = on_intervals _ (lasts zero f) (h zero m) v o ∙ le-leb 0 (highs f v.i (v.j - v.i)) (omega arith)
    level_meets n h (suc c) m v o =
        let own : (w : Interval) → IntervalOf k w → a (level_of k b (suc c) w) ≡ lasts (suc c) f w = on_intervals _ (lasts (suc c) f) (h (suc c) m) in
        cond_elim (λ g. a (level_of k b (suc c) v) ≡ value_of a g) (eqb v.i v.j) (λ e. own v o ∙ lasts_empty f v (eqb-true v.i v.j e) c)
        (λ e.
        let n : v.i < v.j = omega (arith, eqb-false v.i v.j e) in
        let below = on_intervals _ (lasts c f) (h c (omega arith)) (shorter v) (omega arith) in
        own v o ∙ lasts_longer f v n c ∙ sym (ap₂ ◌||◌ (own (shorter v) (omega arith)) (ap₂ ◌&&◌ below (part (v.j - 1) (omega arith)))))

  module _ (f g : Interval → Bool) (w : ℕ) (own : Spells a w (cut_values k f g)) where
    on_triples : (t : Triple) → TripleOf k t → a (w + triple_place_of k t) ≡ cuts f g t
    on_triples =
        let m = triples_numbered k in
        let n : Triple → ℕ = λ t. bit (cuts f g t) in
        let d : Triple = record { i = 0; m = 0; j = 0 } in
        placed_has a m w (cuts f g) d (spelled a w _ (λ e. cuts f g (get_or (triples_of k) e d)) (cut_values k f g) (mapped_length m n) (λ e. mapped_at m n e d) own)

    triple_meets : (l r : ℕ) → HasOn l f → HasOn r g → (t : Triple) → TripleOf k t → a (w + triple_place_of k t) ≡ value_of a (triple_gate k l r t)
    unfolding value_of
    triple_meets l r p q t o =
        on_triples t o
        ∙ sym (ap₂ ◌&&◌ (on_intervals l f p (record { i = t.i; j = t.m }) (omega arith)) (on_intervals r g q (record { i = t.m; j = t.j }) (omega arith)))

    chop_meets : (b : ℕ) → HasOn b (chops f g) → (v : Interval) → IntervalOf k v → a (b + place_of k v) ≡ value_of a (chop_gate k w v)
    unfolding value_of chops
    chop_meets b h v o =
        let cut : ℕ → Triple = λ m. record { i = v.i; m = m; j = v.j } in
        let n : suc v.j - v.i ≡ suc (v.j - v.i) = omega arith in
        on_intervals b (chops f g) h v o ∙ ap (any (λ m. cuts f g (cut m)) v.i) n
        ∙ sym (some_along a (λ m. cuts f g (cut m)) (w + triple_place_of k (cut v.i)) v.i (suc (v.j - v.i)) (λ e l.
        let q : w + triple_place_of k (cut v.i) + e ≡ w + triple_place_of k (cut (v.i + e)) =
        omega (arith, triples_in_a_row k v.i (v.i + e) v.j (omega arith) (omega arith) (omega arith)) in
        ap a q ∙ on_triples (cut (v.i + e)) (omega arith)))

-- ---- a node's truth stands where the gates of what it is a part of look

module _ (a : Assignment) (k : ℕ) (recording : List ℕ) where
  -- from b on stands the truth of x
  abbrev Truly : {s : Sort} → Tree s → ℕ → Type 0
  Truly {s} x b = Has a b (points_of s k) (λ e. truth recording x (point_at s k e))

  own_true : {s : Sort} (x : Tree s) (b : ℕ) → Spells a b (truth_values s k (truth recording x)) → Truly x b
  own_true {s} x b h = let f = truth recording x in spelled a b (points_of s k) (λ e. f (point_at s k e)) (truth_values s k f) (truth_length s k f) (truth_at s k f) h

  -- the parts' truth stands at their seats
  abbrev Parts : {s : Sort} → Tree s → Seats → Type 0
  Parts x S = OnParts (λ u. Truly u.part S.left) (λ u w. Truly w.part S.right) x 0

  pub part_true : {s : Sort} (x : Tree s) (b : ℕ) → Spells a b (node_values k recording (nodes_of x 0)) → Truly x (b + truth_of k x)
  part_true {s} x b h e m =
      let q : b + truth_of k x + e ≡ b + (truth_of k x + e) = omega arith in
      ap a q ∙ h (truth_of k x + e) (omega (arith, truth_lt k x e m, values_length k recording (nodes_of x 0)))
      ∙ ap (λ z. eqb z 1) (rw append-nil at (truth_stands k recording x 0 [] e m)) ∙ high_bit (truth recording x (point_at s k e))

  -- what the values of two lists of nodes spell, each spells
  two_spelled : (l m : List Node) (b : ℕ) → Spells a b (node_values k recording (l ++ m)) → Spells a b (node_values k recording l) × Spells a (b + blocks_of k l) (node_values k recording m)
  two_spelled l m b h = spells_append a b (blocks_of k l) (node_values k recording l) (node_values k recording m) (values_length k recording l) (rw (values_append k recording l m) at h)

  parts_true : {s : Sort} (x : Tree s) (b : ℕ) → Spells a b (node_values k recording (parts_of x)) → Parts x (seats_of k b x)
  parts_true (constant v) b h = tt
  parts_true (letter c) b h = tt
  parts_true (negation x) b h = part_true x b h
  parts_true (pair o x y) b h = let t = two_spelled (nodes_of x 0) (nodes_of y 0) b h in (part_true x b t.0, part_true y (b + blocks_of k (nodes_of x 0)) t.1)
  parts_true (duration x n) b h = part_true x b h
  parts_true (throughout x) b h = part_true x b h

-- ---- every definition

module _ (a : Assignment) (C k : ℕ) (recording : List ℕ) (channels : (t c : ℕ) → t < k → c < C → a (channel_of C t c) ≡ channel_at recording c t) where
  own_meets : {s : Sort} (x : Tree s) (b : ℕ) (S : Seats) → Letters C x → Spells a b (block_values k recording x) → Parts a k recording x S → All (Defined a) (own_by C k b S x)
  unfolding own_by block_values truth value_of
  own_meets {s} (constant v) b S L h p = all_rows _ (points_of s k) _ (λ e m. (own_true a k recording {s = s} (constant v) b h e m, tt))
  own_meets (letter c) b S L h p = all_rows _ k _ (λ t m. (own_true a k recording (letter c) b h t m ∙ sym (channels t c m L), tt))
  own_meets {s} (negation x) b S L h p = all_rows _ (points_of s k) _ (λ e m. (own_true a k recording (negation x) b h e m ∙ ap not (sym (p e m)), tt))
  own_meets {s} (pair and x y) b S L h p =
      all_rows _ (points_of s k) _ (λ e m. (own_true a k recording (pair and x y) b h e m ∙ sym (ap₂ ◌&&◌ (p.0 e m) (p.1 e m)), tt))
  own_meets {s} (pair or x y) b S L h p =
      all_rows _ (points_of s k) _ (λ e m. (own_true a k recording (pair or x y) b h e m ∙ sym (ap₂ ◌||◌ (p.0 e m) (p.1 e m)), tt))
  own_meets (pair chop x y) b S L h p =
      let f = truth recording x in
      let g = truth recording y in
      let w = b + count_of k in
      let t = spells_append a b (count_of k) (truth_values Formula k (chops f g)) (cut_values k f g) (truth_length Formula k (chops f g)) h in
      all_append (Defined a) (map _ (triples_of k)) (map _ (intervals_of k))
      (all_mapped (Defined a) (TripleOf k) _ (triples_of k) (triple_meets a k f g w t.1 S.left S.right p.0 p.1) (triples_in k))
      (all_mapped (Defined a) (IntervalOf k) _ (intervals_of k) (chop_meets a k f g w t.1 b (own_true a k recording (pair chop x y) b t.0)) (intervals_in k))
  own_meets (duration x n) b S L h p =
      let f = truth recording x in
      let level : (c : ℕ) → c < suc n → HasOn a k (b + c * count_of k) (lasts c f) = λ c m.
      own_true a k recording (duration x c) (b + c * count_of k)
      (spells_row a b (count_of k) (λ c. truth_values Formula k (lasts c f)) (λ c. truth_length Formula k (lasts c f)) (suc n) c m h) in
      all_rows _ (suc n) _ (λ c m. all_mapped (Defined a) (IntervalOf k) _ (intervals_of k) (level_meets a k b S.left f p (suc n) level c m) (intervals_in k))
  own_meets (throughout x) b S L h p =
      all_mapped (Defined a) (IntervalOf k) _ (intervals_of k) (throughout_meets a k b S.left (truth recording x) p (own_true a k recording (throughout x) b h)) (intervals_in k)

  -- a node's parts are among the nodes from it on, so its own definitions are met, and then those of the nodes after it
  pub nodes_meet : (l : List Node) (b : ℕ) → Each (LettersNode C) l → Spells a b (node_values k recording l) → All (Defined a) (defined_from C k b l)
  unfolding defined_from own_of node_values flat_map
  nodes_meet [] b r h = tt
  nodes_meet (w ∷ l) b r h =
      let x = w.part in
      let p = b + width_of k x in
      let own = nodes_of x w.first in
      let split = spells_append a b (width_of k x) (block_values k recording x) in
      let rest = (split (node_values k recording l) (block_length k recording x) h).1 in
      let all = (two_spelled a k recording own r.1.later b (subst (λ (l : List Node). Spells a b (node_values k recording l)) r.1.is h)).0 in
      let t = split (node_values k recording (parts_of x)) (block_length k recording x) (subst (Spells a b) (values_parts k recording x w.first) all) in
      all_append (Defined a) (own_of C k b x) (defined_from C k p l) (own_meets x b (seats_of k p x) r.0 t.0 (parts_true a k recording x p t.1)) (nodes_meet l p r.2 rest)
