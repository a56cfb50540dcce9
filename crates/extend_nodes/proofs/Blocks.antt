-- A block's values, by its rule from the truths of the node's parts by their places, are those of the node:
-- each rule is the meaning of its kind of node, and asks its parts' truth at their own points alone.
use mathlib.Core.Path.{◌≡◌, refl, sym, ap, ap₂, ◌∙◌}
use mathlib.Core.Bool.{Bool, not, ◌&&◌, ◌||◌}
use mathlib.Core.List.{List, [], ◌∷◌, ◌++◌, map}
use Prim.Native.Nat.{ℕ, suc, ◌+◌, ◌-◌, ◌%◌, ◌≤◌, ◌<◌, max}
use native.Mathlib.Nat.{mod-eq_of_lt}
use native.Mathlib.Omega.{arith}
use lib.Dec.{leb}
use lib.ListN.{length}
use lib.Seq.{sets}
use borrow.Rule.Slice.PartMut.{put_mid}
use Rattle.lists.specs.Listing.{tab, All}
use Rattle.interval.specs.Places.{count_of, place_of, intervals_of, triples_of}
use Rattle.interval.specs.Limits.{max_steps, max_count, IntervalOf, TripleOf}
use Rattle.interval.specs.declared.Interval.{Interval}
use Rattle.interval.specs.declared.Triple.{Triple}
use Rattle.lists.proofs.Listing.{rows_same}
use Rattle.interval.proofs.Counts.{few_intervals}
use Rattle.interval.proofs.Laws.{intervals_numbered}
use Rattle.paper_grammar.specs.Limits.{max_channels}
use Rattle.paper_grammar.specs.Trees.{and, or, chop, Tree, constant, letter, negation, pair, duration, throughout, Letters}
use Rattle.paper_grammar.specs.declared.Sort.{Sort}
use Rattle.paper_grammar.specs.declared.Sort.TheVariants.{State, Formula}
use Rattle.paper_grammar.specs.Nodes.{Node}
use Rattle.paper_grammar.proofs.EachNode.{OnParts}
use Rattle.paper_meaning.specs.Meaning.{bit, Point, truth, lasts, fills, chops, channel_at}
use Rattle.paper_meaning.proofs.Laws.{highs_agree, throughout_lasts}
use Rattle.paper_circuit.specs.Circuit.{points_of, width_of}
use Rattle.paper_circuit.proofs.Inputs.{intervals_in, triples_in}
use Rattle.table_blocks.specs.Blocks.{rule_of}
use Rattle.table_blocks.specs.declared.Block.{Block}
use Rattle.table_blocks.specs.declared.Rule.{Rule}
use Rattle.table_blocks.specs.declared.Rule.TheVariants.{Fixed, Letter, Negation, And, Or, Chop, Duration, Throughout, Cut}
use Rattle.paper_assignments.specs.Extension.{truth_values, cuts, cut_values, block_values}
use Rattle.paper_assignments.proofs.Values.{point_at, truth_tab}
use Rattle.paper_assignments.proofs.Longer.{some_along}
use Rattle.extend_triples.specs.Cuts.{on_places}
use Rattle.extend_blocks.specs.Values.{values_by, Fits}
use Rattle.truth_table.specs.Table.{high_at}
use Rattle.extend_nodes.specs.Parts.{part_points, Makes}
use Rattle.lists.proofs.Stored.{part_stored}

-- ---- the same at every point, the same values

map_agree : {A : Type 0} (In : A → Type 0) (f g : A → ℕ) (l : List A) → All In l → ((a : A) → In a → f a ≡ g a) → map f l ≡ map g l
map_agree In f g [] a h = refl
map_agree In f g (x ∷ l) a h = ap₂ (λ (y : ℕ) (m : List ℕ). y ∷ m) (h x a.0) (map_agree In f g l a.1 h)

module _ (k : ℕ) where
  tab_truth : (s : Sort) (g : Point s → Bool) (f : ℕ → Bool) → ((e : ℕ) → e < points_of s k → f e ≡ g (point_at s k e)) → tab (points_of s k) (λ e. bit (f e)) ≡ truth_values s k g
  tab_truth s g f h = truth_tab s k g (λ e. bit (f e)) (λ e l. ap bit (h e l))

  truths_agree : (f g : Interval → Bool) → ((v : Interval) → IntervalOf k v → f v ≡ g v) → truth_values Formula k f ≡ truth_values Formula k g
  truths_agree f g h = map_agree (IntervalOf k) (λ v. bit (f v)) (λ v. bit (g v)) (intervals_of k) (intervals_in k) (λ v o. ap bit (h v o))

  -- by place, at the place of an interval
  at_interval : (f : ℕ → Bool) (g : Interval → Bool) → ((e : ℕ) → e < count_of k → f e ≡ g (point_at Formula k e)) → (v : Interval) → IntervalOf k v → on_places k f v ≡ g v
  at_interval f g h v o = h (place_of k v) ((intervals_numbered k).below v o) ∙ ap g ((intervals_numbered k).at_place v _ o)

  module _ (f g : ℕ → Bool) (h : (t : ℕ) → t < k → f t ≡ g t) where
    lasts_agree : (c : ℕ) (v : Interval) → IntervalOf k v → lasts c f v ≡ lasts c g v
    unfolding lasts
    lasts_agree c v o = ap (leb c) (highs_agree f g v.i (v.j - v.i) (λ t l m. h t (omega (arith, o.ends))))

    fills_agree : (v : Interval) → IntervalOf k v → fills f v ≡ fills g v
    fills_agree v o = throughout_lasts f v ∙ lasts_agree (max 1 (v.j - v.i)) v o ∙ sym (throughout_lasts g v)

  module _ (f f' g g' : Interval → Bool) (h : (v : Interval) → IntervalOf k v → f v ≡ f' v) (l : (v : Interval) → IntervalOf k v → g v ≡ g' v) where
    cuts_agree : (t : Triple) → TripleOf k t → cuts f g t ≡ cuts f' g' t
    cuts_agree t o = ap₂ (λ (x y : Bool). x && y) (h _ (record { starts = o.starts; ends = omega arith })) (l _ (record { starts = o.cut; ends = o.ends }))

    chops_agree : (v : Interval) → IntervalOf k v → chops f g v ≡ chops f' g' v
    unfolding chops
    chops_agree v o =
        some_along _ _ v.i v.i _ (λ e l. cuts_agree (record { i = v.i; m = v.i + e; j = v.j }) (record { starts = omega arith; cut = omega (arith, o.starts); ends = o.ends }))

    cut_values_agree : cut_values k f g ≡ cut_values k f' g'
    cut_values_agree = map_agree (TripleOf k) (λ t. bit (cuts f g t)) (λ t. bit (cuts f' g' t)) (triples_of k) (triples_in k) (λ t o. ap bit (cuts_agree t o))

-- ---- a node

-- f is a node's truth, at its points
abbrev pub TruthIs : ℕ → List ℕ → (ℕ → Bool) → Node → Type 0
TruthIs k recording f w = (e : ℕ) → e < points_of w.sort k → f e ≡ truth recording w.part (point_at w.sort k e)

-- f and g are the truth of the parts
abbrev pub PartsAre : {s : Sort} → ℕ → List ℕ → (ℕ → Bool) → (ℕ → Bool) → Tree s → Type 0
PartsAre k recording f g x = OnParts (TruthIs k recording f) (λ u. TruthIs k recording g) x 0

pub block_values_lem : (k : ℕ) (recording : List ℕ) (f g : ℕ → Bool) {s : Sort} (x : Tree s) → Letters max_channels x → PartsAre k recording f g x
    → values_by k recording (width_of k x) f g (rule_of x) ≡ block_values k recording x
unfolding values_by block_values width_of truth
block_values_lem k recording f g {s} (constant v) L p = tab_truth k s (truth {s = s} recording (constant v)) (λ e. v) (λ e h. refl)
block_values_lem k recording f g (letter c) L p =
    tab_truth k State (truth recording (letter c)) (channel_at recording (c % max_channels)) (λ e h. ap (λ (c : ℕ). channel_at recording c e) (mod-eq_of_lt L))
block_values_lem k recording f g {s} (negation x) L p = tab_truth k s (truth recording (negation x)) (λ e. not (f e)) (λ e h. ap not (p e h))
block_values_lem k recording f g {s} (pair and x y) L p = tab_truth k s (truth recording (pair and x y)) (λ e. f e && g e) (λ e h. ap₂ (λ (a b : Bool). a && b) (p.0 e h) (p.1 e h))
block_values_lem k recording f g {s} (pair or x y) L p = tab_truth k s (truth recording (pair or x y)) (λ e. f e || g e) (λ e h. ap₂ (λ (a b : Bool). a || b) (p.0 e h) (p.1 e h))
block_values_lem k recording f g (pair chop x y) L p =
    let a = at_interval k f (truth recording x) p.0 in
    let b = at_interval k g (truth recording y) p.1 in
    ap₂ (λ (l m : List ℕ). l ++ m) (truths_agree k _ _ (chops_agree k _ _ _ _ a b)) (cut_values_agree k _ _ _ _ a b)
block_values_lem k recording f g (duration x n) L p = rows_same (suc n) _ _ (λ c _. truths_agree k _ _ (lasts_agree k f (truth recording x) p c))
block_values_lem k recording f g (throughout x) L p = truths_agree k _ _ (fills_agree k f (truth recording x) p)

-- ---- a block handed on to be written

-- no block goes by more of a part's truth than a table holds
module _ (k n : ℕ) (h : k ≤ max_steps) where
  pub few_points : (r : Rule) → Fits k n r → part_points k n r ≤ max_count
  few_points (Fixed v) f = omega arith
  few_points (Letter c) f = omega arith
  few_points Negation f = f
  few_points And f = f
  few_points Or f = f
  few_points Chop f = few_intervals k h
  few_points (Duration m) f = omega arith
  few_points Throughout f = omega arith
  few_points Cut f = omega arith

-- the part of the assignment that a node's block is, once it is back
module _ (k n : ℕ) (A recording : List ℕ) (b : Block) (p q : List ℕ) {i : ℕ} (f : i ≡ part_points k n b.rule)
    (P : (e : ℕ) → e < i → high_at p e ≡ high_at A (b.left - 1 + e)) (Q : (e : ℕ) → e < i → high_at q e ≡ high_at A (b.right - 1 + e)) where
  pub block_put : {m : ℕ} {out : List ℕ} → m ≡ n → length out ≡ m → b.first - 1 + n ≤ length A → out ≡ values_by k recording m (high_at p) (high_at q) b.rule
      → (B : List ℕ) → Makes k recording A b n B → put_mid (b.first - 1) n A out ≡ sets A (b.first - 1) B
  block_put {m} {out} e l h o B v =
      part_stored (b.first - 1) n A out (l ∙ e) h
      ∙ ap (sets A (b.first - 1))
      (o ∙ ap (λ (m : ℕ). values_by k recording m (high_at p) (high_at q) b.rule) e
      ∙ v (high_at p) (high_at q) (λ e h. P e (omega (arith, f))) (λ e h. Q e (omega (arith, f))))
