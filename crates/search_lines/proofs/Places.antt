-- Where a node's own variable stands: a line's in its place, a duration's on the level and the interval that its place leaves when
-- the levels before are taken off. A chop's has a crate of its own.
use mathlib.Core.Path.{◌≡◌, refl, sym, ap, ◌∙◌, subst}
use mathlib.Core.Logic.{inl, inr, ⊎_elim, by_cases}
use native.Mathlib.Decide.{dec_lt}
use mathlib.Core.Bool.{Bool, false, cond}
use Prim.Native.Nat.{ℕ, suc, ◌+◌, ◌-◌, ◌*◌, ◌≤◌, ◌<◌}
use native.Mathlib.Nat.{mul-le-mul_right}
use native.Mathlib.Omega.{arith}
use Rattle.lists.specs.Listing.{sum}
use Rattle.interval.specs.Places.{count_of, triple_count_of, place_of}
use Rattle.interval.specs.declared.Interval.{Interval}
use Rattle.interval.proofs.Shape.{Inside, count, place}
use Rattle.table_blocks.specs.Blocks.{is_chop, form_of, number_of, shape_of, Placed, lines_of, cells_of}
use Rattle.table_blocks.specs.declared.Block.{Block}
use Rattle.table_blocks.specs.declared.Form.TheVariants.{Line, Intervals, Triples}
use Rattle.table_blocks.specs.declared.Rule.{Rule}
use Rattle.table_blocks.specs.declared.Rule.TheVariants.{Fixed, Letter, Negation, And, Or, Chop, Duration, Throughout, Cut}
use Rattle.table_blocks.proofs.Rules.{line_rule, level_rule, triples_rule, line_count}
use Rattle.table_sizes.specs.Weights.{variable_weight, weight_by}
use Rattle.table_sizes.proofs.Weights.{shape_weight}
use Rattle.search_decode.specs.Decode.{InPlace, CellOf}
use Rattle.search_decode.specs.declared.Cell.{Cell}
use Rattle.search_fanout.specs.Walks.{Apart}
use Rattle.search_fanout.specs.Fanout.{InBlock, Levels, Rising}
use Rattle.search_fanout.proofs.Fine.{level_place, level_count}
use Rattle.search_lines.specs.Lines.{rise_of}
use Rattle.search_lines.specs.declared.Rise.{Rise}

-- ---- a block of one line

module _ (points k x : ℕ) (h : x < points) where
  pub line_placed : (r : Rule) → form_of r ≡ Line → Placed points k r x 0 0 x
  unfolding sum
  line_placed r e = record {
    inside = (omega (arith, (line_rule k r e).0), (omega (arith, ap (lines_of k 0) e), omega (arith, h, ap (cells_of points k 0) e)));
    at = omega arith;
  }

-- ---- a duration or `[S]`

levels_of : (r : Rule) → form_of r ≡ Intervals → is_chop r ≡ false → Levels r ((rise_of r).from + (rise_of r).count - 1)
levels_of r e f = ⊎_elim (λ d. subst (λ (r : Rule). Levels r ((rise_of r).from + (rise_of r).count - 1)) (sym d.1) (let g : d.0 ≡ 1 + d.0 - 1 = omega arith in inl (ap Duration g)))
    (λ t. subst (λ (r : Rule). Levels r ((rise_of r).from + (rise_of r).count - 1)) (sym t) (inr (refl, refl))) (level_rule r e f)

rising_of : (r : Rule) → form_of r ≡ Intervals → is_chop r ≡ false → Rising r (rise_of r).from (rise_of r).count
rising_of r e f = ⊎_elim (λ d. subst (λ (r : Rule). Rising r (rise_of r).from (rise_of r).count) (sym d.1) (inl (refl, refl)))
    (λ t. subst (λ (r : Rule). Rising r (rise_of r).from (rise_of r).count) (sym t) (inr (refl, refl, refl))) (level_rule r e f)

pub some_intervals : (k : ℕ) → 0 < count_of k
unfolding count_of
some_intervals k = omega arith

-- place x, on level a and of what is left in place e
module _ (points k x a e : ℕ) (parted : a * count_of k + e ≡ x) (v : Interval) (o : InPlace k e v) where
  there : v.i + (v.j - v.i) ≡ v.j
  there = omega (arith, o.0.starts)

  placed_at : place_of k (record { i = v.i; j = v.i + (v.j - v.i) }) ≡ e
  placed_at = ap (λ (j : ℕ). place_of k (record { i = v.i; j = j })) there ∙ o.1

  level_inside : (n : ℕ) → x < suc n * count_of k → Inside (shape_of points k (Duration n)) (a, (v.i, v.j - v.i))
  level_inside n h = (
    by_cases (dec_lt a (suc n)) (λ l. l) (λ l. absurd (omega (arith, mul-le-mul_right {m = suc n} {n = a} (count_of k) (omega (arith, l)), parted))),
    (omega (arith, o.0.starts, o.0.ends), omega (arith, o.0.starts, o.0.ends)),
  )

  level_at : (n : ℕ) (h : x < suc n * count_of k) → x ≡ place (shape_of points k (Duration n)) (a, (v.i, v.j - v.i))
  level_at n h = omega (arith, level_place k points n (a) v.i (v.j - v.i) (level_inside n h), placed_at, parted)

  level_placed : {r : Rule} {n : ℕ} → Levels r n → x < count (shape_of points k r) → Placed points k r x (a) v.i (v.j - v.i)
  level_placed {r} {n} (inl q) h =
      let l : x < suc n * count_of k = omega (arith, subst (λ (r : Rule). x < count (shape_of points k r)) q h, level_count k points n) in
      subst (λ (r : Rule). Placed points k r x (a) v.i (v.j - v.i)) (sym q) (record { inside = level_inside n l; at = level_at n l })
  level_placed {r} (inr q) h =
      let f : x < count (shape_of points k (Duration 0)) = subst (λ (r : Rule). x < count (shape_of points k r)) q.0 h in
      let l : x < suc 0 * count_of k = omega (arith, f, level_count k points 0) in
      subst (λ (r : Rule). Placed points k r x (a) v.i (v.j - v.i)) (sym q.0) (record { inside = level_inside 0 l; at = level_at 0 l })

pub rise_small : (b : Block) → number_of b.rule ≤ 255 → (rise_of b.rule).from + (rise_of b.rule).count ≤ 256
rise_small b = go b.rule
  where
    go : (r : Rule) → number_of r ≤ 255 → (rise_of r).from + (rise_of r).count ≤ 256
    go (Fixed v) h = omega arith
    go (Letter c) h = omega arith
    go Negation h = omega arith
    go And h = omega arith
    go Or h = omega arith
    go Chop h = omega arith
    go (Duration n) h = omega arith
    go Throughout h = omega arith
    go Cut h = omega arith

pub rise_some : (r : Rule) → 1 ≤ (rise_of r).from + (rise_of r).count
rise_some (Fixed v) = omega arith
rise_some (Letter c) = omega arith
rise_some Negation = omega arith
rise_some And = omega arith
rise_some Or = omega arith
rise_some Chop = omega arith
rise_some (Duration n) = omega arith
rise_some Throughout = omega arith
rise_some Cut = omega arith

pub levels_known : (r : Rule) → form_of r ≡ Intervals → is_chop r ≡ false → {q : Rise} → q ≡ rise_of r → Levels r (q.from + q.count - 1)
levels_known r e f {q} g = subst (λ (q : Rise). Levels r (q.from + q.count - 1)) (sym g) (levels_of r e f)

pub rising_known : (r : Rule) → form_of r ≡ Intervals → is_chop r ≡ false → {q : Rise} → q ≡ rise_of r → Rising r q.from q.count
rising_known r e f {q} g = subst (λ (q : Rise). Rising r q.from q.count) (sym g) (rising_of r e f)

-- ---- how far a node's own variables go

module _ (k : ℕ) (b : Block) {u x : ℕ} (o : InBlock k b u) (e : u ≡ b.first + x) where
  pub own_below : is_chop b.rule ≡ false → x < count (shape_of b.points k b.rule)
  own_below f =
      omega (
        arith,
        subst (λ (c : Bool). u < b.first + cond c (weight_by variable_weight k b.points b.rule + weight_by variable_weight k b.points Cut)
            (weight_by variable_weight k b.points b.rule)) f o.1,
        shape_weight k b.points b.rule,
        e,
      )

  pub own_chop : b.rule ≡ Chop → x < count_of k + triple_count_of k
  unfolding weight_by
  own_chop f =
      omega (
        arith,
        subst (λ (r : Rule). u < b.first + cond (is_chop r) (weight_by variable_weight k b.points r + weight_by variable_weight k b.points Cut)
            (weight_by variable_weight k b.points r)) f o.1,
        e,
      )

-- a level's variable by the code's numbers
pub level_here : (k : ℕ) (b : Block) (x : ℕ) → form_of b.rule ≡ Intervals → is_chop b.rule ≡ false → {all : ℕ} → all ≡ count_of k →
    InBlock k b (b.first + x) → (c : Cell) → CellOf all x c → (v : Interval) → InPlace k c.cell v
    → Placed b.points k b.rule x c.line v.i (v.j - v.i)
level_here k b x e f {all} a o c w v i =
    level_placed b.points k x c.line c.cell (ap (λ (n : ℕ). c.line * n + c.cell) (sym a) ∙ w.at) v i (levels_of b.rule e f) (own_below k b o refl f)

-- ---- the rule, by what the code has asked

pub no_triples : {X : Type 0} (k : ℕ) (b : Block) (r : Rule) → form_of r ≡ Triples → Apart k b r → X
no_triples k b r e a = absurd (subst (Apart k b) (triples_rule r e) a)

pub line_below : (k : ℕ) (b : Block) {u x : ℕ} → InBlock k b u → u ≡ b.first + x → form_of b.rule ≡ Line → x < b.points
line_below k b o e f = omega (arith, own_below k b o e (line_rule k b.rule f).1, line_count b.points k b.rule f)
