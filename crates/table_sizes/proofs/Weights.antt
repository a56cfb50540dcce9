-- What the gates of a block weigh. A block's definitions stand in a shape, so their weight is a sum over the shape's entries; the gates
-- of a line or of triples weigh alike, a chop's each the number of its triples, those of intervals alike but on empty ones and on one step.
use mathlib.Core.Path.{◌≡◌, refl, sym, ap, ◌∙◌}
use mathlib.Core.List.{List, [], ◌∷◌, ◌++◌}
use Prim.Native.Nat.{ℕ, zero, suc, ◌+◌, ◌-◌, ◌*◌, ◌≤◌, ◌<◌}
use native.Mathlib.Nat.{zero-add, zero-mul, suc-mul, mul-suc, mul-one, mul-le-mul}
use native.Mathlib.Numerals.{add-one}
use mir.Syntax.{w32}
use mir.Val.{Fits}
use native.Mathlib.Omega.{arith}
use lib.Dec.{eqb-suc-zero}
use borrow.Author.Tests.{ne_eqb}
use lib.ListN.{length}
use Rattle.lists.specs.Listing.{rows, sum}
use Rattle.interval.specs.Places.{count_of, triple_count_of}
use Rattle.interval.specs.Limits.{max_steps, max_count}
use Rattle.lists.proofs.Listing.{sum_ones, sum_after, sum_linear, sum_times, measure_rows}
use Rattle.interval.proofs.Shape.{Shape, line, stack, Entry, count, place, per, intervals, triples, length_per}
use Rattle.interval.proofs.Counts.{intervals_count, triples_count, few_intervals, triple_count_le}
use Rattle.paper_circuit.specs.Circuit.{Definition, define}
use Rattle.paper_circuit.specs.declared.Gate.{Gate}
use Rattle.paper_circuit.specs.declared.Gate.TheVariants.{Constant, Copy, Inverse, Both, Either, AnyOf, Step}
use Rattle.table_blocks.specs.Blocks.{number_of, shape_of, gate_by, gate_of, defined_by}
use Rattle.table_blocks.specs.declared.Rule.{Rule}
use Rattle.table_blocks.specs.declared.Rule.TheVariants.{Fixed, Letter, Negation, And, Or, Chop, Duration, Throughout, Cut}
use Rattle.table_blocks.specs.declared.Block.{Block}
use Rattle.table_sizes.specs.Weights.{weight_of, weight_all, variable_weight, longer_by, weight_by, max_weight, Light}
use Rattle.table_sizes.specs.declared.Weight.{Weight}

-- ---- sums over a shape

abbrev total : (s : Shape) → (Entry s → ℕ) → ℕ
total (line n) u = sum u n
total (stack n f) u = sum (λ i. total (f i) (λ x. u (i, x))) n

-- of c at each entry
total_count : (s : Shape) (c : ℕ) (u : Entry s → ℕ) → ((x : Entry s) → u x ≡ c) → total s u ≡ count s * c
total_count (line n) c u h = sum_times u (λ i. 1) c n (λ i l. omega (arith, h i)) ∙ ap (λ m. m * c) (sum_ones n)
total_count (stack n f) c u h = sum_times _ (λ i. count (f i)) c n (λ i l. total_count (f i) c (λ x. u (i, x)) (λ x. h (i, x)))

all_alike : (s : Shape) (n c : ℕ) → count s ≡ n → (u : Entry s → ℕ) → ((x : Entry s) → u x ≡ c) → total s u ≡ n * c
all_alike s n c e u h = total_count s c u h ∙ ap (λ m. m * c) e

abbrev one_line : ℕ → Shape
one_line n = stack 1 (λ a. stack 1 (λ i. line n))

in_line : (n c : ℕ) (u : Entry (one_line n) → ℕ) → ((x : Entry (one_line n)) → u x ≡ c) → total (one_line n) u ≡ n * c
unfolding sum
in_line n c u h = all_alike (one_line n) n c (omega arith) u h

-- ---- sums over intervals, by start and length

-- from each i one is empty; from each but k one is of one step, and k − 1 − i are longer
pub longer_count : (k : ℕ) → count_of k ≡ suc k + k + sum (λ i. k - 1 - i) k
unfolding sum
longer_count k =
    omega (arith, sum_linear (λ i. suc k - i) (λ i. 1) (λ i. k - 1 - i) 2 1 k (λ i l. omega arith), sum_ones k, intervals_count k)

-- 1 on the empty ones, alike on those of one step and on the others
after_two : (u : ℕ → ℕ) {c : ℕ} → ((i : ℕ) → u (suc (suc i)) ≡ c) → (n : ℕ) → sum u (suc (suc n)) ≡ u 0 + u 1 + n * c
unfolding sum
after_two u {c} h zero = omega (arith, zero-mul c)
after_two u {c} h (suc n) = omega (arith, after_two u h n, h n, suc-mul n c)

longer : (k c e : ℕ) (u : Entry (intervals k) → ℕ) → ((i : ℕ) → u (i, 0) ≡ 1) → ((i : ℕ) → u (i, 1) ≡ c) → ((i d : ℕ) → u (i, suc (suc d)) ≡ e)
    → total (intervals k) u ≡ longer_by k c e
unfolding sum
longer k c e u o p h =
    let m : sum (λ i. k - 1 - i) k ≡ count_of k - suc k - k = omega (arith, longer_count k) in
    let n : suc k - k ≡ 1 = omega arith in
    let last : sum (λ d. u (k, d)) (suc k - k) ≡ 1 = ap (sum (λ d. u (k, d))) n ∙ omega (arith, o k) in
    omega (arith, last, sum_linear _ (λ i. 1) (λ i. k - 1 - i) (suc c) e k from, ap (λ n. n * suc c) (sum_ones k), mul-suc k c, ap (λ m. m * e) m)
  where
    from : (i : ℕ) → i < k → sum (λ d. u (i, d)) (suc k - i) ≡ 1 * suc c + (k - 1 - i) * e
    from i l =
        let f : suc k - i ≡ suc (suc (k - 1 - i)) = omega arith in
        ap (sum (λ d. u (i, d))) f ∙ omega (arith, after_two (λ d. u (i, d)) (h i) (k - 1 - i), o i, p i)

-- 1 on all: how many there are
pub longer_ones : (k : ℕ) → longer_by k 1 1 ≡ count_of k
longer_ones k = omega (arith, longer_count k)

-- c for each way to chop, and 1
chopped : (k c : ℕ) → total (intervals k) (λ x. suc x.1 * c + 1) ≡ count_of k + triple_count_of k * c
chopped k c =
    let e = sum_linear _ (λ i. suc k - i) (λ i. sum suc (suc k - i)) 1 c (suc k) (λ i l. from (suc k - i)) in
    omega (arith, e, intervals_count k, ap (λ m. m * c) (triples_count k))
  where
    from : (n : ℕ) → sum (λ d. suc d * c + 1) n ≡ n * 1 + sum suc n * c
    from n = omega (arith, sum_linear (λ d. suc d * c + 1) (λ d. 1) suc 1 c n (λ d l. omega arith), sum_ones n)

-- ---- what a block weighs

module _ (C k : ℕ) (block : Block) where
  abbrev gate_at : (r : Rule) → Entry (shape_of block.points k r) → Gate
  gate_at r x = gate_by C k block.first block.left block.right (place (shape_of block.points k r) x) x.0 x.1.0 x.1.1 r

  abbrev definition_at : Entry (shape_of block.points k block.rule) → Definition
  definition_at x = define (block.first + place (shape_of block.points k block.rule) x) (gate_at block.rule x)

module _ (w : Weight) where
  pub weight_append : (a b : List Definition) → weight_all w (a ++ b) ≡ weight_all w a + weight_all w b
  unfolding weight_all
  weight_append [] b = omega arith
  weight_append (d ∷ a) b = omega (arith, weight_append a b)

  weight_rows : (f : ℕ → List Definition) (u : ℕ → ℕ) → ((i : ℕ) → weight_all w (f i) ≡ u i) → (n : ℕ) → weight_all w (rows n f) ≡ sum u n
  unfolding weight_all
  weight_rows = measure_rows (weight_all w) refl weight_append

  weight_per : (s : Shape) (g : Entry s → Definition) → weight_all w (per s g) ≡ total s (λ x. weight_of w (g x).gate)
  unfolding weight_all
  weight_per (line n) g = weight_rows (λ i. g i ∷ []) _ (λ i. omega arith) n
  weight_per (stack n f) g = weight_rows (λ i. per (f i) (λ x. g (i, x))) _ (λ i. weight_per (f i) (λ x. g (i, x))) n

  module _ (C k : ℕ) (block : Block) where
    abbrev weight_at : (r : Rule) → Entry (shape_of block.points k r) → ℕ
    weight_at r x = weight_of w (gate_at C k block r x)

    rule_weight : (r : Rule) → total (shape_of block.points k r) (weight_at r) ≡ weight_by w k block.points r
    unfolding sum weight_of weight_by
    rule_weight (Fixed v) = in_line block.points 1 _ (λ x. refl) ∙ mul-one block.points
    rule_weight (Letter c) = in_line block.points w.copy _ (λ x. refl)
    rule_weight Negation = in_line block.points w.copy _ (λ x. refl)
    rule_weight And = in_line block.points (2 * w.each + 1) _ (λ x. refl)
    rule_weight Or = in_line block.points (2 * w.each + 1) _ (λ x. refl)
    rule_weight Chop = zero-add _ ∙ chopped k w.each
    rule_weight (Duration n) =
        sum_after (λ a. total (intervals k) (λ x. weight_at (Duration n) (a, x))) (longer_by k w.step w.step) n
        (λ a. longer k w.step w.step (λ x. weight_at (Duration n) (suc a, x)) (λ i. simp eqb-suc-zero) (λ i. simp eqb-suc-zero) (λ i d. simp eqb-suc-zero))
        ∙ ap (λ m. m + n * longer_by k w.step w.step) (all_alike (intervals k) (count_of k) 1 (intervals_count k) _ (λ x. refl) ∙ mul-one (count_of k))
    rule_weight Throughout =
        zero-add _ ∙ longer k w.copy (2 * w.each + 1) (λ x. weight_at Throughout (0, x)) (λ i. refl) (λ i. refl) (λ i d. simp (eqb-suc-zero, ne_eqb (suc (suc d)) 1 (λ e. omega arith)))
    rule_weight Cut = all_alike (triples k) (triple_count_of k) (2 * w.each + 1) (triples_count k) _ (λ x. refl)

    -- the definitions of a block weigh what its rule says
    pub block_weight : weight_all w (defined_by C k block) ≡ weight_by w k block.points block.rule
    unfolding defined_by gate_of
    block_weight = weight_per (shape_of block.points k block.rule) (definition_at C k block) ∙ rule_weight block.rule

-- ---- how many variables a block defines, which is what it weighs if each gate weighs 1

pub block_length : (C k : ℕ) (block : Block) → length (defined_by C k block) ≡ count (shape_of block.points k block.rule)
unfolding defined_by gate_of
block_length C k block = length_per (shape_of block.points k block.rule) (definition_at C k block)

pub variables_weight : (D : List Definition) → weight_all variable_weight D ≡ length D
unfolding weight_of weight_all
variables_weight [] = refl
variables_weight (d ∷ D) = omega (arith, one d.gate, variables_weight D)
  where
    one : (g : Gate) → weight_of variable_weight g ≡ 1
    one (Constant v) = refl
    one (Copy u) = refl
    one (Inverse x) = refl
    one (Both x y) = refl
    one (Either x y) = refl
    one (AnyOf x n) = omega arith
    one (Step p q s) = refl

pub shape_weight : (k points : ℕ) (r : Rule) → weight_by variable_weight k points r ≡ count (shape_of points k r)
shape_weight k points r =
    let block : Block = record { rule = r; points = points; first = 0; left = 0; right = 0 } in
    sym (block_weight variable_weight 0 k block) ∙ variables_weight (defined_by 0 k block) ∙ block_length 0 k block

-- ---- limits: what a block weighs at the most steps, and each product on the way to it

pub suc_le_count : (k : ℕ) → suc k ≤ count_of k
suc_le_count k = omega (arith, longer_count k)

pub points_le : (points c : ℕ) → points ≤ max_count → c ≤ 11 → points * c ≤ max_count * 11
points_le points c h g = mul-le-mul {n₂ = max_count} {m₂ = 11} h g

module _ (k : ℕ) (h : k ≤ max_steps) where
  pub longer_le : (c e : ℕ) → c ≤ 11 → e ≤ 11 → longer_by k c e ≤ max_count * 12
  longer_le c e f g =
      omega (arith, mul-le-mul {n₁ = k} {n₂ = k} {m₂ = 11} (omega arith) f, mul-le-mul {n₁ = count_of k - suc k - k} {n₂ = count_of k - suc k - k} {m₂ = 11} (omega arith) g, longer_count k, few_intervals k h)

  pub levels_le : (c n : ℕ) → c ≤ 11 → n ≤ 255 → count_of k + n * longer_by k c c ≤ max_weight
  levels_le c n g l = omega (arith, few_intervals k h, mul-le-mul {n₁ = n} {n₂ = 255} {m₂ = max_count * 12} l (longer_le c c g g))

  pub triples_le : (c : ℕ) → c ≤ 11 → count_of k + triple_count_of k * c ≤ max_weight
  unfolding triple_count_of
  triples_le c g = omega (arith, few_intervals k h, mul-le-mul {m₂ = 11} (triple_count_le max_steps k h) g)

-- a duration's n is its rule's number
pub level_le : {r : Rule} {n : ℕ} → number_of r ≤ 255 → r ≡ Duration n → n ≤ 255
level_le h e = omega (arith, h, ap number_of e)

module _ {w : Weight} {k points : ℕ} {r : Rule} (l : Light w k points r) where
  weight_le : (s : Rule) → r ≡ s → weight_by w k points s ≤ max_weight
  unfolding weight_by
  weight_le (Fixed v) e = omega (arith, l.points)
  weight_le (Letter c) e = omega (arith, points_le points w.copy l.points (omega (arith, l.small.copy)))
  weight_le Negation e = omega (arith, points_le points w.copy l.points (omega (arith, l.small.copy)))
  weight_le And e = omega (arith, points_le points (2 * w.each + 1) l.points (omega (arith, l.small.each)))
  weight_le Or e = omega (arith, points_le points (2 * w.each + 1) l.points (omega (arith, l.small.each)))
  weight_le Chop e = triples_le k l.small.steps w.each (omega (arith, l.small.each))
  weight_le (Duration n) e = levels_le k l.small.steps w.step n l.small.step (level_le l.number e)
  weight_le Throughout e = omega (arith, longer_le k l.small.steps w.copy (2 * w.each + 1) (omega (arith, l.small.copy)) (omega (arith, l.small.each)))
  weight_le Cut e = omega (arith, triples_le k l.small.steps (2 * w.each + 1) (omega (arith, l.small.each)))

  -- a block's weight, its rule being known
  pub weighed : (s : Rule) {v : ℕ} → r ≡ s → v ≡ weight_by w k points s → (v ≡ weight_by w k points r) × (v ≤ max_weight)
  weighed s e f = (f ∙ ap (weight_by w k points) (sym e), omega (arith, f, weight_le s e))

-- as the code adds it up
pub longer_sum : (a k c e : ℕ) → k ≤ max_steps → c ≤ 11 → e ≤ 11 → a ≡ count_of k →
    (let s = k + 1 + k * c + (a - (k + 1) - k) * e in (s ≡ longer_by k c e) × (s ≤ max_count * 12))
longer_sum a k c e h f g q = rw (q, add-one) (refl, longer_le k h c e f g)

pub product_fits : (a b : ℕ) → a ≤ 65535 → b ≤ 65535 → Fits w32 (a * b)
product_fits a b h g = omega (arith, mul-le-mul {n₂ = 65535} {m₂ = 65535} h g)

pub sum_fits : (a b c : ℕ) → a ≤ 65535 → b ≤ 65535 → c ≤ 65535 → Fits w32 (a + b * c)
sum_fits a b c i h g = omega (arith, mul-le-mul {n₂ = 65535} {m₂ = 65535} h g)
