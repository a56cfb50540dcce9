-- A position inside a block is an interval or a triple of k steps, its place is at least its cell, and one level of a duration takes I
-- places; the next position inside has the next place, since no line between is empty. The triples of intervals stand as the intervals do.
use mathlib.Core.Path.{◌≡◌, refl, sym, ap, subst}
use mathlib.Core.Logic.{⊎_elim}
use mathlib.Core.Bool.{Bool, true, false, cond}
use Prim.Native.Nat.{ℕ, zero, suc, ◌+◌, ◌-◌, ◌*◌, ◌/◌, ◌%◌, ◌^◌, ◌≤◌, ◌<◌}
use native.Mathlib.Nat.{suc-mul, mul-le-mul, eq-or-lt_of_le}
use native.Mathlib.Omega.{arith}
use lib.ListN.{get_or, get_or-eq_default}
use lib.Dec.{ltb}
use borrow.Author.Tests.{lt-ltb, le-ltb, ltb-true, ltb-false}
use Rattle.lists.specs.Listing.{sum}
use Rattle.table_blocks.proofs.Rules.{line_count}
use Rattle.interval.specs.Places.{count_of, triple_count_of, triple_place_of}
use Rattle.interval.specs.Limits.{max_steps, max_count, TripleOf}
use Rattle.interval.specs.declared.Triple.{Triple}
use Rattle.lists.proofs.Listing.{sum_next}
use Rattle.interval.proofs.Counts.{intervals_count, triple_count_le}
use Rattle.interval.proofs.Shape.{Inside, count}
use Rattle.interval.proofs.Laws.{triple_place, triples_numbered}
use Rattle.lists.proofs.Lists.{all_or}
use Rattle.table_blocks.specs.Blocks.{rules_for, rule_by, form_of, rows_of, lines_of, cells_of, next_of, number_of, shape_of, Placed, Before, bound, gate_by, gate_of}
use Rattle.table_blocks.specs.declared.Block.{Block}
use Rattle.table_blocks.specs.declared.Form.{Form}
use Rattle.table_blocks.specs.declared.Form.TheVariants.{Line, Intervals, Triples}
use Rattle.table_blocks.specs.declared.Position.{Position}
use Rattle.table_blocks.specs.declared.Rule.{Rule}
use Rattle.table_blocks.specs.declared.Rule.TheVariants.{Fixed, Letter, Negation, And, Or, Chop, Duration, Throughout, Cut}

-- ---- a kind's rule, by the number that the code has found

pub rule_at : (kind n : ℕ) {j : ℕ} → kind % 16 ≡ j → get_or (rules_for n) j Throughout ≡ rule_by kind n
unfolding rule_by
rule_at kind n e = ap (λ (j : ℕ). get_or (rules_for n) j Throughout) (sym e)

pub rule_beyond : (kind n : ℕ) → 8 ≤ kind % 16 → Throughout ≡ rule_by kind n
unfolding rule_by
rule_beyond kind n h = sym (get_or-eq_default (rules_for n) Throughout h)

-- a rule's number is the row's, or none
pub rule_number : (kind n : ℕ) → n ≤ 255 → number_of (rule_by kind n) ≤ 255
unfolding rule_by
rule_number kind n h = all_or (λ (r : Rule). number_of r ≤ 255) (rules_for n) Throughout z (kind % 16) (z, (z, (z, (z, (z, (z, (h, (h, tt))))))))
  where
    z : 0 ≤ 255
    z = omega arith

-- ---- the tests of the code choose what the definition does

module _ (points k : ℕ) (r : Rule) (p : Position) {f : Form} (e : f ≡ form_of r) where
  pub next_cell : p.cell + 1 < cells_of points k p.line f → record { row = p.row; line = p.line; cell = p.cell + 1; before = p.before + (p.cell + 1) } ≡ next_of points k r p
  unfolding next_of
  next_cell h = simp (sym e, lt-ltb _ _ h)

  module _ (h : cells_of points k p.line f ≤ p.cell + 1) where
    pub next_line : p.line + 1 < lines_of k p.row f → record { row = p.row; line = p.line + 1; cell = 0; before = p.before + (p.cell + 1) } ≡ next_of points k r p
    unfolding next_of
    next_line l = simp (sym e, le-ltb _ _ h, lt-ltb _ _ l)

    pub next_row : lines_of k p.row f ≤ p.line + 1 → record { row = p.row + 1; line = 0; cell = 0; before = 0 } ≡ next_of points k r p
    unfolding next_of
    next_row l = simp (sym e, le-ltb _ _ h, le-ltb _ _ l)

-- ---- what a position inside says, by rule

levels_before : (k a : ℕ) → 1 ≤ a → count_of k ≤ sum (λ _. sum (λ i. suc k - i) (suc k)) a
unfolding sum
levels_before k zero f = absurd (omega arith)
levels_before k (suc a) f = omega (arith, intervals_count k)

module _ {points k x a i d : ℕ} {r : Rule} (p : Placed points k r x a i d) where
  pub by_rule : {q : Rule} → r ≡ q → Placed points k q x a i d
  by_rule e = subst (λ (q : Rule). Placed points k q x a i d) e p

  pub chop_position : r ≡ Chop → i + d ≤ k
  chop_position e = let q = by_rule e in omega (arith, q.inside.1)

  pub throughout_position : r ≡ Throughout → (i + d ≤ k) × (d ≤ x)
  throughout_position e = let q = by_rule e in omega (arith, q.inside.1, q.at)

  pub level_position : {n : ℕ} → r ≡ Duration n → (i + d ≤ k) × (1 ≤ a → 1 ≤ d → 1 + count_of k ≤ x)
  level_position {n} e = let q = by_rule e in (omega (arith, q.inside.1), λ f g. omega (arith, q.at, levels_before k a f))

  pub triple_position : r ≡ Cut → (d ≤ i) × (a + i ≤ k)
  triple_position e = let q = by_rule e in omega (arith, q.inside.1)

-- before the triples of a chop's interval stand those of the intervals before it
pub chop_before : {points k x : ℕ} {r : Rule} (p : Position) → Placed points k r x p.row p.line p.cell → Before points k r p → r ≡ Chop → k ≤ max_steps
    → (p.before ≡ triple_place_of k (record { i = p.line; m = p.line; j = p.line + p.cell })) × (p.before ≤ (max_steps + 1) * (max_steps + 2) * (max_steps + 3) / 6)
unfolding triple_count_of
chop_before {points} {k} p q b e h =
    let n : p.line + p.cell - p.line ≡ p.cell = omega arith in
    let first : Triple = record { i = p.line; m = p.line; j = p.line + p.cell } in
    let o : TripleOf k first = omega (arith, chop_position q e) in
    let t : p.before ≡ triple_place_of k first = omega (arith, triple_place k first o, subst (λ (r : Rule). Before points k r p) e b, ap (sum suc) n) in
    (t, omega (arith, t, (triples_numbered k).below first o, triple_count_le max_steps k h))

-- a block's gate, its rule being known
pub gate_by_lem : (C k : ℕ) (b : Block) (x a i d : ℕ) {q : Rule} → b.rule ≡ q → gate_by C k b.first b.left b.right x a i d q ≡ gate_of C k b x a i d
unfolding gate_of
gate_by_lem C k b x a i d e = ap (gate_by C k b.first b.left b.right x a i d) (sym e)

-- 1 + t·C + c is a number of 32 bits, of a letter's c too
pub channel_fits : (t C : ℕ) → t < 2 ^ 24 → C ≤ 32 → t * C ≤ 2 ^ 24 * 32
channel_fits t C h l = mul-le-mul {n₁ = t} {m₁ = C} {n₂ = 2 ^ 24} {m₂ = 32} (omega arith) l

pub letter_fits : {r : Rule} {c : ℕ} → r ≡ Letter c → number_of r ≤ 255 → c ≤ 255
letter_fits e n = subst (λ (r : Rule). number_of r ≤ 255) e n

-- ---- the first position, and the next

-- a row inside has a line, and a line inside has a cell
line_some : (k a : ℕ) (r : Rule) → a < rows_of k r → 0 < lines_of k a (form_of r)
line_some k a (Fixed v) h = omega arith
line_some k a (Letter c) h = omega arith
line_some k a Negation h = omega arith
line_some k a And h = omega arith
line_some k a Or h = omega arith
line_some k a Chop h = omega arith
line_some k a (Duration n) h = omega arith
line_some k a Throughout h = omega arith
line_some k a Cut h = omega arith

cell_some : (points k a i : ℕ) (f : Form) → (f ≡ Line → 0 < points) → i < lines_of k a f → 0 < cells_of points k i f
cell_some points k a i Line p h = p refl
cell_some points k a i Intervals p h = omega arith
cell_some points k a i Triples p h = omega arith

row_some : (k : ℕ) (r : Rule) → 0 < rows_of k r
row_some k (Fixed v) = omega arith
row_some k (Letter c) = omega arith
row_some k Negation = omega arith
row_some k And = omega arith
row_some k Or = omega arith
row_some k Chop = omega arith
row_some k (Duration n) = omega arith
row_some k Throughout = omega arith
row_some k Cut = omega arith

module _ (points k : ℕ) (r : Rule) where
  pub first_placed : 0 < count (shape_of points k r) → Placed points k r 0 0 0 0
  unfolding sum
  first_placed h =
      let l = line_some k 0 r (row_some k r) in
      record { inside = (row_some k r, (l, cell_some points k 0 0 (form_of r) (λ e. omega (arith, h, line_count points k r e)) l)); at = omega arith }

  abbrev PlacedAt : ℕ → Position → Type 0
  PlacedAt x p = Placed points k r x p.row p.line p.cell

  pub next_placed : (x : ℕ) (p : Position) → PlacedAt x p → x + 1 < count (shape_of points k r) → PlacedAt (x + 1) (next_of points k r p)
  unfolding next_of sum
  next_placed x p q h = go (ltb (p.cell + 1) (cells_of points k p.line (form_of r))) refl (ltb (p.line + 1) (lines_of k p.row (form_of r))) refl
    where
      lines : ℕ
      lines = lines_of k p.row (form_of r)

      cells : ℕ → ℕ
      cells i = cells_of points k i (form_of r)

      row : ℕ → ℕ
      row a = sum cells (lines_of k a (form_of r))

      -- past the last cell of the last line comes the next row's first place
      row_next : cells p.line ≤ p.cell + 1 → lines ≤ p.line + 1 → x + 1 ≡ sum row (p.row + 1)
      row_next e f =
          let n : lines ≡ p.line + 1 = omega (arith, q.inside.1.0) in
          omega (arith, q.at, q.inside.1.1, sum_next row p.row, sum_next cells p.line, ap (sum cells) n)

      some : form_of r ≡ Line → 0 < points
      some e = omega (arith, h, line_count points k r e)

      row_inside : x + 1 ≡ sum row (p.row + 1) → p.row + 1 < rows_of k r
      row_inside n =
          ⊎_elim (λ (m : p.row + 1 ≡ rows_of k r). absurd (omega (arith, h, n, ap (sum row) m))) (λ (l : p.row + 1 < rows_of k r). l)
          (eq-or-lt_of_le (omega (arith, q.inside.0)))

      go : (c : Bool) → ltb (p.cell + 1) (cells_of points k p.line (form_of r)) ≡ c → (d : Bool) → ltb (p.line + 1) lines ≡ d
          → PlacedAt (x + 1)
          (cond c (record { row = p.row; line = p.line; cell = p.cell + 1; before = p.before + (p.cell + 1) }) (cond d
          (record { row = p.row; line = p.line + 1; cell = 0; before = p.before + (p.cell + 1) }) (record {
            row = p.row + 1;
            line = 0;
            cell = 0;
            before = 0;
          })))
      go true e d f = record { inside = (q.inside.0, (q.inside.1.0, ltb-true _ _ e)); at = omega (arith, q.at) }
      go false e true f =
          let l = ltb-true _ _ f in
          record {
            inside = (q.inside.0, (l, cell_some points k p.row (p.line + 1) (form_of r) some l));
            at = omega (arith, q.at, q.inside.1.1, ltb-false (p.cell + 1) (cells p.line) e, sum_next cells p.line);
          }
      go false e false f =
          let n = row_next (ltb-false _ _ e) (ltb-false _ _ f) in
          let i = row_inside n in
          let l = line_some k (p.row + 1) r i in
          record { inside = (i, (l, cell_some points k (p.row + 1) 0 (form_of r) some l)); at = omega (arith, n) }

-- a position inside is small
pub position_small : {points k x a i d : ℕ} {r : Rule} → Placed points k r x a i d → number_of r ≤ 255 → k ≤ max_steps → points ≤ max_count →
    (a ≤ 255) × (i ≤ max_steps) × (d < max_count)
position_small {points} {k} {x} {a} {i} {d} {r} p n h l = go r p.inside n
  where
    go : (r : Rule) → Inside (shape_of points k r) (a, (i, d)) → number_of r ≤ 255 → (a ≤ 255) × (i ≤ max_steps) × (d < max_count)
    go (Fixed v) q n = omega (arith, q)
    go (Letter c) q n = omega (arith, q)
    go Negation q n = omega (arith, q)
    go And q n = omega (arith, q)
    go Or q n = omega (arith, q)
    go Chop q n = omega (arith, q)
    go (Duration m) q n = omega (arith, q)
    go Throughout q n = omega (arith, q)
    go Cut q n = omega (arith, q)

-- ---- the cells before, each counting its number and one more

module _ (points k : ℕ) (r : Rule) where
  pub first_before : Before points k r (record { row = 0; line = 0; cell = 0; before = 0 })
  unfolding sum
  first_before = refl

  pub next_before : {x : ℕ} (p : Position) → PlacedAt points k r x p → Before points k r p → Before points k r (next_of points k r p)
  unfolding next_of sum
  next_before p q b = go (ltb (p.cell + 1) (cells p.line)) refl (ltb (p.line + 1) (lines_of k p.row (form_of r))) refl
    where
      cells : ℕ → ℕ
      cells i = cells_of points k i (form_of r)

      go : (c : Bool) → ltb (p.cell + 1) (cells p.line) ≡ c → (d : Bool) → ltb (p.line + 1) (lines_of k p.row (form_of r)) ≡ d
          → Before points k r
          (cond c (record { row = p.row; line = p.line; cell = p.cell + 1; before = p.before + (p.cell + 1) })
          (cond d (record { row = p.row; line = p.line + 1; cell = 0; before = p.before + (p.cell + 1) }) (record { row = p.row + 1; line = 0; cell = 0; before = 0 })))
      go true e d f = omega (arith, b, sum_next suc p.cell)
      go false e true f =
          let n : cells p.line ≡ p.cell + 1 = omega (arith, q.inside.1.1, ltb-false (p.cell + 1) (cells p.line) e) in
          omega (arith, b, sum_next (λ i. sum suc (cells i)) p.line, ap (sum suc) n, sum_next suc p.cell)
      go false e false f = omega arith

sum_at_most : (w : ℕ → ℕ) (b n : ℕ) → ((i : ℕ) → i < n → w i ≤ b) → sum w n ≤ n * b
unfolding sum
sum_at_most w b zero h = omega arith
sum_at_most w b (suc n) h = omega (arith, sum_at_most w b n (λ i l. h i (omega arith)), h n (omega arith), suc-mul n b)

pub before_small : {points k x : ℕ} {r : Rule} (p : Position) → Placed points k r x p.row p.line p.cell → Before points k r p →
    k ≤ max_steps → points ≤ max_count → p.before < bound
before_small {points} {k} {x} {r} p q b h l =
    let f = few (form_of r) in
    let c = f p.line q.inside.1.0 in
    omega (
      arith,
      b,
      c,
      sum_at_most (λ i. sum suc (cells_of points k i (form_of r))) (max_count * max_count) p.line (λ i m. line_few (f i (omega (arith, q.inside.1.0))).0),
      line_few {n = p.cell} (omega (arith, q.inside.1.1)),
    )
  where
    few : (f : Form) (i : ℕ) → i < lines_of k p.row f → (cells_of points k i f ≤ max_count) × (i ≤ max_steps)
    few Line i m = omega arith
    few Intervals i m = omega arith
    few Triples i m = omega arith

    line_few : {n : ℕ} → n ≤ max_count → sum suc n ≤ max_count * max_count
    line_few {n} m = omega (arith, sum_at_most suc max_count n (λ i o. omega arith))
