-- The block that the code makes of a row has the row's fields; its numbers are low, since first variables are.
-- A column of seats is filled row after row.
use mathlib.Core.Path.{◌≡◌, refl, sym, ap, ap₂, ◌∙◌, subst}
use mathlib.Core.List.{List}
use Prim.Native.Nat.{ℕ, ◌+◌, ◌*◌, ◌≤◌, ◌<◌}
use native.Mathlib.Nat.{mul-le-mul}
use native.Mathlib.Omega.{arith}
use lib.ListN.{get_or}
use borrow.Author.Tests.{eq-eqb, ne_eqb}
use Rattle.interval.specs.Limits.{max_steps, max_count}
use Rattle.interval.specs.Places.{count_of}
use Rattle.paper_grammar.specs.Limits.{max_channels}
use Rattle.table_blocks.specs.Blocks.{rule_by, number_of, bound}
use Rattle.table_blocks.specs.declared.Block.{Block}
use Rattle.table_blocks.specs.declared.Rule.{Rule}
use Rattle.table_blocks.proofs.Positions.{rule_number}
use Rattle.table_sizes.specs.Weights.{points_by}
use Rattle.table_nodes.specs.Nodes.{Fine}
use Rattle.table_layout.specs.Rows.{seat_by, block_by, Low}

module _ (kinds numbers firsts : List ℕ) (k y : ℕ) {first kind : ℕ} (p : first ≡ get_or firsts y 0) (q : kind ≡ get_or kinds y 0) where
  pub seat_lasting : {n i : ℕ} → kind ≡ 23 → n ≡ get_or numbers y 0 → i ≡ count_of k → first + n * i ≡ seat_by kinds numbers firsts k y
  unfolding seat_by
  seat_lasting e f g = rw (← q, eq-eqb kind 23 e, ← p, ← f, ← g) refl

  pub seat_other : (kind ≡ 23 → ⊥) → first ≡ seat_by kinds numbers firsts k y
  unfolding seat_by
  seat_other n = rw (← q, ne_eqb kind 23 n) (omega (arith, p))

pub level_low : (n i : ℕ) → n ≤ 255 → i ≤ max_count → n * i ≤ 255 * max_count
level_low n i h l = mul-le-mul {n₂ = 255} {m₂ = max_count} h l

module _ (kinds numbers sizes firsts : List ℕ) (k x kind : ℕ) {number : ℕ} {b : Block} (rule : b.rule ≡ rule_by kind number) (first : b.first ≡ get_or firsts x 0) where
  pub block_read : {z : ℕ} → kind ≡ get_or kinds x 0 → number ≡ get_or numbers x 0 → z ≡ x + 1 + get_or sizes (x + 1) 0 →
      b.points ≡ points_by k kind → b.left ≡ seat_by kinds numbers firsts k (x + 1)
      → b.right ≡ seat_by kinds numbers firsts k z → b ≡ block_by kinds numbers sizes firsts k x
  unfolding block_by
  block_read e f g p l r =
      let u = rule ∙ ap₂ rule_by e f in
      let q = p ∙ ap (points_by k) e in
      let z = r ∙ ap (seat_by kinds numbers firsts k) g in
      λ i. record { rule = u i; points = q i; first = first i; left = l i; right = z i }

  pub block_fine : number ≤ 255 → k ≤ max_steps → Low firsts → b.points ≤ max_count → b.left < bound → b.right < bound → (C : ℕ) → C ≤ max_channels → Fine C k b
  block_fine n h low p l r C c = record {
    bounded = record { channels = c; steps = h; number = subst (λ (r : Rule). number_of r ≤ 255) (sym rule) (rule_number kind number n); first = omega (arith, first, low x); left = l; right = r };
    points = p;
    first = omega (arith, first, low x);
  }
