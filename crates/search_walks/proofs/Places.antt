-- A place inside a block is small, since no block is large.
-- The gate there is that of its definition, whose clauses a visit goes through.
use mathlib.Core.Path.{◌≡◌, refl, sym, subst}
use mathlib.Core.List.{List}
use Prim.Native.Nat.{ℕ, ◌≤◌, ◌<◌}
use native.Mathlib.Omega.{arith}
use Rattle.interval.specs.Places.{place_of}
use Rattle.interval.specs.Limits.{max_steps, max_count}
use Rattle.interval.proofs.Counts.{few_intervals}
use Rattle.interval.proofs.Laws.{intervals_numbered}
use lib.ListN.{length}
use Rattle.interval.proofs.Shape.{place_lt}
use Rattle.table_blocks.specs.Blocks.{shape_of, defined_by, Placed, Before}
use Rattle.table_blocks.specs.declared.Block.{Block}
use Rattle.table_blocks.specs.declared.Position.{Position}
use Rattle.table_blocks.specs.declared.Rule.{Rule}
use Rattle.table_blocks.specs.declared.Rule.TheVariants.{Chop}
use Rattle.table_sizes.specs.Weights.{variable_weight, max_weight}
use Rattle.table_sizes.proofs.Weights.{shape_weight, weighed}
use Rattle.table_nodes.proofs.Walk.{walkable, light}
use Rattle.search_closing.specs.Values.{Trailing}
use Rattle.search_clauses.proofs.Walk.{still}
use Rattle.search_fanout.specs.Walks.{Standing}

pub place_small : {C k : ℕ} {b : Block} {values trail : List ℕ} {top x a i d : ℕ} → Standing C k b values trail top → Placed b.points k b.rule x a i d → x < max_weight
place_small {k = k} {b} {a = a} {i = i} {d = d} s p =
    omega (
      arith,
      (weighed (light (walkable s.bounded s.points) {v = variable_weight} refl (omega arith) (omega arith) (omega arith)) b.rule refl refl).1,
      shape_weight k b.points b.rule,
      place_lt (shape_of b.points k b.rule) (a, (i, d)) p.inside,
      p.at,
    )

pub before_there : (points k : ℕ) {r : Rule} (p : Position) → (r ≡ Chop → Before points k Chop p) → r ≡ Chop → Before points k r p
before_there points k p f e = subst (λ (r : Rule). Before points k r p) (sym e) (f e)

-- a visit leaves the block standing
pub stands : {C k : ℕ} {b : Block} {values trail v t : List ℕ} {top n : ℕ} → Standing C k b values trail top → length v ≡ length values → Trailing v t n → Standing C k b v t n
stands {C} {k} {b} s e t = record { bounded = s.bounded; points = s.points; mentioned = still (defined_by C k b) e s.mentioned; trailing = t }

-- ---- the places of intervals

pub interval_small : (k i j : ℕ) → k ≤ max_steps → i ≤ j → j ≤ k → place_of k (record { i = i; j = j }) < max_count
interval_small k i j h o p = omega (arith, (intervals_numbered k).below (record { i = i; j = j }) (record { starts = o; ends = p }), few_intervals k h)
