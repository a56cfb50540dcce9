-- The ground as the code asks of it: rows follow each other from the channels on and end with the last variable, so a variable beyond the
-- channels is of the last row that begins at it or before.
use mathlib.Core.Path.{◌≡◌, refl, sym, ap, subst}
use mathlib.Core.Logic.{by_cases}
use mathlib.Core.List.{List}
use Prim.Native.Nat.{ℕ, ◌+◌, ◌*◌, ◌≤◌, ◌<◌}
use native.Mathlib.Decide.{dec_lt}
use native.Mathlib.Numerals.{add-one}
use native.Mathlib.Omega.{arith}
use lib.ListN.{get_or}
use Rattle.lists.specs.Listing.{sum}
use Rattle.table_sizes.specs.Weights.{variable_weight, row_weight, weight_to}
use Rattle.search_fanout.specs.Fanout.{InRow, Ground}

pub ground_still : {C k : ℕ} {kinds numbers sizes firsts seats parents : List ℕ} {n all more : ℕ} → more ≡ all → Ground C k kinds numbers sizes firsts seats parents n all
    → Ground C k kinds numbers sizes firsts seats parents n more
ground_still {C} {k} {kinds} {numbers} {sizes} {firsts} {seats} {parents} {n} e g = subst (λ (all : ℕ). Ground C k kinds numbers sizes firsts seats parents n all) (sym e) g

module _ {C k : ℕ} {kinds numbers sizes firsts seats parents : List ℕ} {n all : ℕ} (g : Ground C k kinds numbers sizes firsts seats parents n all) where
  pub first_le : {u : ℕ} → k * C < u → get_or firsts 0 0 ≤ u
  unfolding weight_to sum
  first_le h = omega (arith, g.grid.first 0 g.some)

  abbrev width : ℕ → ℕ
  width y = row_weight variable_weight k (get_or kinds y 0) (get_or numbers y 0)

  pub row_found : {u r : ℕ} → u ≤ all → r < n → get_or firsts r 0 ≤ u → (r + 1 < n → u < get_or firsts (r + 1) 0) → InRow k kinds numbers firsts r u
  unfolding weight_to sum
  row_found {u} {r} a h l f =
      let next : sum width (r + 1) ≡ sum width r + width r = rw (add-one r) refl in (
        l,
        by_cases (dec_lt (r + 1) n) (λ m. omega (arith, f m, g.grid.first r h, g.grid.first (r + 1) m, next)) (λ m.
            let e : n ≡ r + 1 = omega arith in omega (arith, a, g.total, g.grid.first r h, next, ap (sum width) e)),
      )
