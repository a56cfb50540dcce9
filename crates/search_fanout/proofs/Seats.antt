-- Where a part's truth begins, from the column of seats: past the last row every column is 0.
use mathlib.Core.Path.{◌≡◌, ◌∙◌}
use mathlib.Core.List.{List}
use Prim.Native.Nat.{ℕ, ◌<◌}
use native.Mathlib.Decide.{dec_lt}
use mathlib.Core.Logic.{by_cases}
use native.Mathlib.Omega.{arith}
use lib.ListN.{length, get_or, get_or-eq_default}
use Rattle.paper_grammar.specs.Limits.{max_nodes}
use Rattle.table_blocks.specs.Blocks.{bound}
use Rattle.table_layout.specs.Rows.{seat_by, Seated}

-- the seat of a part's row; past the last row every column is 0, and so is the seat
module _ (kinds numbers firsts seats : List ℕ) (k : ℕ) (f : Seated kinds numbers firsts k seats max_nodes) (a : length kinds ≡ max_nodes)
    (b : length firsts ≡ max_nodes) (c : length seats ≡ max_nodes) where
  pub seat_told : (y : ℕ) {s : ℕ} → s ≡ get_or seats y 0 → (s ≡ seat_by kinds numbers firsts k y) × (s < bound)
  unfolding seat_by
  seat_told y e = by_cases (dec_lt y max_nodes) (λ l. (e ∙ (f y l).0, omega (arith, e, (f y l).1)))
      (λ l. let o = e ∙ get_or-eq_default seats 0 {n = y} (omega arith) in
      rw (get_or-eq_default kinds 0 {n = y} (omega arith), get_or-eq_default firsts 0 {n = y} (omega arith)) (o, omega (arith, o)))
