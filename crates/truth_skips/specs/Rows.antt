-- Which rows of a table a chop can skip. Nothing here need be believed: no call open to others cites it.
use Rattle.std.specs.Prelude.{◌≡◌, Bool, true, List, ℕ, suc, ◌≤◌, ◌<◌, get_or}
use Rattle.interval.specs.declared.Interval.{Interval}

-- a later row for each row, k + 1 at the most
pub record NextRows (k : ℕ) (nexts : List ℕ) : Type 0 where
  pub later : (m : ℕ) → m ≤ k → m < get_or nexts m 0
  pub most : (m : ℕ) → m ≤ k → get_or nexts m 0 ≤ suc k

-- the rows between are within the row: where they are true, it is
pub record Within (k : ℕ) (g : Interval → Bool) (nexts : List ℕ) : Type 0 where
  pub within : (m l j : ℕ) → m < l → l < get_or nexts m 0 → l ≤ j → j ≤ k → g (record { i = l; j = j }) ≡ true → g (record { i = m; j = j }) ≡ true
