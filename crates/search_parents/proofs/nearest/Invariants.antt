-- Every row between the loop's and z ends before z; the root's rows do not, so the loop ends at a row that z is among.
-- That row is the nearest.
use mathlib.Core.Path.{◌≡◌}
use Prim.Native.Nat.{ℕ, ◌+◌, ◌≤◌, ◌<◌}
use lib.ListN.{get_or}
use Rattle.search_parents.proofs.nearest.Given as goal

abbrev pub invariant-loop-y : goal.invariant-loop-y
invariant-loop-y l = (l.y < l.z) × ((v : ℕ) → l.y < v → v < l.z → v + get_or l.sizes v 0 ≤ l.z)

abbrev pub decreases-loop-y : goal.decreases-loop-y
decreases-loop-y l = l.y
