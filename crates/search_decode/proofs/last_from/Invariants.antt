-- The number at the lower end is not beyond u, and the one at the upper end, if there is one, is.
-- Each turn halves what is between, until they are neighbours.
use Prim.Native.Nat.{◌-◌, ◌≤◌, ◌<◌}
use lib.ListN.{length, get_or}
use Rattle.search_decode.proofs.last_from.Given as goal

abbrev pub invariant-loop-low : goal.invariant-loop-low
invariant-loop-low l = (l.low < l.high) × (l.high ≤ l.count) × (l.count ≤ length l.table) × (get_or l.table l.low 0 ≤ l.u) × (l.high < l.count → l.u < get_or l.table l.high 0)

abbrev pub decreases-loop-low : goal.decreases-loop-low
decreases-loop-low l = l.high - l.low
