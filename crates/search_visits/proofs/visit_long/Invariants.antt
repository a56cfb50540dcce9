-- The literals of the clause that are not opposed are counted up to two (Long.antt).
-- A second one ends the count, since nothing is forced then.
use Prim.Native.Nat.{◌-◌, ◌≤◌}
use Rattle.search_visits.proofs.Long.{Reading}
use Rattle.search_visits.proofs.visit_long.Given as goal

abbrev pub invariant-loop-e : goal.invariant-loop-e
invariant-loop-e l = (l.e ≤ l.n) × Reading l.values l.v l.w l.e l.free l.last l.mark

abbrev pub decreases-loop-e : goal.decreases-loop-e
decreases-loop-e l = l.n - l.e
