-- The clauses of two literals, one after another (Loops.antt).
-- Each is the eighth pattern.
use mathlib.Core.Path.{◌≡◌}
use mathlib.Core.Bool.{false}
use Prim.Native.Nat.{◌-◌, ◌≤◌}
use lib.ListN.{length}
use Rattle.lists.specs.Listing.{rows}
use Rattle.search_visits.specs.Visits.{raised_by, Visited}
use Rattle.search_visits.proofs.visit_each.Given as goal

abbrev pub invariant-loop-e : goal.invariant-loop-e
invariant-loop-e l =
    (length l.values ≡ length l.initial.values) × (length l.trail ≡ length l.initial.trail) × (l.e ≤ l.n) × Visited (rows l.e (raised_by l.v l.w)) l.initial.values l.initial.trail l.top l.values l.trail (record { clash = false; top = l.t })

abbrev pub decreases-loop-e : goal.decreases-loop-e
decreases-loop-e l = l.n - l.e
