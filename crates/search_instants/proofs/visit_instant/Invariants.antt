-- At turn i the intervals that start before i are visited, on all their levels.
-- After the last turn all that end a step after the instant are.
use mathlib.Core.Path.{◌≡◌}
use mathlib.Core.Bool.{false}
use Prim.Native.Nat.{◌+◌, ◌-◌, ◌≤◌}
use lib.ListN.{length}
use Rattle.lists.specs.Listing.{rows}
use Rattle.search_visits.specs.Visits.{Visited}
use Rattle.search_fanout.specs.Walks.{rise_clauses}
use Rattle.search_instants.proofs.visit_instant.Given as goal

abbrev pub invariant-loop-i : goal.invariant-loop-i
invariant-loop-i l =
    (length l.values ≡ length l.initial.values) × (length l.trail ≡ length l.initial.trail) × (l.i ≤ l.t + 1)
    × Visited (rows l.i (rise_clauses l.wiring.c l.wiring.k l.block l.a l.n l.t)) l.initial.values l.initial.trail l.top l.values l.trail (record { clash = false; top = l.end })

abbrev pub decreases-loop-i : goal.decreases-loop-i
decreases-loop-i l = l.t + 1 - l.i
