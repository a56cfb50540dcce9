-- On one level the gate is that of `[S]`; on those of a duration, at turn e, that of level a + e (Rises.antt).
-- The next level stands I places further, so one addition a turn finds it.
use mathlib.Core.Path.{◌≡◌}
use mathlib.Core.Bool.{false}
use Prim.Native.Nat.{◌-◌, ◌≤◌}
use lib.ListN.{length}
use Rattle.lists.specs.Listing.{rows}
use Rattle.table_blocks.specs.Blocks.{defined_by}
use Rattle.search_clauses.specs.Clauses.{clauses_at}
use Rattle.search_visits.specs.Visits.{Visited}
use Rattle.search_fanout.specs.Walks.{instant_place}
use Rattle.search_instants.proofs.Rises.{Rises}
use Rattle.search_instants.proofs.visit_rise.Given as goal

abbrev pub invariant-loop-e : goal.invariant-loop-e
invariant-loop-e l =
    (length l.values ≡ length l.initial.values) × (length l.trail ≡ length l.initial.trail) × (l.e ≤ l.n) × Rises l.wiring.k l.block l.a l.n l.t l.i l.v l.e
    × Visited (rows l.e (λ e. clauses_at (defined_by l.wiring.c l.wiring.k l.block) (instant_place l.wiring.k l.a l.t l.i e))) l.initial.values l.initial.trail l.top l.values l.trail (record { clash = false; top = l.end })

abbrev pub decreases-loop-e : goal.decreases-loop-e
decreases-loop-e l = l.n - l.e
