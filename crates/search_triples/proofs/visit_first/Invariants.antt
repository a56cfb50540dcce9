-- At turn e the code has the variables of the triple (i, m, m + e) and of its two parts (Cuts.antt).
-- The next triple of the same start and cut stands after all of this length.
use mathlib.Core.Path.{◌≡◌}
use mathlib.Core.Bool.{false}
use Prim.Native.Nat.{◌+◌, ◌-◌, ◌≤◌}
use lib.ListN.{length}
use Rattle.lists.specs.Listing.{rows}
use Rattle.interval.specs.Places.{triple_place_of}
use Rattle.table_blocks.specs.Blocks.{defined_by}
use Rattle.search_clauses.specs.Clauses.{clauses_at}
use Rattle.search_visits.specs.Visits.{Visited}
use Rattle.search_triples.proofs.Cuts.{Firsts}
use Rattle.search_triples.proofs.visit_first.Given as goal

abbrev pub invariant-loop-e : goal.invariant-loop-e
invariant-loop-e l =
    (length l.values ≡ length l.initial.values) × (length l.trail ≡ length l.initial.trail) × (l.e ≤ l.wiring.k - l.m + 1) × Firsts l.wiring.k l.block l.i l.m l.x l.start l.v l.e
    × Visited (rows l.e (λ e. clauses_at (defined_by l.wiring.c l.wiring.k l.block) (triple_place_of l.wiring.k (record { i = l.i; m = l.m; j = l.m + e })))) l.initial.values l.initial.trail l.top l.values l.trail (record { clash = false; top = l.t })

abbrev pub decreases-loop-e : goal.decreases-loop-e
decreases-loop-e l = l.wiring.k - l.m + 1 - l.e
