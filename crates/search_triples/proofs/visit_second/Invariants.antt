-- At turn i the code has the variables of the triple (i, m, j) and of its two parts (Cuts.antt).
-- The next start's triple stands after all that start at i.
use mathlib.Core.Path.{◌≡◌}
use mathlib.Core.Bool.{false}
use Prim.Native.Nat.{◌+◌, ◌-◌, ◌≤◌}
use lib.ListN.{length}
use Rattle.lists.specs.Listing.{rows}
use Rattle.interval.specs.Places.{triple_place_of}
use Rattle.table_blocks.specs.Blocks.{defined_by}
use Rattle.search_clauses.specs.Clauses.{clauses_at}
use Rattle.search_visits.specs.Visits.{Visited}
use Rattle.search_triples.proofs.Cuts.{Seconds}
use Rattle.search_triples.proofs.visit_second.Given as goal

abbrev pub invariant-loop-i : goal.invariant-loop-i
invariant-loop-i l =
    (length l.values ≡ length l.initial.values) × (length l.trail ≡ length l.initial.trail) × (l.i ≤ l.m + 1) × Seconds l.wiring.k l.block l.m l.j l.start l.x l.v l.row l.i
    × Visited (rows l.i (λ i. clauses_at (defined_by l.wiring.c l.wiring.k l.block) (triple_place_of l.wiring.k (record { i = i; m = l.m; j = l.j })))) l.initial.values l.initial.trail l.top l.values l.trail (record { clash = false; top = l.t })

abbrev pub decreases-loop-i : goal.decreases-loop-i
decreases-loop-i l = l.m + 1 - l.i
