-- Each turn adds a literal of the closure that was not there, until none is forced or one is opposed (Steps.antt).
-- There are no more variables than values, so it ends.
use mathlib.Core.Path.{◌≡◌}
use Prim.Native.Nat.{◌-◌}
use lib.ListN.{length}
use Rattle.search_patterns.specs.Patterns.{pattern_of, among, renamed}
use Rattle.search_patterns.proofs.Steps.{Visits}
use Rattle.search_patterns.proofs.settle_on.Given as goal

abbrev pub invariant-loop-u : goal.invariant-loop-u
invariant-loop-u l =
    (length l.values ≡ length l.initial.values) × (length l.trail ≡ length l.initial.trail) × Visits (renamed (among l.v l.x l.y l.z) (pattern_of l.gate)) l.initial.values l.initial.trail l.top l.values l.trail l.t

abbrev pub decreases-loop-u : goal.decreases-loop-u
decreases-loop-u l = length l.initial.values - l.t
