-- Row after row is visited at the instant, if it is a letter of the channel.
-- The ground stays, since the list of values keeps its length.
use mathlib.Core.Path.{◌≡◌}
use mathlib.Core.Bool.{false}
use Prim.Native.Nat.{◌≤◌}
use lib.ListN.{length}
use Rattle.lists.specs.Listing.{rows}
use Rattle.search_visits.specs.Visits.{Visited}
use Rattle.search_fanout.specs.Wiring.{letter_in}
use Rattle.search_letters.proofs.reach_letters.Given as goal

abbrev pub invariant-loop-x : goal.invariant-loop-x
invariant-loop-x l =
    (length l.values ≡ length l.initial.values) × (length l.trail ≡ length l.initial.trail) × (l.x ≤ l.wiring.table.count)
    × Visited (rows l.x (letter_in l.wiring l.t l.e)) l.initial.values l.initial.trail l.top l.values l.trail (record { clash = false; top = l.last })
