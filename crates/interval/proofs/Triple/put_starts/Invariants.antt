-- At turn i the running sum is where the triples of start i begin, and the table has the starts up to it:
-- a start has as many triples as there are intervals from it on.
use mathlib.Core.Path.{◌≡◌, ◌∙◌}
use Prim.Native.Nat.{◌+◌, ◌-◌, ◌≤◌, ◌<◌}
use lib.ListN.{length}
use Rattle.interval.specs.Rows.{triple_start, Begins}
use Rattle.interval.proofs.Triple.put_starts.Given as goal

abbrev pub invariant-loop-i : goal.invariant-loop-i
invariant-loop-i l =
    (l.i ≤ l.k) × (l.start ≡ triple_start l.k l.i) × (length l.starts ≡ length l.initial.starts) × Begins (triple_start l.k) (l.i + 1) l.starts

abbrev pub decreases-loop-i : goal.decreases-loop-i
decreases-loop-i l = l.k - l.i
