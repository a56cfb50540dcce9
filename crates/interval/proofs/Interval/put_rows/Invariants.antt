-- At turn i the running sum is where row i starts, and the table has the starts up to it:
-- the next start is a row's length further.
use mathlib.Core.Path.{◌≡◌, ◌∙◌}
use Prim.Native.Nat.{suc, ◌+◌, ◌-◌, ◌≤◌, ◌<◌}
use lib.ListN.{length}
use Rattle.interval.specs.Rows.{start_of, Begins}
use Rattle.interval.proofs.Interval.put_rows.Given as goal

abbrev pub invariant-loop-i : goal.invariant-loop-i
invariant-loop-i l =
    (l.i ≤ suc l.k) × (l.start ≡ start_of l.k l.i) × (length l.rows ≡ length l.initial.rows) × Begins (start_of l.k) (l.i + 1) l.rows

abbrev pub decreases-loop-i : goal.decreases-loop-i
decreases-loop-i l = suc l.k - l.i
