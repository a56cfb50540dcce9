-- `put_joined` joins the bytes of place e at turn e; both are bits, which join as truths do,
-- so the slice is filled by the joined truths.
use mathlib.Core.Path.{◌≡◌}
use Prim.Native.Nat.{ℕ, ◌<◌}
use lib.ListN.{get_or}
use Rattle.truth_table.specs.Table.{joined_byte}
use Rattle.extend_truths.proofs.put_joined.Given as goal

abbrev pub invariant-loop-e : goal.invariant-loop-e
invariant-loop-e l = (y : ℕ) → y < l.e → get_or l.out y 0 ≡ joined_byte l.both (get_or l.p y 0) (get_or l.q y 0)
