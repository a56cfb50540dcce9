-- `measured_row` fills one place a turn, the interval of d steps from i on;
-- the row ends at the most steps, so that every window fits the word.
use Prim.Native.Nat.{ℕ, ◌+◌, ◌<◌}
use mathlib.Core.Path.{◌≡◌}
use lib.ListN.{get_or}
use Rattle.paper_meaning.specs.Meaning.{bit, bit_at}
use Rattle.truth_table.specs.Table.{measured}
use Rattle.truth_table.proofs.measured_row.Given as goal

abbrev pub invariant-loop-d : goal.invariant-loop-d
invariant-loop-d l = (y : ℕ) → y < l.d → get_or l.row y 0 ≡ bit (measured l.measure (bit_at l.word) (record { i = l.i; j = l.i + y }))
