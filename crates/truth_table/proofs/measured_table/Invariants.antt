-- `measured_table` fills one row a turn, each from the place where the last one ended,
-- and after k + 1 rows every interval's place is in one of them (Rows.antt).
use Rattle.truth_table.proofs.Rows.{Filled, RowsTo}
use Rattle.truth_table.specs.Table.{measured}
use Rattle.paper_meaning.specs.Meaning.{bit_at}
use Rattle.interval.specs.Limits.{max_count}
use Prim.Native.Nat.{suc, ◌-◌}
use mathlib.Core.Path.{◌≡◌}
use Rattle.truth_table.proofs.measured_table.Given as goal

abbrev pub invariant-loop-i : goal.invariant-loop-i
invariant-loop-i l = (l.i-end ≡ suc l.k) × Filled max_count l.k l.i l.start l.t × RowsTo l.k (measured l.measure (bit_at l.word)) l.i l.t

abbrev pub decreases-loop-i : goal.decreases-loop-i
decreases-loop-i l = suc l.k - l.i
