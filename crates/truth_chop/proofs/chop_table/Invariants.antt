-- `chop_table` fills one row a turn, each from the place where the last one ended,
-- and after k + 1 rows every interval's place is in one of them (Rows.antt).
use Rattle.truth_table.proofs.Rows.{Filled, RowsTo}
use Rattle.truth_table.specs.Table.{TableOf}
use Rattle.paper_meaning.specs.Meaning.{chops}
use Rattle.interval.specs.declared.Interval.{Interval}
use Rattle.interval.specs.Limits.{max_count}
use Prim.Native.Nat.{suc, ◌-◌}
use mathlib.Core.Bool.{Bool}
use mathlib.Core.Path.{◌≡◌}
use Rattle.truth_chop.proofs.chop_table.Given as goal

abbrev pub invariant-loop-i : goal.invariant-loop-i
invariant-loop-i l =
    (l.i-end ≡ suc l.k) × Filled max_count l.k l.i l.start l.t × ((f g : Interval → Bool) → TableOf l.k f l.p → TableOf l.k g l.q → RowsTo l.k (chops f g) l.i l.t)

abbrev pub decreases-loop-i : goal.decreases-loop-i
decreases-loop-i l = suc l.k - l.i
