-- `measured_table` fills one row a turn, each from the place where the last one ended,
-- and after k + 1 rows every interval's place is in one of them (Rows.antt).
use Rattle.truth_table.proofs.Rows.{filled_begun, filled_turn, rows_turn}
use Rattle.interval.proofs.Counts.{count_le}
use Rattle.interval.specs.Places.{count_of}
use Rattle.interval.specs.Limits.{max_steps, max_count}
use native.Mathlib.Omega.{arith}
use borrow.Author.Rules.{rules}
use Prim.Native.Nat.{◌+◌, ◌-◌}
use Rattle.truth_table.proofs.measured_table.Goals as goal

pub loop-i-init : goal.loop-i-init
unfolding count_of
loop-i-init c =
    (omega arith, filled_begun max_count _ _ (count_le max_steps _ c.requires) c.all_of-t.ensures, record { at = λ v o h. omega arith })

pub loop-i-preserved : goal.loop-i-preserved
loop-i-preserved c =
    let a = c.args in let l = c.loop-i in
    let end = l.start + (a.k + 1 - l.i) in let row = c.measured_row.new.row in
    let w = l.invariant.1 in (
      omega arith,
      filled_turn max_count _ _ _ end _ row (omega arith) w (omega arith) (search rules),
      rows_turn max_count _ _ _ end _ row (omega arith) w (omega arith) (search rules) _ c.measured_row.ensures l.invariant.2,
    )
