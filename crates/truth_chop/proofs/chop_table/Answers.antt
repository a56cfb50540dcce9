-- `chop_table` fills one row a turn, each from the place where the last one ended,
-- and after k + 1 rows every interval's place is in one of them (Rows.antt).
use Rattle.truth_table.proofs.Rows.{filled_begun, row_length, filled_turn, rows_turn}
use Rattle.paper_meaning.specs.Meaning.{chops}
use Rattle.interval.proofs.Counts.{count_le}
use Rattle.interval.specs.Places.{count_of}
use Rattle.interval.specs.Limits.{max_steps, max_count}
use native.Mathlib.Omega.{arith}
use borrow.Author.Rules.{rules}
use borrow.Rule.Slice.PartMut.{mid_of}
use lib.ListN.{length}
use Prim.Native.Nat.{◌+◌, ◌-◌, ◌≤◌}
use mathlib.Core.Path.{◌≡◌}
use Rattle.truth_chop.proofs.chop_table.Goals as goal

pub next_rows-nexts-requires : goal.next_rows-nexts-requires
unfolding count_of
next_rows-nexts-requires c = (c.requires.0, omega (arith, count_le max_steps _ c.requires.0), c.requires.1)

pub loop-i-init : goal.loop-i-init
unfolding count_of
loop-i-init c =
    (omega arith, filled_begun max_count _ _ (count_le max_steps _ c.requires.0) c.all_of-t.ensures, λ f g P Q. record { at = λ v o h. omega arith })

pub loop-i-preserved : goal.loop-i-preserved
loop-i-preserved c =
    let a = c.args in let l = c.loop-i in
    let end = l.start + (a.k + 1 - l.i) in let row = c.chop_row.new.row in
    let h : l.i ≤ a.k = omega (arith, l.invariant.0, c.loop-i-test.true) in
    let w = l.invariant.1 in let o : length row ≡ length (mid_of l.start (end - l.start) l.t) = search rules in
    let long : length row ≡ end - l.start = omega (arith, o, row_length max_count _ _ _ end _ w (omega arith)) in (
      omega arith,
      filled_turn max_count _ _ _ end _ row h w (omega arith) long,
      λ f g P Q. rows_turn max_count _ _ _ end _ row h w (omega arith) long (chops f g)
          (c.chop_row.ensures f g P Q (c.next_rows-nexts.ensures.1 g Q)) (l.invariant.2 f g P Q),
    )
