-- The bytes around the columns are stored one by one, and the columns are handed the part between them;
-- once that is back, the line stands in its part (Lines.antt).
use mathlib.Core.Path.{ap, ◌∙◌}
use Prim.Native.Nat.{◌+◌}
use native.Mathlib.Omega.{arith}
use lib.ListN.{length, length-set}
use borrow.Rule.Slice.PartMut.{mid_len}
use Rattle.interval.specs.Limits.{max_steps}
use Rattle.strip.proofs.Laws.{count_length}
use Rattle.strip_lines.proofs.Lines.{around, line_stored}
use Rattle.strip_lines.proofs.put_line.Goals as goal

pub returns : goal.returns
returns c =
    let a = c.args in
    let count = c.count_of-count in let columns = around a.part.now c.letter_of.result count.result in
    line_stored (length a.recording.now) a.recording.now a.line a.part.now c.requires.0 c.letter_of.ensures count.ensures
    (ap length count.ensures ∙ count_length _ _ c.requires.1 a.line) (mid_len 2 (2 + max_steps) columns (simp length-set (omega arith)))
    c.put_columns.ensures
