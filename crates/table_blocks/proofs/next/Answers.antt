-- `next` tests for a further cell and then for a further line,
-- as its definition does.
use Rattle.table_blocks.proofs.Positions.{next_cell, next_line, next_row}
use native.Mathlib.Omega.{arith}
use Rattle.table_blocks.proofs.next.Goals as goal

pub returns-then-cell-cells : goal.returns-then-cell-cells
returns-then-cell-cells c = next_cell _ _ _ _ c.form_of-form.ensures (omega (arith, c.cells.ensures, c.if-cell-cells.true))

pub returns-then-line-lines : goal.returns-then-line-lines
returns-then-line-lines c =
    next_line _ _ _ _ c.form_of-form.ensures (omega (arith, c.cells.ensures, c.if-cell-cells.false)) (omega (arith, c.lines.ensures, c.if-line-lines.true))

pub returns : goal.returns
returns c =
    next_row _ _ _ _ c.form_of-form.ensures (omega (arith, c.cells.ensures, c.if-cell-cells.false)) (omega (arith, c.lines.ensures, c.if-line-lines.false))
