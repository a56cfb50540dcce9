-- `check_text` reads a formula from the first byte on: the text reads where that comes to its end,
-- and stops where the formula ends too early or where its reading stops.
use mathlib.Core.Path.{refl}
use Rattle.std.proofs.lemmas.Result.{err_from_is_err_and}
use Rattle.formula_reader.proofs.Parts.{check_more, check_reads, check_stops}
use Rattle.formula_reader.proofs.check_text.Goals as goal

pub returns-in_err-end : goal.returns-in_err-end
returns-in_err-end c =
    let p = err_from_is_err_and c.from_residual.result c.from_residual.ensures.1 in rw (p.1, p.2) (check_stops _ _ c.in_err-end.ensures _ refl)

pub returns-then-end-text : goal.returns-then-end-text
returns-then-end-text c = check_more _ _ c.in_ok-end.ensures _ refl c.if-end-text.true

pub returns : goal.returns
returns c = check_reads _ _ c.in_ok-end.ensures _ refl c.if-end-text.false
