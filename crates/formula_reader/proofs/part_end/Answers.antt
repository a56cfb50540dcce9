-- `part_end` is where a part's reading came to, good or bad: by itself a part is followed by nothing, so the reader
-- stops just there. Past the text's end nothing is read.
use Rattle.formula_reader.proofs.Parts.{end_past, end_good, end_bad}
use Rattle.formula_reader.proofs.part_end.Goals as goal

pub returns-then-at-text : goal.returns-then-at-text
returns-then-at-text c = end_past _ _ _ c.if-at-text.true

pub returns-in-Ok : goal.returns-in-Ok
returns-in-Ok c = end_good _ _ _ _ _ c.read_part.ensures c.in-Ok.is

pub returns-in-Err : goal.returns-in-Err
returns-in-Err c = end_bad _ _ _ _ _ c.read_part.ensures c.in-Err.is
