-- `text_at` looks at the last byte of the input, which is the last from the place on,
-- if there is any.
use Rattle.file_line.proofs.Reading.{text_good, text_no_feed, text_end}
use borrow.Author.Rules.{rules}
use Rattle.file_line.proofs.parts.text_at.Goals as goal

pub returns-then-input-end-eq10 : goal.returns-then-input-end-eq10
returns-then-input-end-eq10 c = (text_good _ _ _ _ c.if-first-input.true c.if-input-end-eq10.true, search rules)

pub returns-else-input-end-eq10 : goal.returns-else-input-end-eq10
returns-else-input-end-eq10 c = (text_no_feed _ _ _ _ c.if-first-input.true c.if-input-end-eq10.false, search rules)

pub returns-else-first-input : goal.returns-else-first-input
returns-else-first-input c = (text_end _ _ _ _ c.if-first-input.false, search rules)
