-- `row_at` reads the row's first byte and sort, and the rows of its parts:
-- with these it is the definition's.
use mathlib.Core.Path.{◌∙◌}
use Rattle.node_rows.proofs.Rows.{from_parts}
use Rattle.node_rows.proofs.row_at.Goals as goal

pub returns : goal.returns
returns c =
    c.row_from.ensures ∙ from_parts _ _ _ _ _ _ _ _ _ _ _ (c.from-at.ensures ∙ c.byte_at.ensures) c.part_at-p.ensures.0 c.part_at-q.ensures.0
    c.byte_at-2.ensures c.byte_at-3.ensures
