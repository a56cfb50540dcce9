-- `item_at` reads a number and a blank by places, and the number by itself:
-- where the read is good, that number is the item's, since a blank follows it.
use mathlib.Core.Path.{◌∙◌}
use Rattle.file_line.proofs.Reading.{came_to, item_good}
use Rattle.file_line.proofs.parts.item_at.Goals as goal

pub returns : goal.returns
returns c =
    item_good _ _ (came_to _ c.in_ok-end.ensures.value ∙ c.numbered_by.ensures) (came_to _ c.in_ok-next.ensures.value ∙ c.signed_by.ensures)
    c.number_at-value.ensures.0
