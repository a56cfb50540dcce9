-- `constant_table` has the same truth at every place,
-- so at that of every interval.
use mathlib.Core.Path.{◌∙◌}
use Rattle.truth_table.proofs.Joined.{from_bit}
use Rattle.truth_table.proofs.Measuring.{constant_places}
use Rattle.truth_table.proofs.constant_table.Goals as goal

pub returns : goal.returns
returns c = λ k h. constant_places k _ _ _ h (c.from.ensures ∙ from_bit _) c.all_of.ensures
