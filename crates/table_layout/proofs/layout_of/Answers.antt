-- The sizes are the sums along the node table,
-- and the first variables are put to a new column.
use mathlib.Core.Path.{refl}
use Rattle.table_layout.proofs.Measure.{zeros_low}
use Rattle.table_layout.proofs.layout_of.Goals as goal

pub sizes_of-sizes-requires : goal.sizes_of-sizes-requires
sizes_of-sizes-requires c = (c.requires.0, c.requires.1, c.requires.2, refl, zeros_low)
