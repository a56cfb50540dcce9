-- `empty_table` has no rows, so each array is 0 throughout:
-- the definition computes to it.
use mathlib.Core.Path.{refl}
use Rattle.node_rows.specs.Table.{table_of}
use Rattle.node_rows.proofs.empty_table.Goals as goal

pub returns : goal.returns
unfolding table_of
returns c = refl
