-- Position 0 is that of place 0, and a block has as many gates as variables:
-- what `weigh` answers for variables (Walk.antt).
use native.Mathlib.Omega.{arith}
use mathlib.Core.Path.{refl}
use Rattle.table_nodes.proofs.Walk.{begins, light}
use Rattle.table_nodes.proofs.cursor.Cursor.start.Goals as goal

pub weigh-requires : goal.weigh-requires
weigh-requires c = light c.requires.0 c.variables.ensures (omega arith) (omega arith) (omega arith)

pub all-requires : goal.all-requires
all-requires c = (c.requires.0.steps, c.requires.1)

pub returns : goal.returns
returns c = (begins c.variables.ensures c.weigh.ensures.0 c.weigh.ensures.1 c.all.ensures.0, refl)
