-- `channel_variable` computes document 01's formula as it stands;
-- its product is small enough, by its bounds.
use Rattle.table_blocks.proofs.Positions.{channel_fits}
use mathlib.Core.Path.{refl}
use native.Mathlib.Omega.{arith}
use Rattle.table_blocks.proofs.channel_variable.Goals as goal

pub overflow_mul-result : goal.overflow_mul-result
overflow_mul-result c = omega (arith, channel_fits c.args.t c.args.c c.requires.1 c.requires.0)

pub overflow_add-result : goal.overflow_add-result
overflow_add-result c = omega (arith, channel_fits c.args.t c.args.c c.requires.1 c.requires.0)

pub overflow_add-result-2 : goal.overflow_add-result-2
overflow_add-result-2 c = omega (arith, channel_fits c.args.t c.args.c c.requires.1 c.requires.0)

pub returns : goal.returns
returns c = refl
