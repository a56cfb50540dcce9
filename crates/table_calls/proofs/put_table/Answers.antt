-- The nodes' places, then the root's:
-- the truth of row 0 on [0, k], whose place is k (Rows.antt).
use Rattle.table_literals.proofs.Written.{room_first}
use Rattle.table_calls.proofs.Root.{root_room, root_wrote}
use mathlib.Core.Path.{refl}
use native.Mathlib.Omega.{arith}
use Rattle.table_calls.proofs.put_table.Goals as goal

pub put_nodes-at-requires : goal.put_nodes-at-requires
put_nodes-at-requires c = record { room = room_first c.requires.room _ _ refl; c_le_max_channels = (c.requires.c_le_max_channels.0, c.requires.c_le_max_channels.1, c.requires.c_le_max_channels.2, c.requires.c_le_max_channels.3, c.put_rows.ensures) }

pub put_run-requires : goal.put_run-requires
put_run-requires c =
    record { room = root_room _ _ c.seat.ensures.0 c.requires.room c.put_nodes-at.ensures; n_bound = omega (arith, c.seat.ensures.1, c.requires.c_le_max_channels.1) }

pub returns : goal.returns
returns c =
    root_wrote _ _ c.seat.ensures.0 c.put_nodes-at.ensures c.put_run.ensures
