-- The sizes are the sums along the node table, so question 18 is asked of the true L;
-- then the sizes and the table's places are written over the lent arrays (Call.antt).
use Rattle.table_layout.proofs.Known.{table_room}
use Rattle.table_calls.proofs.Call.{room_enough, refused_known, written_known}
use Rattle.std.proofs.lemmas.Result.{err_from_is_err_and}
use mathlib.Core.Path.{sym}
use Rattle.table_calls.proofs.write_table.Goals as goal

pub layout_of-layout-requires : goal.layout_of-layout-requires
layout_of-layout-requires c = c.requires

pub returns-in_err-ask_room : goal.returns-in_err-ask_room
returns-in_err-ask_room c =
    let p = err_from_is_err_and c.from_residual.result c.from_residual.ensures.1 in
    λ f e. rw (p.1, p.2) (refused_known _ _ f e c.layout_of-layout.ensures _ _ _ c.in_err-ask_room.ensures)

pub put_sizes-requires : goal.put_sizes-requires
put_sizes-requires c = (room_enough _ _ _ _ (sym c.in_ok-ask_room.ensures)).0

pub put_table-requires : goal.put_table-requires
put_table-requires c =
    let g = room_enough _ _ _ _ (sym c.in_ok-ask_room.ensures) in let w = c.layout_of-layout.ensures in
    record { room = table_room c.args.table w g.1 g.2; c_le_max_channels = (c.requires.0, c.requires.1, c.requires.2, w.low) }

pub returns : goal.returns
returns c =
    λ f e. written_known _ _ f e c.layout_of-layout.ensures _ _ _ c.in_ok-ask_room.ensures c.put_sizes.ensures
    c.put_table.ensures
