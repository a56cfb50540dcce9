-- Refused by the first no of 15 to 17, or by 18; otherwise the sizes, variables and marks that the file holds stand over what was there
-- (Calls.antt).
use Rattle.file_questions.proofs.Asking.{file_long, asked_file}
use Rattle.file_numbers.proofs.Stored.{marks_count}
use Rattle.file_calls.proofs.Calls.{held, read_done}
use Rattle.table_calls.proofs.Call.{room_enough}
use lib.ListN.{length}
use mathlib.Core.Path.{sym, ap}
use native.Mathlib.Omega.{arith}
use Rattle.file_calls.proofs.read.Goals as goal

pub sizes_at-s-requires : goal.sizes_at-s-requires
sizes_at-s-requires c = file_long _ (asked_file _ (sym c.in_ok-ask_file.ensures))

pub put_sizes-requires : goal.put_sizes-requires
put_sizes-requires c = (room_enough _ _ _ _ (sym c.in_ok-ask_room.ensures)).0

pub read_numbers-requires : goal.read_numbers-requires
read_numbers-requires c = (
  held _ c.args.sizes.now c.args.variables.now c.args.marks.now c.in_ok-ask_file.ensures c.sizes_at-s.ensures,
  (room_enough _ _ _ _ (sym c.in_ok-ask_room.ensures)).1,
)

pub marks_at-requires : goal.marks_at-requires
marks_at-requires c = held _ c.args.sizes.now c.args.variables.now c.args.marks.now c.in_ok-ask_file.ensures c.sizes_at-s.ensures

pub put_bytes-requires : goal.put_bytes-requires
put_bytes-requires c =
    omega (
      arith,
      ap length c.marks_at.ensures,
      marks_count (held _ c.args.sizes.now c.args.variables.now c.args.marks.now c.in_ok-ask_file.ensures c.sizes_at-s.ensures),
      (room_enough _ _ _ _ (sym c.in_ok-ask_room.ensures)).2,
    )

pub returns : goal.returns
returns c =
    read_done _ _ _ _ c.in_ok-ask_file.ensures c.sizes_at-s.ensures c.in_ok-ask_room.ensures c.put_sizes.ensures c.read_numbers.ensures c.marks_at.ensures
    c.put_bytes.ensures
