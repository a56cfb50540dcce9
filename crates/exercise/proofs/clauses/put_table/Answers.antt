-- `put_table` has the table written to arrays of its own:
-- where it is written, its L literals lie within either (file_line's law `room`).
use Rattle.file_line.proofs.File.{room}
use Rattle.exercise.proofs.clauses.put_table.Goals as goal

pub put_written-requires : goal.put_written-requires
put_written-requires g c = room _ _ _ _ c.table-written.ensures c.in-Ok.is
