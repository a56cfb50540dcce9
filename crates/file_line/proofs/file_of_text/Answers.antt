-- `file_of_text` has the table written to arrays of its own, and then the file:
-- the table's questions are the program's, and where they are refused nothing is written (File.antt).
use mathlib.Core.Path.{refl, sym}
use Rattle.file_line.proofs.File.{same_output, none_refused, room, file_done}
use Rattle.file_line.proofs.file_of_text.Goals as goal

pub put_file-requires : goal.put_file-requires
put_file-requires c = room _ _ _ _ c.table.ensures c.in-Ok.is

pub returns-in-Ok : goal.returns-in-Ok
returns-in-Ok c =
    file_done _ _ _ _ c.table.ensures c.in-Ok.is _ c.put_file-arg-1.given.0.1 c.put_file.ensures.0 c.put_file.ensures.1

pub returns-in-Err : goal.returns-in-Err
returns-in-Err c = same_output _ (sym (none_refused _ _ _ _ c.table.ensures _ c.in-Err.is)) (refl, refl)
