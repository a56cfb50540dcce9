-- `put_file` hands the sizes and the first L places to the writer of the file,
-- and answers how long such a file is.
use mathlib.Core.Path.{sym, ap}
use lib.Seq.{length-take-le}
use Rattle.file_calls.specs.Calls.{FileAfter}
use Rattle.file_line.proofs.put_file.Goals as goal

pub slice_bounds-write-end : goal.slice_bounds-write-end
slice_bounds-write-end c = sym (length-take-le _ _ c.requires.0)

pub slice_bounds-write-end-2 : goal.slice_bounds-write-end-2
slice_bounds-write-end-2 c = sym (length-take-le _ _ c.requires.1)

pub returns : goal.returns
returns c = (c.file_length.ensures, ap (λ (x : FileAfter). x.file) c.write.ensures)
