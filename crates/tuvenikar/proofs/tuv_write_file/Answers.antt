-- The call's answer is packed as its definition says;
-- the file is left as the call leaves it.
use Rattle.tuvenikar.proofs.Left.{file_left}
use Rattle.tuvenikar.proofs.tuv_write_file.Goals as goal

pub returns : goal.returns
returns c = file_left c.write.ensures c.pack_written.ensures
