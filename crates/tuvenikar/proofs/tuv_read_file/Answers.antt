-- The call's answer is packed as its definition says;
-- the arrays are left as the call leaves them.
use Rattle.tuvenikar.proofs.Left.{table_left_lem}
use Rattle.tuvenikar.proofs.tuv_read_file.Goals as goal

pub returns : goal.returns
returns c = table_left_lem c.read.ensures c.pack_written.ensures
