-- The call's answer is packed as its definition says;
-- the arrays are left as the call leaves them.
use Rattle.tuvenikar.proofs.Left.{table_left_lem}
use Rattle.tuvenikar.proofs.tuv_table.Goals as goal

pub returns : goal.returns
returns c = table_left_lem c.table.ensures c.pack_written.ensures
