-- The call's answer is packed as its definition says;
-- the assignment is left as the call leaves it.
use Rattle.tuvenikar.proofs.Left.{assignment_left}
use Rattle.tuvenikar.proofs.tuv_extend.Goals as goal

pub returns : goal.returns
returns c = assignment_left c.extend.ensures c.pack_written.ensures
