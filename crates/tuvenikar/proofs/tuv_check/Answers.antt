-- The call's answer is packed as its definition says;
-- the recording's array is left as the call leaves it.
use Rattle.tuvenikar.proofs.Left.{recording_left}
use Rattle.tuvenikar.proofs.tuv_check.Goals as goal

pub returns : goal.returns
returns c = recording_left c.check.ensures c.pack_checked.ensures
