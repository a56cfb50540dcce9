-- The call's answer is packed as its definition says;
-- the strip is left as the call leaves it.
use Rattle.tuvenikar.proofs.Left.{strip_left}
use Rattle.tuvenikar.proofs.tuv_strip.Goals as goal

pub returns : goal.returns
returns c = strip_left c.strip.ensures c.pack_printed.ensures
