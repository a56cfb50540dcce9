-- `evaluate` is refused as its questions say, the text's before the interval's and the recording's; otherwise its answer is the root's
-- truth, since the tree that the text reads as stands in the node table (Laws.antt).
use Rattle.truth_calls.proofs.Laws.{answered}
use Rattle.truth_calls.proofs.evaluate.Goals as goal

pub returns : goal.returns
returns c = answered _ _ _ c.args.i c.args.j _ c.in_ok-table.ensures c.in_ok-v.ensures c.verdict_on.ensures
