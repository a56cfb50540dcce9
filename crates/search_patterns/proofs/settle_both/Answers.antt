-- It is the pattern of such gates, over its variables (Steps.antt).
-- There is no fourth.
use Rattle.search_patterns.proofs.Steps.{patterns, settled_named}
use Rattle.search_patterns.proofs.settle_both.Goals as goal

pub returns : goal.returns
returns c =
    let s = c.args in settled_named (patterns s.v s.x s.y 0).2 c.settle_by.ensures
