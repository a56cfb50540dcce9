-- `count_high` counts the ones under the window: these are the highs of its instants,
-- and there are no more of them than instants.
use Rattle.truth_word.proofs.Words.{ones_window}
use Rattle.truth_word.proofs.count_high.Goals as goal

pub returns : goal.returns
returns c = ones_window c.args.word c.requires.0 c.window.ensures
