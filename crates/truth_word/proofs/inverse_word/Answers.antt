-- `inverse_word` compares each bit with 1:
-- one that differs is 0, so an instant is high where it was low.
use native.Mathlib.Omega.{arith}
use Rattle.truth_word.proofs.Words.{width, word_inverse}
use Rattle.truth_word.proofs.inverse_word.Goals as goal

pub returns : goal.returns
returns c = λ k f h. word_inverse width (omega arith)
