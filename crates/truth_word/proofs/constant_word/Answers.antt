-- `constant_word` has every bit set for `T` and none for `F`:
-- each instant has the truth that was asked for.
use mathlib.Core.Bool.{true, false}
use native.Mathlib.Omega.{arith}
use Rattle.truth_word.proofs.Words.{width, word_constant}
use Rattle.truth_word.proofs.constant_word.Goals as goal

pub returns-then-up : goal.returns-then-up
returns-then-up c = λ k h. simp c.if-up.true (word_constant width true (omega arith))

pub returns-else-up : goal.returns-else-up
returns-else-up c = λ k h. simp c.if-up.false (word_constant width false (omega arith))
