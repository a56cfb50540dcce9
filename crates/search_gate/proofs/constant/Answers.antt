-- By the test.
-- Its two ways are the two constants.
use mathlib.Core.Path.{refl}
use mathlib.Core.Logic.{inl, inr}
use Rattle.search_gate.proofs.constant.Goals as goal

pub returns-then-up : goal.returns-then-up
returns-then-up c = inl (refl, c.if-up.true)

pub returns-else-up : goal.returns-else-up
returns-else-up c = inr (refl, c.if-up.false)
