-- By the test.
-- A literal that is opposed is not free.
use mathlib.Core.Path.{refl}
use mathlib.Core.Logic.{inl, inr}
use Rattle.search_visits.proofs.one_free.Goals as goal

pub returns-then-opposed : goal.returns-then-opposed
returns-then-opposed c = inl (refl, c.if-opposed.true)

pub returns-else-opposed : goal.returns-else-opposed
returns-else-opposed c = inr (refl, c.if-opposed.false)
