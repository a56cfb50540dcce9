-- Each way through the code gives the number that the gate's table has for it;
-- that this is the first unmet clause's is shown there (Gates.antt).
use mathlib.Core.Path.{refl, sym}
use Rattle.check_gate.proofs.Gates.{unmet_known}
use Rattle.check_gate.proofs.first_unmet.Goals as goal

pub high-requires : goal.high-requires
high-requires c = (rw c.in-Both.is at c.requires.0).0

pub high-requires-else-up-3 : goal.high-requires-else-up-3
high-requires-else-up-3 c = (rw c.in-Either.is at c.requires.0).0

pub first_high-requires : goal.first_high-requires
first_high-requires c = let e = c.in-AnyOf.is in ((rw e at c.requires.1).1, rw e at c.requires.0)

pub high-requires-then-up-4 : goal.high-requires-then-up-4
high-requires-then-up-4 c = (rw c.in-Step.is at c.requires.0).1

pub high-requires-else-up-4 : goal.high-requires-else-up-4
high-requires-else-up-4 c = (rw c.in-Step.is at c.requires.0).0

pub returns-in-Constant : goal.returns-in-Constant
returns-in-Constant c = unmet_known _ _ c.in-Constant.is refl

pub returns-then-up : goal.returns-then-up
returns-then-up c = unmet_known _ _ c.in-Copy.is (rw c.if-up.true)

pub returns-else-up : goal.returns-else-up
returns-else-up c = unmet_known _ _ c.in-Copy.is (rw c.if-up.false)

pub returns-then-up-2 : goal.returns-then-up-2
returns-then-up-2 c = unmet_known _ _ c.in-Inverse.is (rw c.if-up-2.true)

pub returns-else-up-2 : goal.returns-else-up-2
returns-else-up-2 c = unmet_known _ _ c.in-Inverse.is (rw c.if-up-2.false)

pub returns-then-not-up : goal.returns-then-not-up
returns-then-not-up c = unmet_known _ _ c.in-Both.is (rw c.if-not-up.true)

pub returns-then-high : goal.returns-then-high
returns-then-high c =
    unmet_known _ _ c.in-Both.is
    (rw (
      c.if-not-up.false,
      sym c.high.ensures,
      c.if-high.true,
    ))

pub returns-else-high : goal.returns-else-high
returns-else-high c =
    unmet_known _ _ c.in-Both.is
    (rw (
      c.if-not-up.false,
      sym c.high.ensures,
      c.if-high.false,
    ))

pub returns-then-up-3 : goal.returns-then-up-3
returns-then-up-3 c = unmet_known _ _ c.in-Either.is (rw c.if-up-3.true)

pub returns-then-high-2 : goal.returns-then-high-2
returns-then-high-2 c = unmet_known _ _ c.in-Either.is (rw (c.if-up-3.false, sym c.high-else-up-3.ensures, c.if-high-2.true))

pub returns-else-high-2 : goal.returns-else-high-2
returns-else-high-2 c = unmet_known _ _ c.in-Either.is (rw (c.if-up-3.false, sym c.high-else-up-3.ensures, c.if-high-2.false))

pub returns-in-AnyOf : goal.returns-in-AnyOf
returns-in-AnyOf c = unmet_known _ _ c.in-AnyOf.is c.first_high.ensures

pub returns-then-high-3 : goal.returns-then-high-3
returns-then-high-3 c = unmet_known _ _ c.in-Step.is (rw (c.if-up-4.true, sym c.high-then-up-4.ensures, c.if-high-3.true))

pub returns-else-high-3 : goal.returns-else-high-3
returns-else-high-3 c = unmet_known _ _ c.in-Step.is (rw (c.if-up-4.true, sym c.high-then-up-4.ensures, c.if-high-3.false))

pub returns-then-high-4 : goal.returns-then-high-4
returns-then-high-4 c = unmet_known _ _ c.in-Step.is (rw (c.if-up-4.false, sym c.high-else-up-4.ensures, c.if-high-4.true))

pub returns-else-high-4 : goal.returns-else-high-4
returns-else-high-4 c = unmet_known _ _ c.in-Step.is (rw (c.if-up-4.false, sym c.high-else-up-4.ensures, c.if-high-4.false))
