-- Each arm computes its gate's value as the definition says it;
-- of any number of inputs one is high where the first high one is among them (Gates.antt).
use Rattle.paper_circuit.specs.Gates.{value_of}
use Rattle.check_gate.proofs.Gates.{first_some}
use Rattle.check_gate.proofs.value.Goals as goal

pub high-requires : goal.high-requires
high-requires c = rw c.in-Copy.is at c.requires.0

pub high-requires-in-Inverse : goal.high-requires-in-Inverse
high-requires-in-Inverse c = rw c.in-Inverse.is at c.requires.0

pub high-requires-in-Both : goal.high-requires-in-Both
high-requires-in-Both c = (rw c.in-Both.is at c.requires.0).0

pub high-requires-in-Both-2 : goal.high-requires-in-Both-2
high-requires-in-Both-2 c = (rw c.in-Both.is at c.requires.0).1

pub high-requires-in-Either : goal.high-requires-in-Either
high-requires-in-Either c = (rw c.in-Either.is at c.requires.0).0

pub high-requires-in-Either-2 : goal.high-requires-in-Either-2
high-requires-in-Either-2 c = (rw c.in-Either.is at c.requires.0).1

pub first_high-requires : goal.first_high-requires
first_high-requires c = let e = c.in-AnyOf.is in ((rw e at c.requires.1).1, rw e at c.requires.0)

pub high-requires-in-Step : goal.high-requires-in-Step
high-requires-in-Step c = (rw c.in-Step.is at c.requires.0).0

pub high-requires-in-Step-2 : goal.high-requires-in-Step-2
high-requires-in-Step-2 c = (rw c.in-Step.is at c.requires.0).1

pub high-requires-in-Step-3 : goal.high-requires-in-Step-3
high-requires-in-Step-3 c = (rw c.in-Step.is at c.requires.0).2

pub returns-in-Constant : goal.returns-in-Constant
unfolding value_of
returns-in-Constant c = rw c.in-Constant.is

pub returns-in-Copy : goal.returns-in-Copy
unfolding value_of
returns-in-Copy c = rw c.in-Copy.is (cc)

pub returns-in-Inverse : goal.returns-in-Inverse
unfolding value_of
returns-in-Inverse c = rw c.in-Inverse.is (cc)

pub returns-in-Both : goal.returns-in-Both
unfolding value_of
returns-in-Both c = rw c.in-Both.is (cc)

pub returns-in-Either : goal.returns-in-Either
unfolding value_of
returns-in-Either c = rw c.in-Either.is (cc)

pub returns-in-AnyOf : goal.returns-in-AnyOf
unfolding value_of
returns-in-AnyOf c = rw c.in-AnyOf.is (first_some _ c.first_high.ensures)

pub returns-in-Step : goal.returns-in-Step
unfolding value_of
returns-in-Step c = rw c.in-Step.is (cc)
