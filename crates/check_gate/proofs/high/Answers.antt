-- Variable v is byte v − 1, as the definition says;
-- the byte is there, since v is one of as many variables.
use mathlib.Core.Path.{refl}
use Rattle.paper_assignments.specs.Extension.{value_in}
use Rattle.check_gate.proofs.high.Goals as goal

pub returns : goal.returns
unfolding value_in
returns c = refl
