-- The number of the four bytes that stand at the place and after it;
-- it is the number there by definition.
use Rattle.std.proofs.Common.{arith, ◌∙◌}
use Rattle.file_numbers.specs.File.{number_at}
use Rattle.file_numbers.proofs.number_at.Goals as goal

pub returns : goal.returns
unfolding number_at
returns c = c.from_le_bytes.ensures ∙ omega arith
