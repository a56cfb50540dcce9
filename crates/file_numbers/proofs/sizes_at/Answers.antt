-- The five numbers at 0, 4, 8, 12 and 16:
-- they are the sizes by definition.
use Rattle.std.proofs.Common.{rules}
use Rattle.file_numbers.specs.File.{sizes_at}
use Rattle.file_numbers.proofs.sizes_at.Goals as goal

pub returns : goal.returns
unfolding sizes_at
returns c = search rules
