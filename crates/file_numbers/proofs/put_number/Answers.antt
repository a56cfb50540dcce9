-- The four bytes of a number, stored from the place on:
-- they are its bytes by definition.
use Rattle.std.proofs.Common.{rules}
use Rattle.file_numbers.specs.File.{bytes_of}
use Rattle.file_numbers.proofs.put_number.Goals as goal

pub returns : goal.returns
unfolding bytes_of
returns c = search rules
