-- The marks stand after the variables:
-- what is left of the file from 20 + 4L on (Stored.antt).
use Rattle.file_numbers.proofs.Stored.{marks_are}
use Rattle.file_numbers.proofs.marks_at.Goals as goal

pub returns : goal.returns
returns c = marks_are c.requires
