-- A turn reads the file's next variable, the number at its place,
-- and there are as many as the part that they go to has places (Stored.antt).
use Rattle.std.proofs.Common.{rules}
use Rattle.file_numbers.proofs.Stored.{read_turn, read_done}
use Rattle.file_numbers.proofs.read_numbers.Goals as goal

pub loop-e-preserved : goal.loop-e-preserved
loop-e-preserved c = read_turn c.requires.0 _ _ (search rules) (search rules) c.number_at.ensures c.loop-e.invariant

pub returns : goal.returns
returns c = read_done c.requires.0 _ _ c.requires.1 (search rules) (search rules) c.loop-e.invariant
