-- `bit_of` shifts the bit down to the lowest:
-- this digit is 1 exactly where the bit is.
use Rattle.paper_meaning.proofs.Words.{digit}
use Rattle.truth_word.proofs.bit_of.Goals as goal

pub returns : goal.returns
returns c = digit c.args.byte c.args.c
