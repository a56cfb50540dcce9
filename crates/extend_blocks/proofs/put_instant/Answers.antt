-- `put_instant` writes one channel's bit a turn, at the channel's place,
-- and after the last turn all are written.
use native.Mathlib.Omega.{arith}
use Rattle.lists.proofs.Listing.{listed}
use Rattle.extend_blocks.proofs.put_instant.Goals as goal

pub returns : goal.returns
returns c = listed _ (omega arith) (λ y h. c.loop-c.invariant y (omega arith))
