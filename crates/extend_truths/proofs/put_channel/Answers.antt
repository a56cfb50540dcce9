-- `put_channel` stores the channel's bit of the recording's byte t at turn t, and past the recording's end of a 0,
-- as the definition has it: the slice is filled by these.
use native.Mathlib.Omega.{arith}
use Rattle.paper_meaning.specs.Meaning.{channel_at}
use Rattle.lists.proofs.Listing.{listed}
use Rattle.extend_truths.proofs.put_channel.Goals as goal

pub returns : goal.returns
unfolding channel_at
returns c = listed _ (omega arith) (λ y h. c.loop-t.invariant y (omega arith))
