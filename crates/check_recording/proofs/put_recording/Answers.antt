-- `put_recording` fills its slice instant by instant,
-- and each byte is the recording's at that instant.
use native.Mathlib.Omega.{arith}
use Rattle.lists.proofs.Listing.{listed}
use Rattle.paper_assignments.specs.Extension.{recording_by}
use Rattle.check_recording.proofs.put_recording.Goals as goal

pub returns : goal.returns
unfolding recording_by
returns c = listed _ (omega arith) (λ y h. c.loop-t.invariant y (omega arith))
