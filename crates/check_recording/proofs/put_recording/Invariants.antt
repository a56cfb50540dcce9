-- `put_recording` fills its slice instant by instant,
-- and each byte is the recording's at that instant.
use mathlib.Core.Path.{◌≡◌}
use Prim.Native.Nat.{ℕ, ◌*◌, ◌^◌, ◌<◌}
use lib.ListN.{get_or}
use Rattle.lists.specs.Listing.{sum}
use Rattle.paper_meaning.specs.Meaning.{bit}
use Rattle.paper_circuit.specs.Circuit.{channel_of}
use Rattle.paper_assignments.specs.Extension.{value_in}
use Rattle.check_recording.proofs.put_recording.Given as goal

abbrev pub invariant-loop-t : goal.invariant-loop-t
invariant-loop-t l = (y : ℕ) → y < l.t → get_or l.out y 0 ≡ sum (λ b. bit (value_in l.assignment (channel_of l.c y b)) * 2 ^ b) l.c
