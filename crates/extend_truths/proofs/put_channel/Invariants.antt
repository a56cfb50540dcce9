-- `put_channel` stores the channel's bit of the recording's byte t at turn t, and past the recording's end of a 0,
-- as the definition has it: the slice is filled by these.
use mathlib.Core.Path.{◌≡◌}
use Prim.Native.Nat.{ℕ, ◌<◌}
use lib.ListN.{get_or}
use Rattle.paper_meaning.specs.Meaning.{bit, bit_at}
use Rattle.extend_truths.proofs.put_channel.Given as goal

abbrev pub invariant-loop-t : goal.invariant-loop-t
invariant-loop-t l = (y : ℕ) → y < l.t → get_or l.out y 0 ≡ bit (bit_at (get_or l.recording y 0) l.c)
