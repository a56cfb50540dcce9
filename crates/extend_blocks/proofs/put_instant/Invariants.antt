-- `put_instant` writes one channel's bit a turn, at the channel's place,
-- and after the last turn all are written.
use mathlib.Core.Path.{◌≡◌}
use Prim.Native.Nat.{ℕ, ◌<◌}
use lib.ListN.{get_or}
use Rattle.paper_meaning.specs.Meaning.{bit, bit_at}
use Rattle.extend_blocks.proofs.put_instant.Given as goal

abbrev pub invariant-loop-c : goal.invariant-loop-c
invariant-loop-c l = (y : ℕ) → y < l.c → get_or l.out y 0 ≡ bit (bit_at l.byte y)
