-- After so many turns the ruler and so many channels' lines are stored;
-- a turn stores the next behind them (Call.antt).
use mathlib.Core.Path.{◌∙◌}
use Prim.Native.Nat.{◌-◌, ◌≤◌}
use lib.ListN.{length}
use Rattle.strip_calls.proofs.Call.{Stored}
use Rattle.strip_calls.proofs.put_strip.Given as goal

abbrev pub invariant-loop-channel : goal.invariant-loop-channel
invariant-loop-channel l = (l.channel ≤ l.channels) × Stored (length l.recording) l.recording l.initial.strip l.channel l.strip

abbrev pub decreases-loop-channel : goal.decreases-loop-channel
decreases-loop-channel l = l.channels - l.channel
