-- After so many turns the ruler and so many channels' lines are stored;
-- a turn stores the next behind them (Call.antt).
use mathlib.Core.Path.{◌∙◌}
use Prim.Native.Nat.{◌-◌, ◌≤◌}
use native.Mathlib.Omega.{arith}
use Rattle.strip_calls.proofs.Call.{begun, turn, ruled_long, long, done}
use Rattle.strip_calls.proofs.put_strip.Goals as goal

pub put_at-requires : goal.put_at-requires
put_at-requires c = (omega (arith, c.requires.2), c.requires.1, tt)

pub loop-channel-init : goal.loop-channel-init
loop-channel-init c = (omega arith, begun _ _)

pub put_at-requires-in-loop-channel : goal.put_at-requires-in-loop-channel
put_at-requires-in-loop-channel c =
    let t = c.loop-channel-test.true in
    let e = ruled_long _ _ c.args.strip.now c.put_at.ensures in
    (omega (arith, c.requires.2, long _ _ c.loop-channel.invariant.1, e, t), c.requires.1, omega (arith, c.requires.0, t))

pub loop-channel-preserved : goal.loop-channel-preserved
loop-channel-preserved c =
    (omega (arith, c.loop-channel-test.true), turn _ _ c.requires.1 c.loop-channel.invariant.1 c.put_at-in-loop-channel.ensures)

pub shape_of-strip : goal.shape_of-strip
shape_of-strip c =
    long _ _ c.loop-channel.invariant.1 ∙ ruled_long _ _ c.args.strip.now c.put_at.ensures

pub returns : goal.returns
returns c =
    done _ _ c.args.strip.now c.args.channels c.requires.1 c.put_at.ensures c.loop-channel.invariant.1 (omega (arith, c.loop-channel.invariant.0, c.loop-channel-test.false)) c.requires.2
