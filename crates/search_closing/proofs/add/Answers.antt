-- A literal that has its value is there, since it is not opposed;
-- one that has none gets it, and the trail has room for it (Trail.antt, Held.antt).
use Prim.Native.Nat.{◌<◌}
use native.Mathlib.Omega.{arith}
use lib.ListN.{length}
use Rattle.search_closing.proofs.Trail.{held_le, trail_room}
use Rattle.search_closing.proofs.Held.{added_there, added_one}
use Rattle.search_closing.proofs.add.Goals as goal

pub returns-then-values-x-ne-OPEN : goal.returns-then-values-x-ne-OPEN
returns-then-values-x-ne-OPEN c =
    added_there c.requires.2 _ c.args.mark _ c.place-x.ensures c.if-values-x-ne-OPEN.true c.requires.3

pub hold-requires : goal.hold-requires
hold-requires c =
    let h : c.place-x.result < length c.args.values.now = omega arith in
    (h, trail_room c.requires.2 _ h c.if-values-x-ne-OPEN.false, omega arith)

pub overflow_add-result : goal.overflow_add-result
overflow_add-result c = omega (arith, c.requires.2.full, c.requires.2.room, held_le c.args.values.now)

pub returns : goal.returns
returns c =
    added_one c.requires.2 _ _ _ c.place-x.ensures (omega (arith, c.place-x.ensures, c.requires.1)) c.if-values-x-ne-OPEN.false c.hold.ensures.values_value c.hold.ensures.trail_value
