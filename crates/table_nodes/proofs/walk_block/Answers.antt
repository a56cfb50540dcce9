-- The gate at the cursor is that of the definition in its place,
-- whose clauses the turn writes (Walk.antt).
use Prim.Native.Nat.{◌-◌}
use native.Mathlib.Omega.{arith}
use Rattle.table_nodes.proofs.Walk.{walkable, one_less, gate_asked, gate_defined, walk_begun, walk_room, walk_turn, walk_done}
use Rattle.table_nodes.proofs.walk_block.Goals as goal

pub start-cursor-requires : goal.start-cursor-requires
start-cursor-requires c = let p = c.requires.bounded in (walkable p.0 p.1, p.2)

pub loop-cursor-init : goal.loop-cursor-init
loop-cursor-init c = walk_begun _ _ _ c.start-cursor.ensures.0 c.start-cursor.ensures.1

pub gate_at-gate-requires : goal.gate_at-gate-requires
gate_at-gate-requires c = let both = gate_asked c.requires.bounded.0 c.loop-cursor.invariant.walks c.loop-cursor-test.true c.requires.bounded.2 in record { bounded = both.0; placed = both.1 }

pub overflow_add-block : goal.overflow_add-block
overflow_add-block c =
    omega (arith, c.loop-cursor.invariant.walks.few, c.loop-cursor-test.true, c.requires.bounded.0.first)

pub put_gate-b-requires : goal.put_gate-b-requires
put_gate-b-requires c =
    let w = c.loop-cursor.invariant in let h = c.loop-cursor-test.true in
    let g = gate_defined c.requires.bounded.0 w.walks h c.gate_at-gate.ensures in record { room = walk_room _ _ _ w h g c.requires.room; within = g.within }

pub next-cursor-requires : goal.next-cursor-requires
next-cursor-requires c = let p = c.requires.bounded in (walkable p.0 p.1, c.loop-cursor.invariant.walks, c.loop-cursor-test.true)

pub loop-cursor-smaller : goal.loop-cursor-smaller
loop-cursor-smaller c = one_less c.loop-cursor.invariant.walks c.loop-cursor-test.true c.next-cursor.ensures.0 c.next-cursor.ensures.1

pub loop-cursor-preserved : goal.loop-cursor-preserved
loop-cursor-preserved c =
    let w = c.loop-cursor.invariant in let h = c.loop-cursor-test.true in
    walk_turn _ _ _ w h (gate_defined c.requires.bounded.0 w.walks h c.gate_at-gate.ensures) c.put_gate-b.ensures c.next-cursor.ensures

pub shape_of-variables : goal.shape_of-variables
shape_of-variables c = c.loop-cursor.invariant.sofar.long

pub shape_of-marks : goal.shape_of-marks
shape_of-marks c = c.loop-cursor.invariant.sofar.wide

pub returns : goal.returns
returns c = walk_done _ _ _ c.loop-cursor.invariant (omega (arith, c.loop-cursor-test.false))
