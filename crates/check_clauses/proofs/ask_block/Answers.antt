-- The gate at the cursor is that of the definition in its place: the first gate
-- with an unmet clause answers, and else the next clause's number is how many there were (Walk.antt).
use native.Mathlib.Omega.{arith}
use Rattle.std.proofs.lemmas.Result.{err_from_is_err_and}
use Rattle.table_nodes.proofs.Walk.{walkable, one_less, all_defined, gate_asked, gate_defined}
use Rattle.check_clauses.proofs.Walk.{met_begun, met_done, gate_asks, gate_few, block_turn, block_stopped}
use Rattle.check_clauses.proofs.ask_block.Goals as goal

pub start-cursor-requires : goal.start-cursor-requires
start-cursor-requires c = let s = c.requires.bounded in (walkable s.0.0 s.0.1, s.2)

pub loop-cursor-init : goal.loop-cursor-init
loop-cursor-init c = let e = c.start-cursor.ensures in (e.0, met_begun e.1)

pub gate_at-gate-requires : goal.gate_at-gate-requires
gate_at-gate-requires c = let both = gate_asked c.requires.bounded.0.0 c.loop-cursor.invariant.0 c.loop-cursor-test.true c.requires.bounded.2 in record { bounded = both.0; placed = both.1 }

pub overflow_add-block : goal.overflow_add-block
overflow_add-block c =
    omega (arith, c.loop-cursor.invariant.0.few, c.loop-cursor-test.true, c.requires.bounded.0.0.first)

pub ask_gate-requires : goal.ask_gate-requires
ask_gate-requires c =
    let i = c.loop-cursor.invariant in
    gate_asks c.requires.bounded.0 i.0 i.1 c.loop-cursor-test.true (gate_defined c.requires.bounded.0.0 i.0 c.loop-cursor-test.true c.gate_at-gate.ensures) c.requires.all_mentioned c.requires.bounded.1

pub returns-in_err-ask_gate : goal.returns-in_err-ask_gate
returns-in_err-ask_gate c =
    let p = err_from_is_err_and c.from_residual.result c.from_residual.ensures.1 in
    let i = c.loop-cursor.invariant in
    rw (p.1, p.2) (block_stopped c.requires.bounded.0 i.0 i.1 c.loop-cursor-test.true (gate_defined c.requires.bounded.0.0 i.0 c.loop-cursor-test.true c.gate_at-gate.ensures)
    c.ask_gate.ensures c.in_err-ask_gate.was)

pub clause_count-m-requires : goal.clause_count-m-requires
clause_count-m-requires c =
    let i = c.loop-cursor.invariant in (gate_few c.requires.bounded.0 i.0 i.1 c.loop-cursor-test.true (gate_defined c.requires.bounded.0.0 i.0 c.loop-cursor-test.true c.gate_at-gate.ensures)).0

pub overflow_add-m : goal.overflow_add-m
overflow_add-m c =
    let i = c.loop-cursor.invariant in
    omega (
      arith,
      (gate_few c.requires.bounded.0 i.0 i.1 c.loop-cursor-test.true
          (gate_defined c.requires.bounded.0.0 i.0 c.loop-cursor-test.true c.gate_at-gate.ensures)).1,
      c.clause_count-m.ensures,
      c.requires.bounded.1,
    )

pub next-cursor-requires : goal.next-cursor-requires
next-cursor-requires c = let s = c.requires.bounded.0 in (walkable s.0 s.1, c.loop-cursor.invariant.0, c.loop-cursor-test.true)

pub loop-cursor-smaller : goal.loop-cursor-smaller
loop-cursor-smaller c = one_less c.loop-cursor.invariant.0 c.loop-cursor-test.true c.next-cursor.ensures.0 c.next-cursor.ensures.1

pub loop-cursor-preserved : goal.loop-cursor-preserved
loop-cursor-preserved c =
    let i = c.loop-cursor.invariant in let e = c.next-cursor.ensures in (
      e.0,
      block_turn c.requires.bounded.0 i.0 i.1 c.loop-cursor-test.true (gate_defined c.requires.bounded.0.0 i.0 c.loop-cursor-test.true c.gate_at-gate.ensures)
          c.ask_gate.ensures c.in_ok-ask_gate.was c.clause_count-m.ensures e.1,
    )

pub returns : goal.returns
returns c =
    let i = c.loop-cursor.invariant in met_done i.1 (omega (arith, all_defined c.args.c i.0, c.loop-cursor-test.false))
