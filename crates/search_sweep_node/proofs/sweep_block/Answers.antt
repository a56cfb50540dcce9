-- The gate at the cursor is that of the definition in its place, whose clauses the turn visits (Walk.antt of search_clauses).
-- After the last turn all of the block is visited.
use mathlib.Core.Path.{refl, sym, ap, ◌∙◌}
use Prim.Native.Nat.{ℕ}
use native.Mathlib.Omega.{arith}
use Rattle.lists.specs.Listing.{rows}
use Rattle.table_blocks.specs.Blocks.{defined_by}
use Rattle.table_nodes.proofs.Walk.{walkable, one_less, all_defined, gate_asked, gate_defined}
use Rattle.search_visits.proofs.Parts.{visited_named}
use Rattle.search_visits.proofs.Loops.{loop_begun, loop_turn, loop_stop, loop_done}
use Rattle.search_clauses.specs.Clauses.{clauses_at}
use Rattle.search_clauses.proofs.Walk.{clauses_at_lem, asks_at, whole_block, still}
use Rattle.search_sweep_node.proofs.sweep_block.Goals as goal

pub start-cursor-requires : goal.start-cursor-requires
start-cursor-requires c = let s = c.requires.bounded in (walkable s.0.0 s.0.1, c.requires.bounded.2)

pub loop-cursor-init : goal.loop-cursor-init
loop-cursor-init c =
    let e = c.start-cursor.ensures in (
      refl,
      refl,
      omega (arith, e.1),
      e.0,
      visited_named (ap (λ (n : ℕ). rows n (clauses_at (defined_by c.args.wiring.now.c c.args.wiring.now.k c.args.block))) (sym e.1))
          (loop_begun _ c.requires.bounded.1),
    )

pub gate_at-gate-requires : goal.gate_at-gate-requires
gate_at-gate-requires c = let both = gate_asked c.requires.bounded.0.0 c.loop-cursor.invariant.3 c.loop-cursor-test.true c.requires.bounded.2 in record { bounded = both.0; placed = both.1 }

pub overflow_add-block : goal.overflow_add-block
overflow_add-block c = omega (arith, c.loop-cursor.invariant.3.few, c.loop-cursor-test.true, c.requires.bounded.0.0.first)

pub visit-r-requires : goal.visit-r-requires
visit-r-requires c =
    let i = c.loop-cursor.invariant in
    let D = defined_by c.args.wiring.now.c c.args.wiring.now.k c.args.block in
    let a = asks_at (gate_defined c.requires.bounded.0.0 i.3 c.loop-cursor-test.true c.gate_at-gate.ensures) (omega (arith, all_defined c.args.wiring.now.c i.3, c.loop-cursor-test.true))
    (still D i.0 c.requires.all_mentioned) in
    (i.4.grown.trailing, a.0, a.1, a.2)

pub returns-then-r : goal.returns-then-r
returns-then-r c =
    let i = c.loop-cursor.invariant in
    visited_named (whole_block _ i.3) (loop_stop _ _ i.4 (clauses_at_lem (gate_defined c.requires.bounded.0.0 i.3 c.loop-cursor-test.true c.gate_at-gate.ensures))
    c.visit-r.ensures _ c.loop-cursor-test.true c.if-r.true)

pub next-cursor-requires : goal.next-cursor-requires
next-cursor-requires c = let s = c.requires.bounded.0 in (walkable s.0 s.1, c.loop-cursor.invariant.3, c.loop-cursor-test.true)

pub loop-cursor-smaller : goal.loop-cursor-smaller
loop-cursor-smaller c = one_less c.loop-cursor.invariant.3 c.loop-cursor-test.true c.next-cursor.ensures.0 c.next-cursor.ensures.1

pub loop-cursor-preserved : goal.loop-cursor-preserved
loop-cursor-preserved c =
    let i = c.loop-cursor.invariant in let e = c.next-cursor.ensures in let s = c.args in (
      c.visit-r.auto.values ∙ i.0,
      c.visit-r.auto.trail ∙ i.1,
      omega (arith, c.loop-cursor-test.true, i.3.whole, e.0.whole, e.1),
      e.0,
      visited_named (ap (λ (n : ℕ). rows n (clauses_at (defined_by s.wiring.now.c s.wiring.now.k s.block))) (sym e.1))
          (loop_turn _ _ i.4 (clauses_at_lem (gate_defined c.requires.bounded.0.0 i.3 c.loop-cursor-test.true c.gate_at-gate.ensures)) c.visit-r.ensures c.if-r.false),
    )

pub returns : goal.returns
returns c = let i = c.loop-cursor.invariant in visited_named (whole_block _ i.3) (loop_done _ _ _ i.2 (omega (arith, c.loop-cursor-test.false)) i.4)
