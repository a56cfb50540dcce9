-- Node after node, each by its row's block.
-- The clauses of the first x nodes are visited after x turns.
use mathlib.Core.Path.{refl, ◌∙◌}
use native.Mathlib.Omega.{arith}
use Rattle.search_visits.proofs.Loops.{loop_begun, loop_turn, loop_stop, loop_done}
use Rattle.search_clauses.proofs.Walk.{row_mentioned, row_clauses_lem}
use Rattle.search_sweeps.proofs.sweep_nodes.Goals as goal

pub loop-x-init : goal.loop-x-init
loop-x-init c = (refl, refl, omega arith, loop_begun _ c.requires.limits.4)

pub block_at-block-requires : goal.block_at-block-requires
block_at-block-requires c = let s = c.requires.limits in (s.1, omega (arith, s.2, c.loop-x-test.true), s.3)

pub sweep_node-r-requires : goal.sweep_node-r-requires
sweep_node-r-requires c =
    let i = c.loop-x.invariant in let w = c.args.wiring.now in record {
      fine = (c.block_at-block.ensures.by_index _ c.requires.limits.0, i.3.grown.trailing, c.requires.limits.5);
      all_mentioned = row_mentioned w.c w.k _ _ _ _ _ c.block_at-block.result c.block_at-block.ensures.value i.0 (c.requires.by_index _ c.loop-x-test.true);
    }

pub returns-then-r : goal.returns-then-r
returns-then-r c =
    let i = c.loop-x.invariant in let w = c.args.wiring.now in
    loop_stop _ _ i.3 (row_clauses_lem w.c w.k _ _ _ _ _ c.block_at-block.result c.block_at-block.ensures.value) c.sweep_node-r.ensures _
    c.loop-x-test.true c.if-r.true

pub loop-x-preserved : goal.loop-x-preserved
loop-x-preserved c =
    let i = c.loop-x.invariant in let w = c.args.wiring.now in (
      c.sweep_node-r.auto.values ∙ i.0,
      c.sweep_node-r.auto.trail ∙ i.1,
      omega (arith, c.loop-x-test.true),
      loop_turn _ _ i.3 (row_clauses_lem w.c w.k _ _ _ _ _ c.block_at-block.result c.block_at-block.ensures.value) c.sweep_node-r.ensures
          c.if-r.false,
    )

pub returns : goal.returns
returns c = let i = c.loop-x.invariant in loop_done _ _ _ i.2 (omega (arith, c.loop-x-test.false)) i.3
