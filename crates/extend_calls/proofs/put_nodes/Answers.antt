-- After each turn the values of all nodes from row x on are written, the last node's first;
-- a node's block is handed what its parts' truth makes of it, and these stand after it (Rows.antt).
use Rattle.extend_calls.proofs.Rows.{extending_begun, extending_done, block_fits, extending_turn}
use native.Mathlib.Omega.{arith}
use borrow.Author.Rules.{rules}
use Rattle.extend_calls.proofs.put_nodes.Goals as goal

pub loop-x-init : goal.loop-x-init
loop-x-init c = extending_begun c.requires.k_le_max_steps.2

pub put_node-requires : goal.put_node-requires
put_node-requires c =
    let e = c.block_at-block.ensures in
    let f = block_fits c.loop-x.invariant (search rules) e.value c.requires.by_index.0 c.requires.by_index.1 (e.by_index 0 (omega arith)) in
    (c.requires.k_le_max_steps.0, f, c.requires.k_le_max_steps.4)

pub overflow_sub-end : goal.overflow_sub-end
overflow_sub-end c =
    let e = c.block_at-block.ensures in
    (block_fits c.loop-x.invariant (search rules) e.value c.requires.by_index.0 c.requires.by_index.1 (e.by_index 0 (omega arith))).0

pub loop-x-preserved : goal.loop-x-preserved
loop-x-preserved c =
    extending_turn c.loop-x.invariant (search rules) c.block_at-block.ensures.value c.requires.by_index.0 c.requires.by_index.1 c.requires.k_le_max_steps.2 (search rules) c.put_node.ensures

pub returns : goal.returns
returns c = extending_done c.loop-x.invariant (omega (arith, c.loop-x-test.false))
