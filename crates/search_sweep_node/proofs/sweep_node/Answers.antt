-- A chop has two blocks, any other node one (Walk.antt of search_clauses).
-- Which it is, the code has asked.
use Rattle.search_visits.proofs.Parts.{visited_named}
use Rattle.search_clauses.proofs.Walk.{node_clauses_lem, node_mentioned}
use Rattle.search_sweep_node.proofs.sweep_node.Goals as goal

pub sweep_chop-requires : goal.sweep_chop-requires
sweep_chop-requires c =
    record { fine = c.requires.fine; all_mentioned = node_mentioned c.args.wiring.now.c c.args.wiring.now.k c.args.block c.is_chop.ensures c.if-is_chop.true c.requires.all_mentioned }

pub returns-then-is_chop : goal.returns-then-is_chop
returns-then-is_chop c =
    visited_named (node_clauses_lem c.args.wiring.now.c c.args.wiring.now.k c.args.block c.is_chop.ensures c.if-is_chop.true) c.sweep_chop.ensures

pub sweep_block-requires : goal.sweep_block-requires
sweep_block-requires c =
    record { bounded = ((c.requires.fine.0.bounded, c.requires.fine.0.points), c.requires.fine.1, c.requires.fine.2); all_mentioned = node_mentioned c.args.wiring.now.c c.args.wiring.now.k c.args.block c.is_chop.ensures c.if-is_chop.false c.requires.all_mentioned }

pub returns : goal.returns
returns c =
    visited_named (node_clauses_lem c.args.wiring.now.c c.args.wiring.now.k c.args.block c.is_chop.ensures c.if-is_chop.false) c.sweep_block.ensures
