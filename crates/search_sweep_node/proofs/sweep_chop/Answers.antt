-- The triples' block, then the intervals' (Walk.antt of search_clauses).
-- The intervals' gates go by the triples, which stand behind them.
use Rattle.table_blocks.specs.Blocks.{defined_by}
use Rattle.table_nodes.proofs.Nodes.{halves, triples_bounded, intervals_bounded}
use Rattle.table_nodes.proofs.Mentioned.{triples_mentioned, intervals_mentioned}
use Rattle.search_visits.proofs.Parts.{visited_named, visited_stop, visited_then}
use Rattle.search_clauses.proofs.Walk.{still, chop_clauses}
use Rattle.search_sweep_node.proofs.sweep_chop.Goals as goal

pub sweep_block-r-requires : goal.sweep_block-r-requires
sweep_block-r-requires c =
    let h = halves c.args.block c.beyond-w.ensures c.triples_of-triples.ensures c.intervals_of-intervals.ensures in
    record { bounded = (triples_bounded _ h c.requires.fine.0, c.requires.fine.1, c.requires.fine.2); all_mentioned = triples_mentioned _ h c.requires.all_mentioned }

pub returns-then-r : goal.returns-then-r
returns-then-r c =
    let h = halves c.args.block c.beyond-w.ensures c.triples_of-triples.ensures c.intervals_of-intervals.ensures in
    visited_named (chop_clauses _ h) (visited_stop c.sweep_block-r.ensures _ c.if-r.true)

pub sweep_block-requires : goal.sweep_block-requires
sweep_block-requires c =
    let h = halves c.args.block c.beyond-w.ensures c.triples_of-triples.ensures c.intervals_of-intervals.ensures in record { bounded = (intervals_bounded _ h c.requires.fine.0, c.sweep_block-r.ensures.grown.trailing, c.requires.fine.2); all_mentioned = still (defined_by c.args.wiring.now.c c.args.wiring.now.k c.intervals_of-intervals.result) c.sweep_block-r.auto.values (intervals_mentioned _ h c.requires.all_mentioned) }

pub returns : goal.returns
returns c =
    let h = halves c.args.block c.beyond-w.ensures c.triples_of-triples.ensures c.intervals_of-intervals.ensures in
    visited_named (chop_clauses _ h) (visited_then c.sweep_block-r.ensures _ c.if-r.false c.sweep_block.ensures)
