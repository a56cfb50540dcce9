-- The triples' block is written, then the intervals', as the definition lists them;
-- both are bounded, since the node's block is fine (Nodes.antt).
use Rattle.table_nodes.proofs.Nodes.{halves, room_triples, room_intervals, wrote_chopped, triples_bounded, intervals_bounded}
use Rattle.table_nodes.proofs.put_chop.Goals as goal

pub put_block-b-requires : goal.put_block-b-requires
put_block-b-requires c =
    let h = halves c.args.block c.beyond-w.ensures c.triples_of-triples.ensures c.intervals_of-intervals.ensures in
    let f = triples_bounded _ h c.requires.fine.0 in record { room = room_triples _ h c.requires.room; bounded = (f.0, f.1, c.requires.fine.1) }

pub put_block-requires : goal.put_block-requires
put_block-requires c =
    let h = halves c.args.block c.beyond-w.ensures c.triples_of-triples.ensures c.intervals_of-intervals.ensures in
    let f = intervals_bounded _ h c.requires.fine.0 in record { room = room_intervals _ h c.requires.room c.put_block-b.ensures; bounded = (f.0, f.1, c.requires.fine.1) }

pub returns : goal.returns
returns c =
    wrote_chopped _ (halves c.args.block c.beyond-w.ensures c.triples_of-triples.ensures c.intervals_of-intervals.ensures) c.put_block-b.ensures c.put_block.ensures
