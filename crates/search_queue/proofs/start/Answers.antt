-- Every gate is visited once, and what that added is the queue (Swept.antt).
-- A clash on the way is one of the closure of nothing.
use Rattle.search_queue.proofs.Swept.{swept_clash, swept_pending, swept_closed}
use Rattle.search_fanout.proofs.Ground.{ground_still}
use Rattle.search_queue.proofs.start.Goals as goal

pub sweep-r-requires : goal.sweep-r-requires
sweep-r-requires c =
    let g = c.requires.on_ground in
    record { limits = (g.channels, g.steps, g.few, g.low, c.requires.trailing, c.requires.tabled.0.rows_of); variable = g.root; by_index = g.mentioned }

pub returns-then-r : goal.returns-then-r
returns-then-r c = swept_clash c.sweep-r.ensures c.if-r.true

pub close-requires : goal.close-requires
close-requires c =
    record { on_ground = ground_still c.sweep-r.auto.values c.requires.on_ground; pending = swept_pending c.sweep-r.ensures c.if-r.false; tabled = c.requires.tabled }

pub returns : goal.returns
returns c =
    swept_closed c.sweep-r.ensures c.if-r.false c.close.ensures
