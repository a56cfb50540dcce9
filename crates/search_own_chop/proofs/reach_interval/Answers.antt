-- The interval in place x is decoded; the triples before its own are those of the starts before and of the shorter intervals of its start.
-- Of a chop only its own gate mentions the variable.
use mathlib.Core.Path.{refl}
use native.Mathlib.Omega.{arith}
use Rattle.table_nodes.proofs.Nodes.{halves}
use Rattle.search_visits.proofs.Parts.{visited_named}
use Rattle.search_fanout.proofs.Cover.{reached}
use Rattle.search_fanout.proofs.Chops.{interval_suffices}
use Rattle.search_fanout.proofs.Stands.{intervals_stand}
use Rattle.search_own_chop.proofs.Places.{interval_here, before_at, interval_clauses}
use Rattle.search_own_chop.proofs.reach_interval.Goals as goal

pub interval_at-v-requires : goal.interval_at-v-requires
interval_at-v-requires c = (c.requires.2, c.requires.3.0.room, c.requires.3.0.intervals_to)

pub triple_place-requires : goal.triple_place-requires
triple_place-requires c =
    let o = c.interval_at-v.ensures.0 in
    (omega arith, omega (arith, o.starts, o.ends), c.requires.0.fine.bounded.steps, c.requires.3.0.rows_of, c.requires.3.0.starts_of)

pub visit_at-requires : goal.visit_at-requires
visit_at-requires c =
    let a = c.args in let w = a.wiring.now in
    let v = c.interval_at-v.result in let o = c.interval_at-v.ensures in
    let b = a.block in
    let h = halves b c.beyond-w.ensures refl c.intervals_of-whole.ensures in record {
      standing = (intervals_stand c.requires.0 c.requires.1 h, c.requires.3.1, c.requires.3.0.rows_of);
      placed = (
        interval_here w.k b c.beyond-w.result c.intervals_of-whole.ensures v o,
        before_at w.k b c.beyond-w.result c.intervals_of-whole.ensures v o.0 c.triple_place.ensures.0,
      );
    }

pub returns : goal.returns
returns c =
    let a = c.args in let w = a.wiring.now in
    reached (interval_suffices w.c w.k _ a.block c.requires.1 c.requires.0.laid refl c.requires.2)
    (visited_named (interval_clauses w.c w.k a.block a.x c.beyond-w.ensures c.intervals_of-whole.ensures) c.visit_at.ensures)
