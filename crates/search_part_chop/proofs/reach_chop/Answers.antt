-- The first part on [i, m] is read by the triples (i, m, j), the second on [m, j] by (i, m, j): all of them are visited.
-- Any other variable of another node is read by none.
use mathlib.Core.Path.{◌≡◌, refl}
use native.Mathlib.Omega.{arith}
use Rattle.interval.specs.Places.{count_of}
use Rattle.table_nodes.proofs.Nodes.{halves}
use Rattle.search_visits.proofs.Parts.{visited_named}
use Rattle.search_fanout.proofs.Cover.{reached, unread}
use Rattle.search_fanout.proofs.Chops.{first_suffices, second_suffices}
use Rattle.search_fanout.proofs.Stands.{triples_stand}
use Rattle.search_part_chop.proofs.Chop.{chop_away, stopped, cut_rule, first_named, second_named}
use Rattle.search_part_chop.proofs.reach_chop.Goals as goal

pub overflow_sub-u : goal.overflow_sub-u
overflow_sub-u c = omega (arith, c.among.ensures.here c.if-among.true)

pub interval_at-v-requires : goal.interval_at-v-requires
interval_at-v-requires c =
    let t = c.requires.4 in (omega (arith, c.among.ensures.here c.if-among.true, t.1), t.0.room, t.0.intervals_to)

pub visit_first-requires : goal.visit_first-requires
visit_first-requires c =
    let o = c.interval_at-v.ensures.0 in (
      triples_stand c.requires.0 c.requires.1 (halves c.args.block c.beyond-w.ensures c.triples_of-triples.ensures refl),
      cut_rule c.beyond-w.result c.args.block c.triples_of-triples.ensures,
      o.starts,
      o.ends,
      c.requires.4.0.rows_of,
      c.requires.4.0.starts_of,
    )

pub returns-then-among : goal.returns-then-among
returns-then-among c =
    let b = c.args.block in let w = c.args.wiring.now in let v = c.interval_at-v.result in
    let o = c.interval_at-v.ensures in
    reached (first_suffices w.c w.k c.args.u b c.requires.1 c.requires.0.laid v.i v.j o.0.starts o.0.ends
    (omega (arith, c.among.ensures.here c.if-among.true, o.1)))
    (visited_named (first_named w.c w.k b v.i v.j c.beyond-w.ensures c.triples_of-triples.ensures) c.visit_first.ensures)

pub overflow_sub-u-then-among-2 : goal.overflow_sub-u-then-among-2
overflow_sub-u-then-among-2 c = omega (arith, c.among-2.ensures.here c.if-among-2.true)

pub interval_at-v-requires-then-among-2 : goal.interval_at-v-requires-then-among-2
interval_at-v-requires-then-among-2 c =
    let t = c.requires.4 in (omega (arith, c.among-2.ensures.here c.if-among-2.true, t.1), t.0.room, t.0.intervals_to)

pub visit_second-requires : goal.visit_second-requires
visit_second-requires c =
    let o = c.interval_at-v-then-among-2.ensures.0 in (
      triples_stand c.requires.0 c.requires.1 (halves c.args.block c.beyond-w.ensures c.triples_of-triples.ensures refl),
      cut_rule c.beyond-w.result c.args.block c.triples_of-triples.ensures,
      o.starts,
      o.ends,
      c.requires.4.1,
      c.requires.4.0.rows_of,
      c.requires.4.0.starts_of,
    )

pub returns-then-among-2 : goal.returns-then-among-2
returns-then-among-2 c =
    let a = c.args in let w = a.wiring.now in let b = a.block in let v = c.interval_at-v-then-among-2.result in
    let o = c.interval_at-v-then-among-2.ensures in
    reached (second_suffices w.c w.k a.u b c.requires.1 c.requires.0.laid v.i v.j o.0.starts o.0.ends
    (omega (arith, c.among-2.ensures.here c.if-among-2.true, o.1)))
    (visited_named (second_named w.c w.k b v.i v.j c.beyond-w.ensures c.triples_of-triples.ensures) c.visit_second.ensures)

pub returns : goal.returns
returns c =
    let b = c.args.block in let w = c.args.wiring.now in let a : w.all ≡ count_of w.k = c.requires.4.1 in
    stopped c.done.ensures (unread (chop_away w.c w.k c.args.u b c.requires.0.laid c.requires.2 c.requires.1
    (λ f. c.among.ensures.away c.if-among.false (omega (arith, f, a))) (λ f. c.among-2.ensures.away c.if-among-2.false (omega (arith, f, a))))
    c.requires.0.trailing)
