-- The triple in place x is decoded. Its own gate mentions its variable, and of its interval's clauses two name it.
-- Both are visited, one after the other.
use mathlib.Core.Path.{refl, sym, ap}
use Prim.Native.Nat.{ℕ, ◌+◌}
use native.Mathlib.Omega.{arith}
use Rattle.interval.specs.Places.{count_of}
use Rattle.interval.proofs.Laws.{counts_at_32}
use Rattle.table_blocks.specs.declared.Block.{Block}
use Rattle.table_nodes.proofs.Nodes.{halves}
use Rattle.search_fanout.proofs.Cover.{reached}
use Rattle.search_fanout.proofs.Chops.{triple_suffices}
use Rattle.search_fanout.proofs.Stands.{triples_stand}
use Rattle.search_own_chop.proofs.Places.{triple_here, one_place, one_asks, first_visit, both_visits}
use Rattle.search_own_chop.proofs.reach_triple.Goals as goal

pub visit_cut-r-requires : goal.visit_cut-r-requires
visit_cut-r-requires c =
    let b = c.args.block in
    let h = halves b c.beyond-w.ensures c.triples_of-triples.ensures refl in record { standing = (triples_stand c.requires.0 c.requires.1 h, ap (λ (t : Block). t.rule) c.triples_of-triples.ensures, c.requires.3.0.rows_of); placed = triple_here c.args.wiring.now.k b c.beyond-w.result c.args.x c.triples_of-triples.ensures c.triple_at-t.result c.triple_at-t.ensures }

pub returns-then-r : goal.returns-then-r
returns-then-r c =
    let a = c.args in let w = a.wiring.now in let t = c.triple_at-t.result in
    reached (triple_suffices w.c w.k _ a.block c.requires.1 c.requires.0.laid t c.triple_at-t.ensures.0
    (ap (λ (x : ℕ). a.block.first + count_of w.k + x) (sym c.triple_at-t.ensures.1)))
    (first_visit w.c w.k a.block t c.triple_at-t.ensures c.beyond-w.ensures c.triples_of-triples.ensures c.if-r.true c.visit_cut-r.ensures)

pub place-requires : goal.place-requires
place-requires c =
    let o = c.triple_at-t.ensures.0 in (omega (arith, o.starts, o.cut, o.ends), c.requires.0.fine.bounded.steps, c.requires.3.0.rows_of)

pub overflow_add-v : goal.overflow_add-v
overflow_add-v c = omega (arith, c.requires.0.fine.bounded.first, c.place.ensures.1)

pub overflow_add-w : goal.overflow_add-w
overflow_add-w c =
    omega (arith, c.requires.0.fine.first, c.beyond-w.ensures, c.requires.2, counts_at_32 c.args.wiring.now.k c.requires.0.fine.bounded.steps)

pub overflow_sub-w : goal.overflow_sub-w
overflow_sub-w c =
    let o = c.triple_at-t.ensures.0 in
    omega (arith, one_place c.args.wiring.now.k c.args.x c.triple_at-t.result c.triple_at-t.ensures)

pub overflow_add-d : goal.overflow_add-d
overflow_add-d c = let o = c.triple_at-t.ensures.0 in omega (arith, o.ends, c.requires.0.fine.bounded.steps)

pub visit_one-requires : goal.visit_one-requires
visit_one-requires c =
    let t = c.triple_at-t.result in
    let o = c.triple_at-t.ensures in
    one_asks c.requires.0 c.requires.1 c.beyond-w.ensures t o c.place.ensures.0 c.visit_cut-r.auto.values
    c.visit_cut-r.ensures.grown.trailing

pub returns : goal.returns
returns c =
    let a = c.args in let w = a.wiring.now in
    let t = c.triple_at-t.result in
    reached (triple_suffices w.c w.k _ a.block c.requires.1 c.requires.0.laid t c.triple_at-t.ensures.0
    (ap (λ (x : ℕ). a.block.first + count_of w.k + x) (sym c.triple_at-t.ensures.1)))
    (both_visits w.c w.k a.block t c.triple_at-t.ensures c.beyond-w.ensures c.triples_of-triples.ensures c.if-r.false
    c.visit_cut-r.ensures c.place.ensures.0 c.visit_one.ensures)
