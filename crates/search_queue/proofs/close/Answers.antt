-- After every literal taken what is held has the closure that it had at the start,
-- and what is due is due since the literals still to take.
use mathlib.Core.Path.{refl, ◌∙◌}
use Prim.Native.Nat.{◌<◌}
use native.Mathlib.Omega.{arith}
use borrow.Author.Rules.{rules}
use lib.ListN.{length}
use Rattle.search_closing.proofs.Trail.{grown_none, grown_more}
use Rattle.search_fanout.proofs.Pending.{next_variable, pending_step, pending_fits, queue_done, queue_clash}
use Rattle.search_fanout.proofs.Ground.{ground_still}
use Rattle.search_queue.proofs.close.Goals as goal

pub loop-h-init : goal.loop-h-init
loop-h-init c = let p = c.requires.pending in (refl, refl, grown_none p.since.trailing, refl, p)

pub offset_bounds-trail-h : goal.offset_bounds-trail-h
offset_bounds-trail-h c =
    let i = c.loop-h.invariant in let f = pending_fits i.4 in let l = c.loop-h-test.true in
    let g : c.loop-h.h < length c.args.trail.now = omega (arith, i.1, f, l) in search (g, rules)

pub bounds-trail-h : goal.bounds-trail-h
bounds-trail-h c = let i = c.loop-h.invariant in omega (arith, i.1, pending_fits i.4, c.loop-h-test.true)

pub reach-r-requires : goal.reach-r-requires
reach-r-requires c =
    let i = c.loop-h.invariant in
    record { on_ground = (ground_still i.0 c.requires.on_ground, i.2.trailing); variable = next_variable i.4 (omega (arith, c.loop-h-test.true)); tabled = c.requires.tabled }

pub returns-then-r : goal.returns-then-r
returns-then-r c = let i = c.loop-h.invariant in queue_clash i.2 i.3 c.reach-r.ensures c.if-r.true

pub overflow_add-h : goal.overflow_add-h
overflow_add-h c = let i = c.loop-h.invariant in omega (arith, pending_fits i.4, c.loop-h-test.true)

pub loop-h-smaller : goal.loop-h-smaller
loop-h-smaller c = let i = c.loop-h.invariant in omega (arith, i.0, pending_fits i.4, c.loop-h-test.true)

pub loop-h-preserved : goal.loop-h-preserved
loop-h-preserved c =
    let i = c.loop-h.invariant in let e = c.reach-r.ensures in (
      c.reach-r.auto.values ∙ i.0,
      c.reach-r.auto.trail ∙ i.1,
      grown_more i.2 e.grown,
      e.same ∙ i.3,
      pending_step i.4 (omega (arith, c.loop-h-test.true)) e c.if-r.false,
    )

pub returns : goal.returns
returns c = let i = c.loop-h.invariant in queue_done i.2 i.3 i.4 (omega (arith, c.loop-h-test.false))
