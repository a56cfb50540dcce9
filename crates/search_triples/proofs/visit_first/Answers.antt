-- At turn e the code has the variables of the triple (i, m, m + e) and of its two parts (Cuts.antt).
-- The next triple of the same start and cut stands after all of this length.
use mathlib.Core.Path.{refl, ◌∙◌}
use native.Mathlib.Omega.{arith}
use Rattle.interval.proofs.Laws.{counts_at_32}
use Rattle.search_visits.proofs.Parts.{settled_visited}
use Rattle.search_visits.proofs.Loops.{loop_begun, loop_turn, loop_stop, loop_done}
use Rattle.search_walks.proofs.Places.{stands}
use Rattle.search_triples.proofs.Cuts.{first_begun, first_clauses_lem, first_asks, first_turn, first_small}
use Rattle.search_triples.proofs.visit_first.Goals as goal

pub place-requires : goal.place-requires
place-requires c = (omega (arith, c.requires), c.requires.0.bounded.steps, c.requires.4)

pub overflow_add-x : goal.overflow_add-x
overflow_add-x c = omega (arith, c.place.ensures.1, c.requires.0.bounded.left)

pub place-start-requires : goal.place-start-requires
place-start-requires c = (omega (arith, c.requires), c.requires.0.bounded.steps, c.requires.4)

pub triple_place-requires : goal.triple_place-requires
triple_place-requires c = (omega arith, omega (arith, c.requires), c.requires.0.bounded.steps, c.requires.4, c.requires.5)

pub overflow_add-v : goal.overflow_add-v
overflow_add-v c = omega (arith, c.triple_place.ensures.1, c.requires.0.bounded.first, counts_at_32 c.args.wiring.now.k c.requires.0.bounded.steps)

pub overflow_add-e-end : goal.overflow_add-e-end
overflow_add-e-end c = omega (arith, c.requires.0.bounded.steps)

pub loop-e-init : goal.loop-e-init
loop-e-init c = (
  refl,
  refl,
  omega arith,
  first_begun c.requires.1 c.requires.2 c.requires.3 c.place.ensures.0 c.place-start.ensures.0 c.triple_place.ensures.0,
  loop_begun _ c.requires.0.trailing,
)

pub overflow_add-y : goal.overflow_add-y
overflow_add-y c =
    omega (arith, first_small c.loop-e.invariant.3 c.loop-e-test.true c.requires.0.bounded, c.requires.0.bounded.right)

pub overflow_add-y-in-loop-e : goal.overflow_add-y-in-loop-e
overflow_add-y-in-loop-e c =
    omega (arith, first_small c.loop-e.invariant.3 c.loop-e-test.true c.requires.0.bounded, c.requires.0.bounded.right)

pub settle_both-r-requires : goal.settle_both-r-requires
settle_both-r-requires c =
    let i = c.loop-e.invariant in
    let a = first_asks i.3 c.loop-e-test.true (stands c.requires.0 i.0 i.4.grown.trailing) in
    (i.4.grown.trailing, a.0, a.1)

pub returns-then-r : goal.returns-then-r
returns-then-r c =
    let i = c.loop-e.invariant in let h = c.loop-e-test.true in
    loop_stop _ _ i.4 (first_clauses_lem i.3 h _) (settled_visited c.settle_both-r.ensures) _ (omega (arith, h)) c.if-r.true

pub overflow_add-v-in-loop-e : goal.overflow_add-v-in-loop-e
overflow_add-v-in-loop-e c =
    omega (arith, first_small c.loop-e.invariant.3 c.loop-e-test.true c.requires.0.bounded)

pub overflow_add-v-in-loop-e-2 : goal.overflow_add-v-in-loop-e-2
overflow_add-v-in-loop-e-2 c =
    omega (arith, first_small c.loop-e.invariant.3 c.loop-e-test.true c.requires.0.bounded)

pub overflow_add-v-in-loop-e-3 : goal.overflow_add-v-in-loop-e-3
overflow_add-v-in-loop-e-3 c =
    omega (arith, first_small c.loop-e.invariant.3 c.loop-e-test.true c.requires.0.bounded)

pub overflow_step-e : goal.overflow_step-e
overflow_step-e c =
    omega (arith, first_small c.loop-e.invariant.3 c.loop-e-test.true c.requires.0.bounded)

pub loop-e-preserved : goal.loop-e-preserved
loop-e-preserved c =
    let i = c.loop-e.invariant in let h = c.loop-e-test.true in (
      c.settle_both-r.auto.values ∙ i.0,
      c.settle_both-r.auto.trail ∙ i.1,
      omega (arith, h),
      first_turn i.3 h,
      loop_turn _ _ i.4 (first_clauses_lem i.3 h _) (settled_visited c.settle_both-r.ensures) c.if-r.false,
    )

pub returns : goal.returns
returns c = let i = c.loop-e.invariant in loop_done _ _ _ (omega (arith, i.2)) (omega (arith, c.loop-e-test.false)) i.4
