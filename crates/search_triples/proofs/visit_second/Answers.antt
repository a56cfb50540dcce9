-- At turn i the code has the variables of the triple (i, m, j) and of its two parts (Cuts.antt).
-- The next start's triple stands after all that start at i.
use mathlib.Core.Path.{refl, ◌∙◌}
use native.Mathlib.Omega.{arith}
use Rattle.interval.proofs.Laws.{counts_at_32}
use Rattle.search_visits.proofs.Parts.{settled_visited}
use Rattle.search_visits.proofs.Loops.{loop_begun, loop_turn, loop_stop, loop_done}
use Rattle.search_walks.proofs.Places.{stands}
use Rattle.search_triples.proofs.Cuts.{second_begun, second_clauses_lem, second_asks, second_turn, second_small}
use Rattle.search_triples.proofs.visit_second.Goals as goal

pub place-start-requires : goal.place-start-requires
place-start-requires c = (omega (arith, c.requires), c.requires.0.bounded.steps, c.requires.5)

pub overflow_add-x : goal.overflow_add-x
overflow_add-x c = omega (arith, c.requires, c.requires.0.bounded.steps, c.requires.0.bounded.left)

pub triple_place-requires : goal.triple_place-requires
triple_place-requires c = (omega (arith, c.requires), omega (arith, c.requires), c.requires.0.bounded.steps, c.requires.5, c.requires.6)

pub overflow_add-v : goal.overflow_add-v
overflow_add-v c = omega (arith, c.triple_place.ensures.1, c.requires.0.bounded.first, counts_at_32 c.args.wiring.now.k c.requires.0.bounded.steps)

pub overflow_add-i-end : goal.overflow_add-i-end
overflow_add-i-end c = omega (arith, c.requires, c.requires.0.bounded.steps)

pub loop-i-init : goal.loop-i-init
loop-i-init c = (
  refl,
  refl,
  omega arith,
  second_begun c.requires.1 c.requires.2 c.requires.3 c.place-start.ensures.0 c.requires.4 c.triple_place.ensures.0,
  loop_begun _ c.requires.0.trailing,
)

pub overflow_add-y : goal.overflow_add-y
overflow_add-y c =
    omega (arith, second_small c.loop-i.invariant.3 (omega (arith, c.loop-i-test.true)) c.requires.0.bounded, c.requires.0.bounded.right)

pub settle_both-r-requires : goal.settle_both-r-requires
settle_both-r-requires c =
    let i = c.loop-i.invariant in
    let a = second_asks i.3 (omega (arith, c.loop-i-test.true)) (stands c.requires.0 i.0 i.4.grown.trailing) in
    (i.4.grown.trailing, a.0, a.1)

pub returns-then-r : goal.returns-then-r
returns-then-r c =
    let i = c.loop-i.invariant in let h = c.loop-i-test.true in
    loop_stop _ _ i.4 (second_clauses_lem i.3 (omega (arith, h)) _) (settled_visited c.settle_both-r.ensures) _ (omega (arith, h)) c.if-r.true

pub overflow_add-v-in-loop-i : goal.overflow_add-v-in-loop-i
overflow_add-v-in-loop-i c =
    omega (arith, second_small c.loop-i.invariant.3 (omega (arith, c.loop-i-test.true)) c.requires.0.bounded)

pub overflow_sub-v : goal.overflow_sub-v
overflow_sub-v c =
    omega (arith, second_small c.loop-i.invariant.3 (omega (arith, c.loop-i-test.true)) c.requires.0.bounded)

pub overflow_add-v-in-loop-i-2 : goal.overflow_add-v-in-loop-i-2
overflow_add-v-in-loop-i-2 c =
    omega (arith, second_small c.loop-i.invariant.3 (omega (arith, c.loop-i-test.true)) c.requires.0.bounded)

pub overflow_sub-v-in-loop-i : goal.overflow_sub-v-in-loop-i
overflow_sub-v-in-loop-i c =
    omega (arith, second_small c.loop-i.invariant.3 (omega (arith, c.loop-i-test.true)) c.requires.0.bounded)

pub overflow_sub-x : goal.overflow_sub-x
overflow_sub-x c =
    omega (arith, second_small c.loop-i.invariant.3 (omega (arith, c.loop-i-test.true)) c.requires.0.bounded)

pub overflow_add-x-in-loop-i : goal.overflow_add-x-in-loop-i
overflow_add-x-in-loop-i c =
    omega (arith, second_small c.loop-i.invariant.3 (omega (arith, c.loop-i-test.true)) c.requires.0.bounded)

pub overflow_sub-row : goal.overflow_sub-row
overflow_sub-row c =
    omega (arith, second_small c.loop-i.invariant.3 (omega (arith, c.loop-i-test.true)) c.requires.0.bounded)

pub overflow_add-row : goal.overflow_add-row
overflow_add-row c =
    omega (arith, second_small c.loop-i.invariant.3 (omega (arith, c.loop-i-test.true)) c.requires.0.bounded)

pub overflow_sub-row-in-loop-i : goal.overflow_sub-row-in-loop-i
overflow_sub-row-in-loop-i c =
    omega (arith, second_small c.loop-i.invariant.3 (omega (arith, c.loop-i-test.true)) c.requires.0.bounded)

pub overflow_step-i : goal.overflow_step-i
overflow_step-i c =
    omega (arith, second_small c.loop-i.invariant.3 (omega (arith, c.loop-i-test.true)) c.requires.0.bounded)

pub loop-i-preserved : goal.loop-i-preserved
loop-i-preserved c =
    let i = c.loop-i.invariant in let h = c.loop-i-test.true in (
      c.settle_both-r.auto.values ∙ i.0,
      c.settle_both-r.auto.trail ∙ i.1,
      omega (arith, h),
      second_turn i.3 (omega (arith, h)),
      loop_turn _ _ i.4 (second_clauses_lem i.3 (omega (arith, h)) _) (settled_visited c.settle_both-r.ensures) c.if-r.false,
    )

pub returns : goal.returns
returns c = let i = c.loop-i.invariant in loop_done _ _ _ (omega (arith, i.2)) (omega (arith, c.loop-i-test.false)) i.4
