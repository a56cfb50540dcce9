-- At turn i the intervals that start before i are visited, on all their levels.
-- After the last turn all that end a step after the instant are.
use mathlib.Core.Path.{refl, ◌∙◌}
use native.Mathlib.Omega.{arith}
use Rattle.search_visits.proofs.Loops.{loop_begun, loop_turn, loop_stop, loop_done}
use Rattle.search_walks.proofs.Places.{stands}
use Rattle.search_instants.proofs.visit_instant.Goals as goal

pub overflow_add-i-end : goal.overflow_add-i-end
overflow_add-i-end c = omega (arith, c.requires, c.requires.0.bounded.steps)

pub loop-i-init : goal.loop-i-init
loop-i-init c = (refl, refl, omega arith, loop_begun _ c.requires.0.trailing)

pub visit_rise-r-requires : goal.visit_rise-r-requires
visit_rise-r-requires c =
    let i = c.loop-i.invariant in
    (stands c.requires.0 i.0 i.3.grown.trailing, c.requires.1, omega (arith, c.loop-i-test.true), c.requires.2, c.requires.3, c.requires.4)

pub returns-then-r : goal.returns-then-r
returns-then-r c =
    let h = c.loop-i-test.true in loop_stop _ _ c.loop-i.invariant.3 refl c.visit_rise-r.ensures _ (omega (arith, h)) c.if-r.true

pub overflow_step-i : goal.overflow_step-i
overflow_step-i c =
    omega (arith, c.requires.2, c.requires.0.bounded.steps, c.loop-i-test.true)

pub loop-i-preserved : goal.loop-i-preserved
loop-i-preserved c =
    let i = c.loop-i.invariant in
    (c.visit_rise-r.auto.values ∙ i.0, c.visit_rise-r.auto.trail ∙ i.1, omega (arith, c.loop-i-test.true), loop_turn _ _ i.3 refl c.visit_rise-r.ensures c.if-r.false)

pub returns : goal.returns
returns c = let i = c.loop-i.invariant in loop_done _ _ _ (omega (arith, i.2)) (omega (arith, c.loop-i-test.false)) i.3
