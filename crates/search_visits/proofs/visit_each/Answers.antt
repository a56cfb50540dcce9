-- The clauses of two literals, one after another (Loops.antt).
-- Each is the eighth pattern.
use mathlib.Core.Path.{refl, ◌∙◌}
use native.Mathlib.Omega.{arith}
use Rattle.search_patterns.proofs.Steps.{there}
use Rattle.search_visits.proofs.Parts.{settled_visited}
use Rattle.search_visits.proofs.Loops.{loop_begun, loop_turn, loop_stop, loop_done, raised_pattern}
use Rattle.search_visits.proofs.visit_each.Goals as goal

pub loop-e-init : goal.loop-e-init
loop-e-init c = (refl, refl, omega arith, loop_begun _ c.requires.0)

pub overflow_add-w : goal.overflow_add-w
overflow_add-w c = omega (arith, c.requires.2.0, c.loop-e-test.true)

pub settle_by-r-requires : goal.settle_by-r-requires
settle_by-r-requires c =
    let i = c.loop-e.invariant in let v = there i.0 c.requires.1 in
    record { trailing = i.3.grown.trailing; four = (v, there i.0 (c.requires.2.1 _ c.loop-e-test.true), v, v) }

pub returns-then-r : goal.returns-then-r
returns-then-r c =
    loop_stop _ _ c.loop-e.invariant.3 (raised_pattern _ _ _) (settled_visited c.settle_by-r.ensures) _ c.loop-e-test.true c.if-r.true

pub loop-e-preserved : goal.loop-e-preserved
loop-e-preserved c =
    let i = c.loop-e.invariant in
    (c.settle_by-r.auto.values ∙ i.0, c.settle_by-r.auto.trail ∙ i.1, omega (arith, c.loop-e-test.true), loop_turn _ _ i.3 (raised_pattern _ _ _) (settled_visited c.settle_by-r.ensures) c.if-r.false)

pub returns : goal.returns
returns c = let i = c.loop-e.invariant in loop_done _ _ _ i.2 (omega (arith, c.loop-e-test.false)) i.3
