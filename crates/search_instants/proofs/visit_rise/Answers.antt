-- On one level the gate is that of `[S]`; on those of a duration, at turn e, that of level a + e (Rises.antt).
-- The next level stands I places further, so one addition a turn finds it.
use mathlib.Core.Path.{refl, ◌∙◌}
use Prim.Native.Nat.{◌+◌, ◌-◌}
use native.Mathlib.Omega.{arith}
use Rattle.table_blocks.specs.Blocks.{Placed}
use Rattle.search_visits.proofs.Parts.{settled_visited, visited_named}
use Rattle.search_visits.proofs.Loops.{loop_begun, loop_turn, loop_stop, loop_done}
use Rattle.search_patterns.proofs.Steps.{patterns, settled_named}
use Rattle.search_walks.proofs.Places.{stands}
use Rattle.search_walks.proofs.Gates.{variable_here, inputs_here, visited_here}
use Rattle.search_instants.proofs.Rises.{begun_small, whole_placed, whole_some, whole_copy, whole_both, whole_clauses, rise_begun, rise_turn, rise_clauses_lem, rise_asks, rise_small}
use Rattle.search_instants.proofs.visit_rise.Goals as goal
use Rattle.search_instants.proofs.visit_rise.Goals.{Then-a-eq0}

pub overflow_add-t : goal.overflow_add-t
overflow_add-t c = omega (arith, c.requires, c.requires.0.bounded.steps)

pub place-requires : goal.place-requires
place-requires c = (omega (arith, c.requires, c.requires.0.bounded.steps), c.requires.0.bounded.steps, c.requires.5)

pub overflow_add-first : goal.overflow_add-first
overflow_add-first c = omega (arith, c.place.ensures.1, c.requires.0.bounded.first)

pub overflow_add-last : goal.overflow_add-last
overflow_add-last c = omega (arith, c.requires, c.requires.0.bounded.steps, c.requires.0.bounded.left)

-- of `[S]` the place that was computed is that of the interval
is_placed : (c : Then-a-eq0)
    → (let a = c.args in Placed a.block.points a.wiring.now.k a.block.rule c.place.result 0 a.i (a.t + 1 - a.i))
is_placed c = whole_placed 0 _ c.args.block c.requires.1 c.requires.2 c.requires.3 c.if-a-eq0.true c.place.ensures.0

pub settle_by-requires : goal.settle_by-requires
settle_by-requires c =
    let v = variable_here c.requires.0 (is_placed (goal.at.settle_by-requires c).Then-a-eq0) in
    let u = inputs_here c.requires.0 (is_placed (goal.at.settle_by-requires c).Then-a-eq0) (whole_copy _ _ _ c.requires.1 c.requires.2 c.requires.3 c.if-a-eq0.true c.place.ensures.0 c.if-i-t.true) in
    record { trailing = c.requires.0.trailing; four = (v, u, v, v) }

pub returns-then-i-t : goal.returns-then-i-t
returns-then-i-t c =
    let e = c.place.ensures.0 in
    visited_named (whole_clauses _ _ _ c.requires.1 c.requires.2 c.requires.3 c.if-a-eq0.true e)
    (visited_here c.requires.0 (is_placed (goal.at.returns-then-i-t c).Then-a-eq0) (whole_copy _ _ _ c.requires.1 c.requires.2 c.requires.3 c.if-a-eq0.true e c.if-i-t.true)
    (settled_named (patterns _ _ 0 0).0 c.settle_by.ensures))

pub overflow_sub-first : goal.overflow_sub-first
overflow_sub-first c =
    whole_some 0 _ c.args.block c.requires.1 c.requires.2 c.requires.3 c.if-a-eq0.true c.place.ensures.0

pub settle_both-requires : goal.settle_both-requires
settle_both-requires c = (
  c.requires.0.trailing,
  variable_here c.requires.0 (is_placed (goal.at.settle_both-requires c).Then-a-eq0),
  inputs_here c.requires.0 (is_placed (goal.at.settle_both-requires c).Then-a-eq0) (whole_both _ _ _ c.requires.1 c.requires.2 c.requires.3 c.if-a-eq0.true c.place.ensures.0 c.if-i-t.false),
)

pub returns-then-a-eq0 : goal.returns-then-a-eq0
returns-then-a-eq0 c =
    let e = c.place.ensures.0 in
    visited_named (whole_clauses _ _ _ c.requires.1 c.requires.2 c.requires.3 c.if-a-eq0.true e)
    (visited_here c.requires.0 (is_placed (goal.at.returns-then-a-eq0 c).Then-a-eq0) (whole_both _ _ _ c.requires.1 c.requires.2 c.requires.3 c.if-a-eq0.true e c.if-i-t.false) c.settle_both.ensures)

pub overflow_add-v : goal.overflow_add-v
overflow_add-v c =
    omega (arith, begun_small c.requires.0.bounded.steps c.requires.2 c.requires.3 c.place.ensures.0 c.requires.4, c.requires.0.bounded.first)

pub loop-e-init : goal.loop-e-init
loop-e-init c =
    (refl, refl, omega arith, rise_begun c.requires.1 c.if-a-eq0.false c.requires.2 c.requires.3 c.place.ensures.0 c.requires.4, loop_begun _ c.requires.0.trailing)

pub overflow_sub-p : goal.overflow_sub-p
overflow_sub-p c = omega (arith, rise_small c.loop-e.invariant.3 c.requires.4 c.loop-e-test.true c.requires.0.bounded)

pub overflow_sub-q : goal.overflow_sub-q
overflow_sub-q c =
    omega (arith, rise_small c.loop-e.invariant.3 c.requires.4 c.loop-e-test.true c.requires.0.bounded)

pub overflow_add-block : goal.overflow_add-block
overflow_add-block c = omega (arith, c.requires, c.requires.0.bounded.steps, c.requires.0.bounded.left)

pub settle_step-r-requires : goal.settle_step-r-requires
settle_step-r-requires c =
    let i = c.loop-e.invariant in
    let a = rise_asks i.3 c.requires.4 c.loop-e-test.true (stands c.requires.0 i.0 i.4.grown.trailing) in
    (i.4.grown.trailing, a.0, a.1)

pub returns-then-r : goal.returns-then-r
returns-then-r c =
    let i = c.loop-e.invariant in let h = c.loop-e-test.true in
    loop_stop _ _ i.4 (rise_clauses_lem i.3 c.requires.4 h _) (settled_visited c.settle_step-r.ensures) _ h c.if-r.true

pub overflow_add-v-in-loop-e : goal.overflow_add-v-in-loop-e
overflow_add-v-in-loop-e c =
    omega (arith, rise_small c.loop-e.invariant.3 c.requires.4 c.loop-e-test.true c.requires.0.bounded)

pub loop-e-preserved : goal.loop-e-preserved
loop-e-preserved c =
    let i = c.loop-e.invariant in let h = c.loop-e-test.true in (
      c.settle_step-r.auto.values ∙ i.0,
      c.settle_step-r.auto.trail ∙ i.1,
      omega (arith, h),
      rise_turn i.3 c.requires.4,
      loop_turn _ _ i.4 (rise_clauses_lem i.3 c.requires.4 h _) (settled_visited c.settle_step-r.ensures) c.if-r.false,
    )

pub returns : goal.returns
returns c = let i = c.loop-e.invariant in loop_done _ _ _ i.2 (omega (arith, c.loop-e-test.false)) i.4
