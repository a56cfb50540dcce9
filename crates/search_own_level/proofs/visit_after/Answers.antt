-- The three places are those of the interval, of the one a step longer, and of that one a level up (After.antt).
-- Visited one after another they are all that the definition lists, and a clash ends the list early.
use native.Mathlib.Omega.{arith}
use Rattle.search_visits.proofs.Parts.{visited_named, visited_stop, visited_then}
use Rattle.search_walks.proofs.Places.{place_small, stands}
use Rattle.search_own_level.proofs.After.{interval_here, longer_placed, above_placed, after_one, after_two, after_three, after_first, after_second}
use Rattle.search_own_level.proofs.visit_after.Goals as goal

pub visit_level-r-requires : goal.visit_level-r-requires
visit_level-r-requires c = record { standing = (c.requires.standing.0, (_, c.requires.standing.1), c.requires.standing.2); placed = c.requires.placed }

pub returns-then-r : goal.returns-then-r
returns-then-r c =
    let R = after_first _ _ _ _ _ c.args.p in visited_named R.1 (visited_stop c.visit_level-r.ensures R.0 c.if-r.true)

pub overflow_add-i : goal.overflow_add-i
overflow_add-i c = omega (arith, interval_here c.requires.standing.1 c.requires.placed, c.requires.standing.0.bounded.steps)

pub returns-then-i-d : goal.returns-then-i-d
returns-then-i-d c = visited_named (after_one _ _ _ _ _ c.args.p c.if-i-d.true) c.visit_level-r.ensures

pub overflow_add-next : goal.overflow_add-next
overflow_add-next c = omega (arith, place_small c.requires.standing.0 c.requires.placed)

pub visit_level-s-requires : goal.visit_level-s-requires
visit_level-s-requires c =
    record { standing = (stands c.requires.standing.0 c.visit_level-r.auto.values c.visit_level-r.ensures.grown.trailing, (_, c.requires.standing.1), c.requires.standing.2); placed = longer_placed c.requires.standing.1 c.requires.placed c.if-i-d.false }

pub returns-then-s : goal.returns-then-s
returns-then-s c =
    let R = after_second _ _ _ _ _ c.args.p c.if-i-d.false in
    visited_named R.1 (visited_stop (visited_then c.visit_level-r.ensures _ c.if-r.false c.visit_level-s.ensures) R.0 c.if-s.true)

pub returns-then-a-levels : goal.returns-then-a-levels
returns-then-a-levels c =
    visited_named (after_two _ _ _ _ _ c.args.p c.if-i-d.false c.if-a-levels.true)
    (visited_then c.visit_level-r.ensures _ c.if-r.false c.visit_level-s.ensures)

pub overflow_add-above : goal.overflow_add-above
overflow_add-above c =
    omega (arith, place_small c.requires.standing.0 (above_placed c.requires.standing.1 c.requires.placed c.if-i-d.false c.requires.standing.2 c.if-a-levels.false))

pub visit_level-t-requires : goal.visit_level-t-requires
visit_level-t-requires c =
    record { standing = (stands (stands c.requires.standing.0 c.visit_level-r.auto.values c.visit_level-r.ensures.grown.trailing) c.visit_level-s.auto.values c.visit_level-s.ensures.grown.trailing, (_, c.requires.standing.1), c.requires.standing.2); placed = above_placed c.requires.standing.1 c.requires.placed c.if-i-d.false c.requires.standing.2 c.if-a-levels.false }

pub returns : goal.returns
returns c =
    visited_named (after_three _ _ _ _ _ c.args.p c.if-i-d.false c.requires.standing.2 c.if-a-levels.false)
    (visited_then (visited_then c.visit_level-r.ensures _ c.if-r.false c.visit_level-s.ensures) _ c.if-s.false c.visit_level-t.ensures)
