-- (v −w), then the long clause (Loops.antt).
-- No other clause of the gate names w.
use native.Mathlib.Omega.{arith}
use Rattle.search_patterns.proofs.Steps.{there}
use Rattle.search_visits.proofs.Parts.{settled_visited, visited_named, visited_stop, visited_then}
use Rattle.search_visits.proofs.Loops.{raised_pattern}
use Rattle.search_visits.proofs.visit_one.Goals as goal

pub overflow_add-w : goal.overflow_add-w
overflow_add-w c = omega (arith, c.requires.2.0, c.requires.3)

pub settle_by-r-requires : goal.settle_by-r-requires
settle_by-r-requires c = record { trailing = c.requires.0; four = (c.requires.1, c.requires.2.1 _ c.requires.3, c.requires.1, c.requires.1) }

pub returns-then-r : goal.returns-then-r
returns-then-r c = visited_stop (visited_named (raised_pattern _ _ _) (settled_visited c.settle_by-r.ensures)) _ c.if-r.true

pub visit_long-requires : goal.visit_long-requires
visit_long-requires c =
    (c.settle_by-r.ensures.grown.trailing, there c.settle_by-r.auto.values c.requires.1, (c.requires.2.0, λ e h. there c.settle_by-r.auto.values (c.requires.2.1 e h)))

pub returns : goal.returns
returns c =
    visited_then (visited_named (raised_pattern _ _ _) (settled_visited c.settle_by-r.ensures)) _ c.if-r.false c.visit_long.ensures
