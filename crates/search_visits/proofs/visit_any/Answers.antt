-- The clauses of two literals, then the long one (Loops.antt).
-- These are all of the gate's.
use Rattle.search_patterns.proofs.Steps.{there}
use Rattle.search_visits.proofs.Parts.{visited_named, visited_stop, visited_then}
use Rattle.search_visits.proofs.Loops.{any_clauses_lem}
use Rattle.search_visits.proofs.visit_any.Goals as goal

pub returns-then-r : goal.returns-then-r
returns-then-r c = visited_named (any_clauses_lem _ _ _) (visited_stop c.visit_each-r.ensures _ c.if-r.true)

pub visit_long-requires : goal.visit_long-requires
visit_long-requires c =
    (c.visit_each-r.ensures.grown.trailing, there c.visit_each-r.auto.values c.requires.1, (c.requires.2.0, λ e h. there c.visit_each-r.auto.values (c.requires.2.1 e h)))

pub returns : goal.returns
returns c =
    visited_named (any_clauses_lem _ _ _) (visited_then c.visit_each-r.ensures _ c.if-r.false c.visit_long.ensures)
