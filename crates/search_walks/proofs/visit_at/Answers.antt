-- The gate is that of the definition in place x, whose clauses the visit goes through (Places.antt).
-- Before a chop's interval stand the triples of those before it.
use native.Mathlib.Omega.{arith}
use Rattle.search_visits.proofs.Parts.{visited_named}
use Rattle.search_clauses.proofs.Walk.{clauses_here, visit_asks}
use Rattle.search_walks.proofs.Places.{place_small, before_there}
use Rattle.search_walks.proofs.visit_at.Goals as goal

pub gate_at-gate-requires : goal.gate_at-gate-requires
gate_at-gate-requires c =
    record { bounded = (c.requires.standing.0.bounded, omega (arith, place_small c.requires.standing.0 c.requires.placed.0), c.requires.standing.1, c.requires.standing.2); placed = (c.requires.placed.0, before_there _ _ c.args.p c.requires.placed.1) }

pub overflow_add-first : goal.overflow_add-first
overflow_add-first c = omega (arith, place_small c.requires.standing.0 c.requires.placed.0, c.requires.standing.0.bounded.first)

pub visit-requires : goal.visit-requires
visit-requires c =
    let a = visit_asks _ _ _ c.requires.placed.0 c.gate_at-gate.ensures (c.requires.standing.0.bounded, c.requires.standing.0.points) c.requires.standing.0.mentioned in
    (c.requires.standing.0.trailing, a.0, a.1, a.2)

pub returns : goal.returns
returns c =
    visited_named (clauses_here _ _ _ c.requires.placed.0 c.gate_at-gate.ensures) c.visit.ensures
