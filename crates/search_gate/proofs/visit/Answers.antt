-- Each gate but one is a pattern over its variables; the other has clauses one after another (`search_visits::visit_any`).
-- What a pattern settles is visited.
use mathlib.Core.Path.{refl, subst}
use Rattle.table_gates.specs.Within.{Within}
use Rattle.table_gates.specs.Mentioned.{InputsIn}
use Rattle.search_visits.proofs.Parts.{settled_visited}
use Rattle.search_patterns.proofs.Steps.{patterns}
use Rattle.search_gate.proofs.Known.{constant_known, visited_known}
use Rattle.search_gate.proofs.visit.Goals as goal

pub settle_by-requires : goal.settle_by-requires
settle_by-requires c = record { trailing = c.requires.0; four = (c.requires.1, c.requires.1, c.requires.1, c.requires.1) }

pub settle_by-requires-in-Copy : goal.settle_by-requires-in-Copy
settle_by-requires-in-Copy c =
    let i = subst (InputsIn _) c.in-Copy.is c.requires.2 in record { trailing = c.requires.0; four = (c.requires.1, i, c.requires.1, c.requires.1) }

pub settle_by-requires-in-Inverse : goal.settle_by-requires-in-Inverse
settle_by-requires-in-Inverse c =
    let i = subst (InputsIn _) c.in-Inverse.is c.requires.2 in record { trailing = c.requires.0; four = (c.requires.1, i, c.requires.1, c.requires.1) }

pub settle_both-requires : goal.settle_both-requires
settle_both-requires c =
    let i = subst (InputsIn _) c.in-Both.is c.requires.2 in (c.requires.0, c.requires.1, i)

pub settle_by-requires-in-Either : goal.settle_by-requires-in-Either
settle_by-requires-in-Either c =
    let i = subst (InputsIn _) c.in-Either.is c.requires.2 in record { trailing = c.requires.0; four = (c.requires.1, i.0, i.1, c.requires.1) }

pub visit_any-requires : goal.visit_any-requires
visit_any-requires c =
    let i = subst (InputsIn _) c.in-AnyOf.is c.requires.2 in (c.requires.0, c.requires.1, ((subst Within c.in-AnyOf.is c.requires.3).1, i))

pub settle_step-requires : goal.settle_step-requires
settle_step-requires c =
    let i = subst (InputsIn _) c.in-Step.is c.requires.2 in (c.requires.0, c.requires.1, i)

pub returns-in-Constant : goal.returns-in-Constant
returns-in-Constant c =
    visited_known _ c.in-Constant.is (constant_known _ c.constant.ensures) (settled_visited c.settle_by.ensures)

pub returns-in-Copy : goal.returns-in-Copy
returns-in-Copy c =
    visited_known _ c.in-Copy.is (patterns _ _ 0 0).0 (settled_visited c.settle_by-in-Copy.ensures)

pub returns-in-Inverse : goal.returns-in-Inverse
returns-in-Inverse c =
    visited_known _ c.in-Inverse.is (patterns _ _ 0 0).1 (settled_visited c.settle_by-in-Inverse.ensures)

pub returns-in-Both : goal.returns-in-Both
returns-in-Both c =
    visited_known _ c.in-Both.is refl (settled_visited c.settle_both.ensures)

pub returns-in-Either : goal.returns-in-Either
returns-in-Either c =
    visited_known _ c.in-Either.is (patterns _ _ _ 0).3 (settled_visited c.settle_by-in-Either.ensures)

pub returns-in-AnyOf : goal.returns-in-AnyOf
returns-in-AnyOf c = visited_known _ c.in-AnyOf.is refl c.visit_any.ensures

pub returns-in-Step : goal.returns-in-Step
returns-in-Step c =
    visited_known _ c.in-Step.is refl (settled_visited c.settle_step.ensures)
