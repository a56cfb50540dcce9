-- The gate goes by its pattern and its inputs, and the clauses of the pattern are those in its place (Gates.antt).
-- They are settled.
use mathlib.Core.Path.{refl}
use native.Mathlib.Omega.{arith}
use Rattle.search_patterns.proofs.Steps.{settled_named}
use Rattle.search_walks.proofs.Places.{place_small}
use Rattle.search_walks.proofs.Gates.{variable_here, inputs_here, visited_here}
use Rattle.search_walks.proofs.visit_line.Goals as goal

pub overflow_add-v : goal.overflow_add-v
overflow_add-v c = omega (arith, place_small c.requires.standing.0 c.requires.placed, c.requires.standing.0.bounded.first)

pub inputs_of-i-requires : goal.inputs_of-i-requires
inputs_of-i-requires c = (c.requires.standing.0.bounded, omega (arith, place_small c.requires.standing.0 c.requires.placed), c.requires.standing.1)

pub settle_by-requires : goal.settle_by-requires
settle_by-requires c =
    let g = c.inputs_of-i.ensures in
    let v = variable_here c.requires.standing.0 c.requires.placed in let i = g.inputs _ v (inputs_here c.requires.standing.0 c.requires.placed refl) in
    record { trailing = c.requires.standing.0.trailing; four = (v, i.0, i.1, v) }

pub returns : goal.returns
returns c =
    visited_here c.requires.standing.0 c.requires.placed refl (settled_named c.inputs_of-i.ensures.clauses c.settle_by.ensures)
