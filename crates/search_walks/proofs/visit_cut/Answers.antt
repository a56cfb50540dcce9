-- The triple's gate goes by the places of its two parts (Gates.antt);
-- the second begins where the first ends.
use mathlib.Core.Path.{ap, ◌∙◌}
use Prim.Native.Nat.{ℕ, ◌+◌}
use native.Mathlib.Omega.{arith}
use Rattle.interval.specs.Places.{place_of}
use Rattle.table_blocks.proofs.Positions.{triple_position}
use Rattle.search_walks.proofs.Places.{place_small}
use Rattle.search_walks.proofs.Gates.{cut_gate, variable_here, inputs_here, visited_here}
use Rattle.search_walks.proofs.visit_cut.Goals as goal

pub overflow_add-v : goal.overflow_add-v
overflow_add-v c = omega (arith, place_small c.requires.standing.0 c.requires.placed, c.requires.standing.0.bounded.first)

pub place-requires : goal.place-requires
place-requires c = let q = triple_position c.requires.placed c.requires.standing.1 in (omega (arith, q), c.requires.standing.0.bounded.steps, c.requires.standing.2)

pub overflow_add-i : goal.overflow_add-i
overflow_add-i c = omega (arith, triple_position c.requires.placed c.requires.standing.1, c.requires.standing.0.bounded.steps)

pub overflow_sub-d : goal.overflow_sub-d
overflow_sub-d c = omega (arith, triple_position c.requires.placed c.requires.standing.1)

pub place-requires-2 : goal.place-requires-2
place-requires-2 c = let q = triple_position c.requires.placed c.requires.standing.1 in (omega (arith, q), c.requires.standing.0.bounded.steps, c.requires.standing.2)

pub settle_both-requires : goal.settle_both-requires
settle_both-requires c =
    let a = c.args in (
      c.requires.standing.0.trailing,
      variable_here c.requires.standing.0 c.requires.placed,
      inputs_here c.requires.standing.0 c.requires.placed (cut_gate _ _ _ _ _ _ _ c.requires.standing.1 c.place.ensures.0
          (c.place-2.ensures.0 ∙ ap (λ (j : ℕ). place_of a.wiring.now.k (record { i = a.i + a.e; j = j })) (omega (arith, triple_position c.requires.placed c.requires.standing.1)))),
    )

pub returns : goal.returns
returns c =
    let a = c.args in
    visited_here c.requires.standing.0 c.requires.placed (cut_gate _ _ _ _ _ _ _ c.requires.standing.1 c.place.ensures.0
    (c.place-2.ensures.0 ∙ ap (λ (j : ℕ). place_of a.wiring.now.k (record { i = a.i + a.e; j = j })) (omega (arith, triple_position c.requires.placed c.requires.standing.1))))
    c.settle_both.ensures
