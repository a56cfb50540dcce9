-- Row after row is visited at the instant, if it is a letter of the channel.
-- The ground stays, since the list of values keeps its length.
use mathlib.Core.Path.{refl, ◌∙◌}
use native.Mathlib.Omega.{arith}
use Rattle.search_visits.proofs.Loops.{loop_begun, loop_turn, loop_stop, loop_done}
use Rattle.search_fanout.specs.Wiring.{letter_in}
use Rattle.search_fanout.proofs.Ground.{ground_still}
use Rattle.search_letters.proofs.Rows.{visited_done}
use Rattle.search_letters.proofs.reach_letters.Goals as goal

pub loop-x-init : goal.loop-x-init
loop-x-init c = (refl, refl, omega arith, loop_begun _ c.requires.on_ground.1)

pub reach_letter-r-requires : goal.reach_letter-r-requires
reach_letter-r-requires c =
    let i = c.loop-x.invariant in record { on_ground = (ground_still i.0 c.requires.on_ground.0, i.3.grown.trailing); x_lt_count = (c.loop-x-test.true, c.requires.t_lt_k.0, c.requires.t_lt_k.1) }

pub returns-then-r : goal.returns-then-r
returns-then-r c =
    let a = c.args in let i = c.loop-x.invariant in
    loop_stop (letter_in a.wiring.now a.t a.e) _ i.3 refl c.reach_letter-r.ensures
    a.wiring.now.table.count c.loop-x-test.true c.if-r.true

pub loop-x-smaller : goal.loop-x-smaller
loop-x-smaller c = omega (arith, c.loop-x-test.true)

pub loop-x-preserved : goal.loop-x-preserved
loop-x-preserved c =
    let a = c.args in let i = c.loop-x.invariant in (
      c.reach_letter-r.auto.values ∙ i.0,
      c.reach_letter-r.auto.trail ∙ i.1,
      omega (arith, c.loop-x-test.true),
      loop_turn (letter_in a.wiring.now a.t a.e) _ i.3 refl c.reach_letter-r.ensures c.if-r.false,
    )

pub returns : goal.returns
returns c =
    let a = c.args in let i = c.loop-x.invariant in
    visited_done c.done.ensures (loop_done (letter_in a.wiring.now a.t a.e) a.wiring.now.table.count _
    i.2 (omega (arith, c.loop-x-test.false)) i.3)
