-- The loop stands at a set of the tree (Standing.antt), with the tries made so far; a try is one more of them.
-- The tree ends where the loop does: found, dead with no try high left to make, or with a try that the limit does not allow.
use mathlib.Core.Path.{refl, ◌∙◌}
use Prim.Native.Nat.{◌-◌, ◌*◌, ◌<◌}
use native.Mathlib.Omega.{arith}
use borrow.Author.Rules.{rules}
use lib.ListN.{length-set}
use Rattle.interval.specs.Limits.{max_steps}
use Rattle.paper_grammar.specs.Limits.{max_channels}
use Rattle.table_layout.proofs.Measure.{channels_few}
use Rattle.search_fanout.proofs.Ground.{ground_still}
use Rattle.search_tries.proofs.Standing.{standing, low_found, low_spent, low_ready, low_room, low_on, high_dead, high_spent, high_room, high_ready, high_on}
use Rattle.search_tries.proofs.descend.Goals as goal
use Rattle.search_tries.proofs.descend.Goals.{Else-n-limit, Else-n-limit-2}

pub channels-channels-requires : goal.channels-channels-requires
channels-channels-requires c = let g = c.requires.on_ground in (g.channels, g.steps)

pub loop-last-init : goal.loop-last-init
loop-last-init c = (refl, refl, standing _ _ _ _ c.requires.holding refl (omega (arith, c.requires.on_ground.total)) _)

pub returns-then-depth-eq0 : goal.returns-then-depth-eq0
returns-then-depth-eq0 c =
    rw (← c.channels-channels.ensures) (high_dead _ _ _ _ c.loop-last.invariant.2 c.if-last.true c.if-depth-eq0.true)

pub returns-then-n-limit : goal.returns-then-n-limit
returns-then-n-limit c =
    rw (← c.channels-channels.ensures) (high_spent _ _ _ _ c.loop-last.invariant.2 c.if-last.true c.if-depth-eq0.false c.if-n-limit.true)

-- there is a level for every channel variable
high_level : (c : Else-n-limit) → c.loop-last.depth - 1 < max_steps * max_channels
high_level c =
    let g = c.requires.on_ground in omega (arith, high_room _ _ _ _ c.loop-last.invariant.2 c.if-last.true c.if-depth-eq0.false, channels_few _ _ g.channels g.steps)

pub offset_bounds-levels-depth : goal.offset_bounds-levels-depth
offset_bounds-levels-depth c = record { fits = omega (arith, high_level (goal.at.offset_bounds-levels-depth c).Else-n-limit) }

pub bounds-levels-depth : goal.bounds-levels-depth
bounds-levels-depth c = omega (arith, high_level (goal.at.bounds-levels-depth c).Else-n-limit)

pub try_high-last-requires : goal.try_high-last-requires
try_high-last-requires c =
    let s = c.loop-last.invariant.2 in record { on_ground = ground_still s.long c.requires.on_ground; undoable = high_ready _ _ _ _ s c.if-last.true c.if-depth-eq0.false; tabled = c.requires.tabled }

pub loop-last-preserved-then-last : goal.loop-last-preserved-then-last
loop-last-preserved-then-last c =
    let l = c.loop-last.invariant in (c.try_high-last.auto.trail ∙ l.0, l.1, high_on _ _ _ _ l.2 c.if-last.true c.if-depth-eq0.false c.if-n-limit.false c.try_high-last.ensures)

pub lowest_open-v-requires : goal.lowest_open-v-requires
lowest_open-v-requires c = let s = c.loop-last.invariant.2 in (omega (arith, s.fit, s.long), s.holding.trailing.small)

pub returns-then-v-eq0 : goal.returns-then-v-eq0
returns-then-v-eq0 c =
    rw (← c.channels-channels.ensures) (low_found _ _ _ _ c.loop-last.invariant.2 c.if-last.false c.lowest_open-v.ensures c.if-v-eq0.true)

pub returns-then-n-limit-2 : goal.returns-then-n-limit-2
returns-then-n-limit-2 c =
    rw (← c.channels-channels.ensures) (low_spent _ _ _ _ c.loop-last.invariant.2 c.if-last.false c.lowest_open-v.ensures c.if-v-eq0.false c.if-n-limit-2.true)

low_level : (c : Else-n-limit-2) → c.loop-last.depth < max_steps * max_channels
low_level c =
    let g = c.requires.on_ground in
    omega (arith, low_room _ _ _ _ c.loop-last.invariant.2 c.if-last.false c.lowest_open-v.ensures c.if-v-eq0.false, channels_few _ _ g.channels g.steps)

pub offset_bounds-levels-depth-in-loop-last : goal.offset_bounds-levels-depth-in-loop-last
offset_bounds-levels-depth-in-loop-last c = record { fits = omega (arith, low_level (goal.at.offset_bounds-levels-depth-in-loop-last c).Else-n-limit-2) }

pub bounds-levels-depth-in-loop-last : goal.bounds-levels-depth-in-loop-last
bounds-levels-depth-in-loop-last c = omega (arith, low_level (goal.at.bounds-levels-depth-in-loop-last c).Else-n-limit-2)

pub overflow_add-depth : goal.overflow_add-depth
overflow_add-depth c = record { fits = omega (arith, low_level (goal.at.overflow_add-depth c).Else-n-limit-2) }

pub try_literal-last-requires : goal.try_literal-last-requires
try_literal-last-requires c =
    let s = c.loop-last.invariant.2 in
    record { on_ground = ground_still s.long c.requires.on_ground; ready = low_ready _ _ _ _ s c.if-last.false c.lowest_open-v.ensures c.if-v-eq0.false; tabled = c.requires.tabled }

pub overflow_add-n-in-loop-last : goal.overflow_add-n-in-loop-last
overflow_add-n-in-loop-last c =
    search (c.loop-last.invariant.2.few, c.if-n-limit-2.false, c.ranges.limit.fits, rules)

pub loop-last-preserved : goal.loop-last-preserved
loop-last-preserved c =
    let w = c.loop-last in let l = w.invariant in (
      c.try_literal-last.auto.trail ∙ l.0,
      length-set w.levels w.depth w.last.top ∙ l.1,
      low_on _ _ _ _ l.2 c.if-last.false c.lowest_open-v.ensures c.if-v-eq0.false (omega (arith, low_level (goal.at.loop-last-preserved c).Else-n-limit-2, l.1)) c.if-n-limit-2.false c.try_literal-last.ensures,
    )
