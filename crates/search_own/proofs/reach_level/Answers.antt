-- The levels before taken off the place, what is left is the interval's place (Places.antt of search_lines);
-- the gates that mention a level's variable are those that search_own_level::visit_after goes through.
use mathlib.Core.Path.{refl, ap}
use Prim.Native.Nat.{◌-◌}
use native.Mathlib.Omega.{arith}
use Rattle.table_blocks.specs.declared.Position.{Position}
use Rattle.search_lines.specs.declared.Rise.{Rise}
use Rattle.search_fanout.proofs.Cover.{reached}
use Rattle.search_fanout.proofs.Levels.{after_suffices}
use Rattle.search_fanout.proofs.Stands.{whole_stands}
use Rattle.search_lines.proofs.Places.{some_intervals, rise_small, rise_some, levels_known, level_here}
use Rattle.search_own.proofs.reach_level.Goals as goal

pub cell_at-level-requires : goal.cell_at-level-requires
cell_at-level-requires c = omega (arith, c.requires.node.2.1, some_intervals c.args.wiring.now.k)

pub interval_at-v-requires : goal.interval_at-v-requires
interval_at-v-requires c =
    let t = c.requires.node.2 in (omega (arith, c.cell_at-level.ensures.inside, t.1), t.0.room, t.0.intervals_to)

pub overflow_add-levels : goal.overflow_add-levels
overflow_add-levels c =
    let e = c.rise_of-rise.ensures in
    omega (arith, rise_small c.args.block c.requires.node.0.fine.bounded.number, ap (λ (r : Rise). r.from) e, ap (λ (r : Rise). r.count) e)

pub overflow_sub-levels : goal.overflow_sub-levels
overflow_sub-levels c =
    let e = c.rise_of-rise.ensures in omega (arith, rise_some c.args.block.rule, ap (λ (r : Rise). r.from) e, ap (λ (r : Rise). r.count) e)

pub visit_after-requires : goal.visit_after-requires
visit_after-requires c =
    let b = c.args.block in record { standing = (whole_stands c.requires.node.0 c.requires.rule_value.1, levels_known b.rule c.requires.rule_value.0 c.requires.rule_value.1 c.rise_of-rise.ensures, c.requires.node.2.1); placed = level_here c.args.wiring.now.k b c.args.x c.requires.rule_value.0 c.requires.rule_value.1 c.requires.node.2.1 c.requires.node.1 c.cell_at-level.result c.cell_at-level.ensures c.interval_at-v.result c.interval_at-v.ensures }

pub returns : goal.returns
returns c =
    let a = c.args in let w = a.wiring.now in
    let b = a.block in
    let position : Position = record { row = c.cell_at-level.result.line; line = c.interval_at-v.result.i; cell = c.interval_at-v.result.j - c.interval_at-v.result.i; before = 0 } in
    reached (after_suffices w.c w.k _ b position (levels_known b.rule c.requires.rule_value.0 c.requires.rule_value.1 c.rise_of-rise.ensures) c.requires.node.0.laid
    (level_here w.k b a.x c.requires.rule_value.0 c.requires.rule_value.1 c.requires.node.2.1 c.requires.node.1 c.cell_at-level.result c.cell_at-level.ensures c.interval_at-v.result c.interval_at-v.ensures) refl) c.visit_after.ensures
