-- S at instant t is read by the intervals that end a step later.
-- Any other variable of another node is read by none.
use mathlib.Core.Path.{refl}
use native.Mathlib.Omega.{arith}
use Rattle.search_fanout.proofs.Cover.{reached, unread}
use Rattle.search_fanout.proofs.Levels.{instant_suffices}
use Rattle.search_fanout.proofs.Stands.{whole_stands}
use Rattle.search_lines.proofs.Places.{rising_known}
use Rattle.search_part_chop.proofs.Chop.{stopped}
use Rattle.search_parts.proofs.Part.{level_away}
use Rattle.search_parts.proofs.reach_instant.Goals as goal

pub returns-then-not-among : goal.returns-then-not-among
returns-then-not-among c =
    let b = c.args.block in
    stopped c.done.ensures (unread (level_away c.args.wiring.now.c c.args.wiring.now.k c.args.u b c.requires.node.0.laid c.requires.node.1 b.rule refl c.requires.rule_value.0 c.requires.rule_value.1
    (c.among.ensures.away c.if-not-among.true)) c.requires.node.0.trailing)

pub overflow_sub-t : goal.overflow_sub-t
overflow_sub-t c = omega (arith, c.among.ensures.here c.if-not-among.false)

pub visit_instant-requires : goal.visit_instant-requires
visit_instant-requires c =
    let f = c.among.ensures.here c.if-not-among.false in
    (whole_stands c.requires.node.0 c.requires.rule_value.1, rising_known c.args.block.rule c.requires.rule_value.0 c.requires.rule_value.1 c.rise_of-rise.ensures, omega (arith, f), c.requires.node.3.1, c.requires.node.3.0.rows_of)

pub returns : goal.returns
returns c =
    let b = c.args.block in let f = c.among.ensures.here c.if-not-among.false in
    reached (instant_suffices c.args.wiring.now.c c.args.wiring.now.k c.args.u b (rising_known b.rule c.requires.rule_value.0 c.requires.rule_value.1 c.rise_of-rise.ensures) c.requires.node.0.laid
    (omega (arith, f)) (omega (arith, f))) c.visit_instant.ensures
