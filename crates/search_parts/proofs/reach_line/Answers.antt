-- A part is judged place by place, so the gate in the variable's own place is the only one that mentions it.
-- Where it is of no part, no gate does.
use mathlib.Core.Path.{refl}
use native.Mathlib.Omega.{arith}
use Rattle.search_fanout.proofs.Cover.{reached, unread}
use Rattle.search_fanout.proofs.Lines.{left_suffices, right_suffices}
use Rattle.search_part_chop.proofs.Chop.{stopped}
use Rattle.search_parts.proofs.Part.{tested, untested, one_part, two_parts, line_away}
use Rattle.search_parts.proofs.reach_line.Goals as goal

pub overflow_sub-u : goal.overflow_sub-u
overflow_sub-u c =
    let w = tested _ c.parts_of-parts.result c.among.result c.if-parts-among.true in omega (arith, c.among.ensures.here w.1)

pub visit_line-requires : goal.visit_line-requires
visit_line-requires c =
    let w = tested _ c.parts_of-parts.result c.among.result c.if-parts-among.true in (c.requires.0, c.requires.1, omega (arith, c.among.ensures.here w.1))

pub returns-then-parts-among : goal.returns-then-parts-among
returns-then-parts-among c =
    let b = c.args.block in let w = tested _ c.parts_of-parts.result c.among.result c.if-parts-among.true in
    let f = c.among.ensures.here w.1 in
    reached (left_suffices c.args.c c.args.k c.args.u b _ (omega (arith, f)) (one_part b.rule c.parts_of-parts.ensures (omega (arith, w.0))) c.requires.0.laid
    (omega (arith, f))) c.visit_line.ensures

pub overflow_sub-u-then-parts-among-2 : goal.overflow_sub-u-then-parts-among-2
overflow_sub-u-then-parts-among-2 c =
    let w = tested _ c.parts_of-parts.result c.among-2.result c.if-parts-among-2.true in omega (arith, c.among-2.ensures.here w.1)

pub visit_line-requires-then-parts-among-2 : goal.visit_line-requires-then-parts-among-2
visit_line-requires-then-parts-among-2 c =
    let w = tested _ c.parts_of-parts.result c.among-2.result c.if-parts-among-2.true in (c.requires.0, c.requires.1, omega (arith, c.among-2.ensures.here w.1))

pub returns-then-parts-among-2 : goal.returns-then-parts-among-2
returns-then-parts-among-2 c =
    let b = c.args.block in let w = tested _ c.parts_of-parts.result c.among-2.result c.if-parts-among-2.true in
    let f = c.among-2.ensures.here w.1 in
    reached (right_suffices c.args.c c.args.k c.args.u b _ (omega (arith, f)) (two_parts b.rule c.parts_of-parts.ensures (omega (arith, w.0))) c.requires.0.laid
    (omega (arith, f))) c.visit_line-then-parts-among-2.ensures

pub returns : goal.returns
returns c =
    let b = c.args.block in
    stopped c.done.ensures (unread (line_away c.args.c c.args.k c.args.u b c.requires.0.laid c.requires.2 b.rule refl c.requires.1 c.requires.3 c.parts_of-parts.ensures
    (λ h. c.among.ensures.away (untested _ c.parts_of-parts.result c.among.result c.if-parts-among.false (omega (arith, h))))
    (λ h. c.among-2.ensures.away (untested _ c.parts_of-parts.result c.among-2.result c.if-parts-among-2.false (omega (arith, h))))) c.requires.0.trailing)
