-- A chop has two blocks; else the form tells: one line, or intervals, of a duration or `[S]`. No node is of triples alone.
-- What is visited suffices for the variable (search_fanout's laws).
use mathlib.Core.Path.{sym, ◌∙◌, subst}
use native.Mathlib.Omega.{arith}
use Rattle.search_fanout.proofs.Cover.{reached, reached_there}
use Rattle.search_fanout.proofs.Lines.{own_suffices}
use Rattle.search_fanout.specs.Fanout.{InBlock}
use Rattle.search_lines.proofs.Places.{own_chop, line_below, no_triples}
use Rattle.table_blocks.proofs.Rules.{chop_rule}
use Rattle.search_own.proofs.reach.Goals as goal

pub reach_chop-requires : goal.reach_chop-requires
reach_chop-requires c =
    let b = c.args.block in
    let e = chop_rule b.rule (sym c.is_chop.ensures ∙ c.if-is_chop.true) in
    (c.requires.0, e, own_chop c.args.wiring.now.k b c.requires.1 (omega (arith, c.requires.1)) e, c.requires.2)

pub returns-then-is_chop : goal.returns-then-is_chop
returns-then-is_chop c =
    reached_there (omega (arith, c.requires.1)) c.reach_chop.ensures

pub visit_line-requires : goal.visit_line-requires
visit_line-requires c =
    let b = c.args.block in
    let e = sym c.form_of.ensures ∙ c.in-Line.is in
    (c.requires.0, e, line_below c.args.wiring.now.k b c.requires.1 (omega (arith, c.requires.1)) e)

pub reach_level-requires : goal.reach_level-requires
reach_level-requires c =
    let b = c.args.block in record { node = (c.requires.0, subst (InBlock c.args.wiring.now.k b) (omega (arith, c.requires.1)) c.requires.1, c.requires.2); rule_value = (sym c.form_of.ensures ∙ c.in-Intervals.is, sym c.is_chop.ensures ∙ c.if-is_chop.false) }

pub returns-in-Line : goal.returns-in-Line
returns-in-Line c =
    let a = c.args in let w = a.wiring.now in let b = a.block in let e = sym c.form_of.ensures ∙ c.in-Line.is in
    reached (own_suffices w.c w.k a.u b _ (line_below w.k b c.requires.1 (omega (arith, c.requires.1)) e) e c.requires.0.laid (omega (arith, c.requires.1))) c.visit_line.ensures

pub returns-in-Intervals : goal.returns-in-Intervals
returns-in-Intervals c =
    reached_there (omega (arith, c.requires.1)) c.reach_level.ensures

pub returns-in-Triples : goal.returns-in-Triples
returns-in-Triples c =
    no_triples c.args.wiring.now.k c.args.block c.args.block.rule (sym c.form_of.ensures ∙ c.in-Triples.is)
    c.requires.0.laid.apart
