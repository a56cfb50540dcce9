-- A chop has two blocks; else the form tells: one line, or intervals, of a duration or `[S]`.
-- No node is of triples alone.
use mathlib.Core.Path.{sym, ◌∙◌}
use Rattle.table_blocks.proofs.Rules.{chop_rule}
use Rattle.search_lines.proofs.Places.{no_triples}
use Rattle.search_parts.proofs.reach.Goals as goal

pub reach_chop-requires : goal.reach_chop-requires
reach_chop-requires c =
    (c.requires.0, chop_rule c.args.block.rule (sym c.is_chop.ensures ∙ c.if-is_chop.true), c.requires.1, c.requires.2, c.requires.3)

pub reach_instant-requires : goal.reach_instant-requires
reach_instant-requires c =
    record { node = c.requires; rule_value = (sym c.form_of.ensures ∙ c.in-Intervals.is, sym c.is_chop.ensures ∙ c.if-is_chop.false) }

pub returns-in-Triples : goal.returns-in-Triples
returns-in-Triples c =
    let a = c.args in
    no_triples a.wiring.now.k a.block a.block.rule (sym c.form_of.ensures ∙ c.in-Triples.is) c.requires.0.laid.apart
