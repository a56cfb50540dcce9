-- `row_from` goes by what the byte begins:
-- each arm's answer is the definition's at that lead.
use mathlib.Core.Path.{refl, sym, ap, ◌∙◌}
use Prim.Native.Nat.{ℕ, ◌+◌}
use Rattle.paper_grammar.specs.declared.Lead.TheVariants.{Leaf, Not, Open, Measure, Enter, Other}
use Rattle.node_rows.specs.Table.{heading}
use Rattle.node_rows.specs.Rows.{link_of, duration_row}
use Rattle.node_rows.proofs.Rows.{same_row, from_lead}
use Rattle.node_rows.proofs.row_from.Goals as goal

pub returns-in-Leaf : goal.returns-in-Leaf
returns-in-Leaf c =
    c.row_of.ensures ∙ same_row _ _ _ _ _ _ _ (ap (λ (n : ℕ). heading (c.args.code + n) 0) c.constant_code.ensures.0) refl refl ∙
    from_lead _ _ _ _ _ _ Leaf (sym c.lead_of-l.ensures ∙ c.in-Leaf.is)

pub returns-in-Not : goal.returns-in-Not
returns-in-Not c = c.row_of-in-Not.ensures ∙ from_lead _ _ _ _ _ _ Not (sym c.lead_of-l.ensures ∙ c.in-Not.is)

pub returns-in-Open : goal.returns-in-Open
returns-in-Open c =
    c.row_of-in-Open.ensures ∙ same_row _ _ _ _ _ _ _ (ap (λ (n : ℕ). heading (c.args.code + n) 0)
    (c.link_of.ensures.0 ∙ ap link_of c.byte_at.ensures)) refl refl ∙ from_lead _ _ _ _ _ _ Open (sym c.lead_of-l.ensures ∙ c.in-Open.is)

pub returns-in-Measure : goal.returns-in-Measure
returns-in-Measure c =
    c.row_of-in-Measure.ensures ∙ same_row _ _ _ _ _ _ _ refl refl (ap (λ (n : ℕ). 1 + c.args.p.length + 2 + n) c.digits_of.ensures.0)
    ∙ ap (λ (n : ℕ). duration_row n c.args.at c.args.p) c.number_at-n.ensures.0 ∙
    from_lead _ _ _ _ _ _ Measure (sym c.lead_of-l.ensures ∙ c.in-Measure.is)

pub returns-in-Enter : goal.returns-in-Enter
returns-in-Enter c = c.row_of-in-Enter.ensures ∙ from_lead _ _ _ _ _ _ Enter (sym c.lead_of-l.ensures ∙ c.in-Enter.is)

pub returns-in-Other : goal.returns-in-Other
returns-in-Other c =
    c.row_of-in-Other.ensures ∙ same_row _ _ _ _ _ _ _ (ap (heading 6) c.channel_of.ensures) refl refl ∙
    from_lead _ _ _ _ _ _ Other (sym c.lead_of-l.ensures ∙ c.in-Other.is)
