-- By what the first byte begins, the chain of calls of `read_part` is the reader's run: a law of proofs/Parts.antt for each case. A read
-- that stops within the chain stops the whole.
use mathlib.Core.Path.{refl, sym, ap, ◌∙◌, subst}
use borrow.Author.Rules.{rules}
use Rattle.std.proofs.lemmas.Result.{err_from_is_err_and}
use Rattle.formula_reader.specs.Parts.{PartAt, on_good, test_at, is_sign, number_at}
use Rattle.formula_reader.proofs.Parts.{part_end, part_other, part_leaf, part_not, part_open, part_open_bad, part_enter, part_measure}
use Rattle.formula_reader.proofs.+read_part.Goals as goal

pub returns-then-at-text : goal.returns-then-at-text
returns-then-at-text t c = part_end c.args.text.now c.args.s c.args.at (search rules) (search rules)

pub returns-in-Leaf : goal.returns-in-Leaf
returns-in-Leaf t c = part_leaf c.args.text.now c.args.s c.args.at (search rules) (sym c.in-Leaf.is ∙ c.lead_of.ensures)

pub returns-in-Not : goal.returns-in-Not
returns-in-Not t c = part_not c.args.text.now c.args.s c.args.at (search rules) c.read_part.result (sym c.in-Not.is ∙ c.lead_of.ensures) c.read_part.ensures

pub returns-in-Other : goal.returns-in-Other
returns-in-Other t c = part_other c.args.text.now c.args.s c.args.at (search rules) (sym c.in-Other.is ∙ c.lead_of.ensures)

pub returns-in_err-first-in-Open : goal.returns-in_err-first-in-Open
returns-in_err-first-in-Open t c =
    let p = err_from_is_err_and c.from_residual.result c.from_residual.ensures.1 in
    rw (p.1, p.2) (part_open_bad c.args.text.now c.args.s c.args.at (search rules) _ _ (sym c.in-Open.is ∙ c.lead_of.ensures) c.in_err-first-in-Open.ensures refl)

pub returns-in_err-joint-in-Open : goal.returns-in_err-joint-in-Open
returns-in_err-joint-in-Open t c =
    let p = err_from_is_err_and c.from_residual-in_err-joint-in-Open.result c.from_residual-in_err-joint-in-Open.ensures.1 in
    rw (p.1, p.2) (part_open_bad c.args.text.now c.args.s c.args.at (search rules) _ _ (sym c.in-Open.is ∙ c.lead_of.ensures)
    c.in_ok-first-in-Open.ensures (sym c.in_err-joint-in-Open.ensures))

pub returns-in_ok-joint-in-Open : goal.returns-in_ok-joint-in-Open
returns-in_ok-joint-in-Open t c =
    subst (PartAt c.args.text.now c.args.s c.args.at) (sym c.signed_by.ensures)
    (part_open c.args.text.now c.args.s c.args.at (search rules) _ _ _ (sym c.in-Open.is ∙ c.lead_of.ensures)
    c.in_ok-first-in-Open.ensures (sym c.in_ok-joint-in-Open.ensures) c.read_part-in-Open-2.ensures)

pub returns-in-Measure : goal.returns-in-Measure
returns-in-Measure t c =
    let e = c.numbered_by.ensures ∙ ap (on_good c.args.text.now number_at)
    (c.signed_by-in-Measure.ensures ∙ ap (on_good c.args.text.now (test_at (is_sign 61))) c.signed_by-above.ensures) in
    subst (PartAt c.args.text.now c.args.s c.args.at) (sym e)
    (part_measure c.args.text.now c.args.at (search rules) _ c.read_part-in-Measure.ensures c.args.s (sym c.in-Measure.is ∙ c.lead_of.ensures))

pub returns-in-Enter : goal.returns-in-Enter
returns-in-Enter t c =
    subst (PartAt c.args.text.now c.args.s c.args.at) (sym c.signed_by-in-Enter.ensures)
    (part_enter c.args.text.now c.args.at (search rules) _ c.read_part-in-Enter.ensures c.args.s (sym c.in-Enter.is ∙ c.lead_of.ensures))
