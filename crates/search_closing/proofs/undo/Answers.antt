-- A turn takes back the last that is left (Trail.antt).
use Rattle.std.proofs.Common.{ℕ, ap, sym, ◌∙◌, arith}
use Rattle.search_closing.specs.Values.{undone}
use Rattle.search_closing.proofs.Trail.{undone_none, undone_last, but_last}
use Rattle.search_closing.proofs.undo.Goals as goal

pub loop-v-preserved : goal.loop-v-preserved
loop-v-preserved c =
    let i = c.loop-v.invariant in
    let (n, places, last) = but_last _ _ _ c.in-Some.ensures.steps i.places in
    record { left = omega (arith, n, i.left); places = places; back = undone_last _ _ _ _ _ (c.place.ensures ∙ last) ∙ ap (λ (n : ℕ). undone c.args.trail.now c.args.from n c.loop-v.values) (sym n) ∙ i.back }

pub returns : goal.returns
returns c = sym (undone_none _ _ _ _ c.in-None.ensures.steps.0) ∙ c.loop-v.invariant.back
