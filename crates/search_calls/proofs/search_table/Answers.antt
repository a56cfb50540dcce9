-- Question 18 is asked of the formula's sizes; where it is answered with yes, all arrays are long enough,
-- and what comes of the search is never a refusal (Call.antt).
use mathlib.Core.Path.{refl, sym, ◌∙◌}
use Rattle.std.proofs.lemmas.Result.{err_from_is_err_and}
use Rattle.paper_search.proofs.Ends.{unrefused}
use Rattle.search_calls.proofs.Call.{lent_enough, lent_refused, lent_searched}
use Rattle.search_calls.proofs.search_table.Goals as goal

pub layout_of-layout-requires : goal.layout_of-layout-requires
layout_of-layout-requires c = (c.requires.0, c.requires.1, c.requires.2)

pub returns-in_err-ask_lent : goal.returns-in_err-ask_lent
returns-in_err-ask_lent c =
    let p = err_from_is_err_and c.from_residual.result c.from_residual.ensures.1 in
    record { recording_value = λ f e. rw (p.1, p.2) (lent_refused _ _ f e c.layout_of-layout.ensures _ _ _ c.in_err-ask_lent.ensures); unchanged = (λ r q. refl, λ r q. refl) }

pub search_lent-requires : goal.search_lent-requires
search_lent-requires c =
    let g = lent_enough _ _ _ _ (sym c.in_ok-ask_lent.ensures) in
    record { c_le_max_channels = c.requires; measured = c.layout_of-layout.ensures; variables_in_bounds = (g.values, g.trail, g.recording) }

pub returns : goal.returns
returns c =
    let p = c.requires.3 in let w = c.search_lent.ensures in let n = unrefused _ _ _ _ _ (w p.0 p.1.is) in record { recording_value = λ f e. w f e ∙ lent_searched _ _ f e c.layout_of-layout.ensures _ _ _ c.in_ok-ask_lent.ensures; unchanged = (λ r q. absurd (n r q), λ r q. absurd (n r q)) }
