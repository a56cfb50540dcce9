-- Each question is asked as the code comes to it, of the sizes and the clauses that the node table gives;
-- the first no answers, and the last answers if there is none before (Call.antt).
use Rattle.std.proofs.lemmas.Result.{err_from_is_err_and}
use Rattle.table_layout.proofs.Mentioned.{table_mentioned}
use Rattle.check_calls.proofs.Call.{length_yes, length_no, values_no, clauses_no, places_last}
use mathlib.Core.Path.{sym}
use native.Mathlib.Omega.{arith}
use Rattle.check_calls.proofs.ask_proposal.Goals as goal

pub layout_of-layout-requires : goal.layout_of-layout-requires
layout_of-layout-requires c = (c.requires.0, c.requires.1, c.requires.2)

pub returns-in_err-ask : goal.returns-in_err-ask
returns-in_err-ask c =
    let p = err_from_is_err_and c.from_residual.result c.from_residual.ensures.1 in
    λ f e. rw (p.1, p.2) (length_no _ _ f e c.layout_of-layout.ensures _ _ c.in_err-ask.ensures)

pub ask_below-requires : goal.ask_below-requires
ask_below-requires c =
    let n = c.layout_of-layout.result.sizes.variables in
    omega (arith, length_yes c.args.assignment.now n (sym c.in_ok-ask.ensures))

pub returns-in_err-ask_below : goal.returns-in_err-ask_below
returns-in_err-ask_below c =
    let p = err_from_is_err_and c.from_residual-in_err-ask_below.result c.from_residual-in_err-ask_below.ensures.1 in
    λ f e. rw (p.1, p.2) (values_no _ _ f e c.layout_of-layout.ensures _ _ c.in_ok-ask.ensures
    c.in_err-ask_below.ensures)

pub ask_table-requires : goal.ask_table-requires
ask_table-requires c =
    let w = c.layout_of-layout.ensures in
    let t = c.requires.3 in record {
      c_le_max_channels = (c.requires.0, c.requires.1, c.requires.2, w.low);
      all_mentioned = table_mentioned _ _ t.0 t.1.is w t.1.letters c.args.assignment.now
          (length_yes c.args.assignment.now _ (sym c.in_ok-ask.ensures));
    }

pub returns-in_err-ask_table : goal.returns-in_err-ask_table
returns-in_err-ask_table c =
    let p = err_from_is_err_and c.from_residual-in_err-ask_table.result c.from_residual-in_err-ask_table.ensures.1 in
    λ f e. rw (p.1, p.2) (clauses_no _ _ f e c.layout_of-layout.ensures _ _ c.in_ok-ask.ensures
    c.in_ok-ask_below.ensures c.in_err-ask_table.ensures)

pub returns : goal.returns
returns c =
    λ f e. places_last _ _ f e c.layout_of-layout.ensures _ _ c.in_ok-ask.ensures
    c.in_ok-ask_below.ensures c.in_ok-ask_table.ensures c.ask-2.ensures
