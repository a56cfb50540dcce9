-- The questions of the formula are those of its node table, then come 12 to 14 and 18;
-- then the recording is written over the lent array (Call.antt).
use Rattle.std.proofs.lemmas.Result.{err_from_is_err_and}
use Rattle.check_calls.proofs.Call.{refused_later, room, recorded_fits, accepted_last}
use Rattle.node_calls.proofs.Called.{limits, few_rows, table_for_lem}
use mathlib.Core.Path.{sym}
use native.Mathlib.Omega.{arith}
use Rattle.check_calls.proofs.check.Goals as goal

pub ask_proposal-requires : goal.ask_proposal-requires
ask_proposal-requires c =
    let e = c.in_ok-table.ensures in let l = limits _ _ _ e in (l.0, l.1, few_rows _ _ _ e, table_for_lem _ _ _ e)

pub returns-in_err-ask_proposal : goal.returns-in_err-ask_proposal
returns-in_err-ask_proposal c =
    let p = err_from_is_err_and c.from_residual-in_err-ask_proposal.result c.from_residual-in_err-ask_proposal.ensures.1 in
    rw (p.1, p.2) (refused_later _ _ _ _ _ c.in_ok-table.ensures c.ask_proposal.ensures c.in_err-ask_proposal.was)

pub slice_bounds-put_recording-end : goal.slice_bounds-put_recording-end
slice_bounds-put_recording-end c =
    room _ _ _ _ c.args.recording.now c.in_ok-table.ensures c.ask_proposal.ensures c.in_ok-ask_proposal.was

pub slice_bounds-put_recording-end-2 : goal.slice_bounds-put_recording-end-2
slice_bounds-put_recording-end-2 c =
    sym (recorded_fits _ _ _ _ _ c.in_ok-table.ensures c.ask_proposal.ensures c.in_ok-ask_proposal.was).0

pub put_recording-requires : goal.put_recording-requires
put_recording-requires c =
    let l = limits _ _ _ c.in_ok-table.ensures in
    let f = recorded_fits _ _ _ _ c.args.recording.now c.in_ok-table.ensures c.ask_proposal.ensures c.in_ok-ask_proposal.was in
    (l.0, omega (arith, l.1, f.0), f.1)

pub returns : goal.returns
returns c =
    accepted_last _ _ _ _ _ c.in_ok-table.ensures c.ask_proposal.ensures c.in_ok-ask_proposal.was c.put_recording.ensures
