-- The questions of the formula are those of its node table, then come 10 and 11, in this order;
-- then the extension is written from the node table, which is that of the tree that the text reads as (Call.antt).
use Rattle.extend_calls.proofs.Call.{called}
use Rattle.node_calls.proofs.Called.{limits, few_rows}
use Rattle.paper_meaning.proofs.Recording.{recording_length}
use mathlib.Core.Path.{sym}
use native.Mathlib.Omega.{arith}
use Rattle.extend_calls.proofs.extend.Goals as goal

pub ask_bytes-requires : goal.ask_bytes-requires
ask_bytes-requires c =
    let l = limits _ _ _ c.in_ok-table.ensures in (l.0, omega (arith, l.1, recording_length _ _ (sym c.in_ok-ask_recording.ensures)))

pub write_extension-requires : goal.write_extension-requires
write_extension-requires c =
    let e = c.in_ok-table.ensures in let l = limits _ _ _ e in (l.0, l.1, few_rows _ _ _ e, recording_length _ _ (sym c.in_ok-ask_recording.ensures))

pub returns : goal.returns
returns c = called _ _ _ _ _ c.in_ok-table.ensures c.in_ok-ask_recording.ensures c.in_ok-ask_bytes.ensures c.write_extension.ensures
