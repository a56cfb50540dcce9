-- The questions of the formula are those of its node table; then comes the search on it,
-- which is the formula's that the text reads as (Call.antt).
use mathlib.Core.Path.{refl}
use Rattle.node_calls.proofs.Called.{limits, few_rows, table_for_lem}
use Rattle.search_calls.proofs.Call.{called}
use Rattle.search_calls.proofs.search.Goals as goal

pub search_table-requires : goal.search_table-requires
search_table-requires c =
    let e = c.in_ok-table.ensures in let l = limits _ _ _ e in (l.0, l.1, few_rows _ _ _ e, table_for_lem _ _ _ e)

pub returns : goal.returns
returns c =
    record { recording_value = called _ _ _ _ _ _ c.in_ok-table.ensures c.search_table.ensures.recording_value; unchanged = (λ r q. refl, λ r q. refl); unchanged_2 = c.search_table.ensures.unchanged }
