-- The questions of the formula are those of its node table; then the table is written from it,
-- and it is the table of the tree that the text reads as (Call.antt).
use Rattle.table_calls.proofs.Call.{called}
use Rattle.node_calls.proofs.Called.{limits, few_rows}
use Rattle.table_calls.proofs.table.Goals as goal

pub write_table-requires : goal.write_table-requires
write_table-requires c =
    let l = limits _ _ _ c.in_ok-table.ensures in (l.0, l.1, few_rows _ _ _ c.in_ok-table.ensures)

pub returns : goal.returns
returns c = called _ _ _ _ _ _ c.in_ok-table.ensures c.write_table.ensures
