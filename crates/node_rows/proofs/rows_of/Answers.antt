-- `rows_of` keeps: the rows from x on are their nodes', and those before it are begun.
-- Before the loop all are begun; each turn finds the one before, whose parts come later; at 0 all are found.
use borrow.Author.Rules.{rules}
use Rattle.node_rows.proofs.Found.{found_none, found_room, found_code, found_fits, found_more}
use Rattle.node_rows.proofs.rows_of.Goals as goal

pub loop-x-init : goal.loop-x-init
loop-x-init c = found_none _ _ c.begun_rows-table.ensures

pub row_at-row-requires : goal.row_at-row-requires
row_at-row-requires c =
    let a = c.requires in
    (found_room a.0 a.1 _ a.2 _ _ c.loop-x.invariant c.loop-x-test.true, found_code a.0 a.1 _ a.2 _ _ c.loop-x.invariant c.loop-x-test.true)

pub bounds-table-x : goal.bounds-table-x
bounds-table-x c =
    let a = c.requires in
    found_room a.0 a.1 _ a.2 _ _ c.loop-x.invariant c.loop-x-test.true

pub bounds-table-x-in-loop-x : goal.bounds-table-x-in-loop-x
bounds-table-x-in-loop-x c =
    let a = c.requires in
    found_room a.0 a.1 _ a.2 _ _ c.loop-x.invariant c.loop-x-test.true

pub overflow_cast-table : goal.overflow_cast-table
overflow_cast-table c =
    let a = c.requires in
    let m = found_fits a.0 a.1 _ a.2 _ _ c.loop-x.invariant c.loop-x-test.true _ c.row_at-row.ensures in
    search rules

pub bounds-table-x-in-loop-x-2 : goal.bounds-table-x-in-loop-x-2
bounds-table-x-in-loop-x-2 c =
    let a = c.requires in
    found_room a.0 a.1 _ a.2 _ _ c.loop-x.invariant c.loop-x-test.true

pub overflow_cast-table-in-loop-x : goal.overflow_cast-table-in-loop-x
overflow_cast-table-in-loop-x c =
    let a = c.requires in
    let m = found_fits a.0 a.1 _ a.2 _ _ c.loop-x.invariant c.loop-x-test.true _ c.row_at-row.ensures in
    search rules

pub bounds-table-x-in-loop-x-3 : goal.bounds-table-x-in-loop-x-3
bounds-table-x-in-loop-x-3 c =
    let a = c.requires in
    found_room a.0 a.1 _ a.2 _ _ c.loop-x.invariant c.loop-x-test.true

pub loop-x-preserved : goal.loop-x-preserved
loop-x-preserved c =
    let a = c.requires in
    found_more a.0 a.1 _ a.2 _ _ c.loop-x.invariant c.loop-x-test.true _ c.row_at-row.ensures
