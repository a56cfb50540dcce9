-- `rows_of` keeps: the rows from x on are their nodes', and those before it are begun.
-- Before the loop all are begun; each turn finds the one before, whose parts come later; at 0 all are found.
use Rattle.node_rows.proofs.Found.{Found}
use Rattle.node_rows.proofs.rows_of.Given as goal

abbrev pub invariant-loop-x : goal.invariant-loop-x
invariant-loop-x l = Found l.text l.table l.x
