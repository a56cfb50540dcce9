-- After each turn the values of all nodes from row x on are written, the last node's first;
-- a node's block is handed what its parts' truth makes of it, and these stand after it (Rows.antt).
use Rattle.extend_calls.proofs.Rows.{Extending}
use Rattle.extend_calls.proofs.put_nodes.Given as goal

abbrev pub invariant-loop-x : goal.invariant-loop-x
invariant-loop-x l = Extending l.k l.recording l.table l.firsts l.last l.initial.assignment l.assignment l.x l.end
