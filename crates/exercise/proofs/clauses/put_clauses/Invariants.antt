-- `put_clauses` writes one literal a turn: no more clauses start than there are literals, so their number fits.
use Rattle.std.proofs.Common.{◌≤◌, length}
use Rattle.exercise.proofs.clauses.put_clauses.Given as goal

abbrev pub invariant-loop-variable : goal.invariant-loop-variable
invariant-loop-variable g l = l.clause ≤ length l.yielded
