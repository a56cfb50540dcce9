-- A variable that has the constant meets its one clause, so the clause of the first that has not is the first unmet one,
-- and its number is how many came before (Walk.antt).
use Rattle.check_clauses.proofs.Walk.{Met}
use Rattle.check_clauses.specs.Walk.{constants}
use Rattle.paper_assignments.specs.Extension.{value_in}
use Prim.Native.Nat.{◌+◌}
use Rattle.check_clauses.proofs.ask_constants.Given as goal

abbrev pub invariant-loop-e : goal.invariant-loop-e
invariant-loop-e l = Met (value_in l.assignment) l.m (constants l.w l.n l.up) (l.m + l.e) l.e
