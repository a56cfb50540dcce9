-- After e turns the first e clauses are written;
-- a turn writes the next (Written.antt).
use Rattle.table_literals.specs.Written.{Sofar, raised_of}
use Prim.Native.Nat.{◌-◌}
use Rattle.table_literals.proofs.put_raised.Given as goal

abbrev pub invariant-loop-e : goal.invariant-loop-e
invariant-loop-e l = Sofar l.initial.variables l.initial.marks l.at (raised_of l.v l.w) l.n l.variables l.marks l.b l.e

abbrev pub decreases-loop-e : goal.decreases-loop-e
decreases-loop-e l = l.n - l.e
