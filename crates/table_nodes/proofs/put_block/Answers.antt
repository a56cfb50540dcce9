-- A constant's clauses are its variables in a row, each with one closing mark (Nodes.antt);
-- any other block is walked.
use Rattle.table_nodes.proofs.Nodes.{constant_known}
use Rattle.table_literals.specs.Written.{Room}
use Rattle.table_literals.proofs.Written.{named}
use mathlib.Core.Path.{sym, subst}
use native.Mathlib.Omega.{arith}
use Rattle.table_nodes.proofs.put_block.Goals as goal

pub put_run-requires : goal.put_run-requires
put_run-requires c =
    record { room = subst (Room _ _ _) (sym (constant_known _ _ _ c.in-Fixed.is c.closing.ensures)) c.requires.room; n_bound = omega (arith, c.requires.bounded.0.first, c.requires.bounded.1) }

pub returns-in-Fixed : goal.returns-in-Fixed
returns-in-Fixed c =
    named (constant_known _ _ _ c.in-Fixed.is c.closing.ensures) c.put_run.ensures
