-- After e turns the first e clauses are written;
-- a turn writes the next (Written.antt).
use mathlib.Core.Path.{refl}
use Rattle.table_literals.proofs.Written.{begun, turn, room}
use native.Mathlib.Omega.{arith}
use Rattle.table_literals.specs.Written.{raised_of}
use borrow.Author.Rules.{rules}
use Rattle.table_literals.proofs.put_raised.Goals as goal

pub loop-e-init : goal.loop-e-init
loop-e-init c = begun

pub put-b-requires : goal.put-b-requires
put-b-requires c =
    let r = room c.loop-e.invariant (search rules) refl c.requires.room in
    (omega (arith, r.variables), omega (arith, r.marks))

pub loop-e-preserved : goal.loop-e-preserved
loop-e-preserved c =
    turn c.loop-e.invariant (search rules) refl (c.put-b.ensures (raised_of _ _ _) refl refl)
