-- A turn stores one item more, so that after e turns the first e are stored
-- (Written.antt).
use Rattle.std.proofs.Common.{◌≡◌, take}
use lib.Seq.{sets}
use Rattle.table_literals.proofs.store.Given as goal

abbrev pub invariant-loop-e : goal.invariant-loop-e
invariant-loop-e g l = l.out ≡ sets l.initial.out l.at (take l.e l.more)
