-- A variable that has the constant meets its one clause, so the clause of the first that has not is the first unmet one,
-- and its number is how many came before (Walk.antt).
use borrow.Author.Tests.{not-true, not-false}
use Rattle.check_clauses.proofs.Walk.{constants_begun, constants_turn, constants_stopped, constants_done}
use Rattle.paper_clauses.proofs.Meets.{beq_exactly}
use Rattle.check_gate.proofs.Gates.{differ}
use mathlib.Core.Path.{refl}
use Rattle.check_clauses.proofs.ask_constants.Goals as goal

pub loop-e-init : goal.loop-e-init
loop-e-init c = constants_begun _ _ _ _ _

pub returns-then-high-up : goal.returns-then-high-up
returns-then-high-up c =
    constants_stopped _ _ _ _ _ c.loop-e.invariant c.loop-e-test.true c.high.ensures (differ c.high.result c.args.up (not-true _ c.if-high-up.true) refl)

pub loop-e-preserved : goal.loop-e-preserved
loop-e-preserved c =
    constants_turn _ _ _ _ _ c.loop-e.invariant c.loop-e-test.true c.high.ensures ((beq_exactly c.high.result c.args.up).0 (not-false _ c.if-high-up.false))

pub returns : goal.returns
returns c = constants_done _ _ _ _ _ c.loop-e.invariant c.loop-e-test.false
