-- On an empty interval `[S]` is false, on one step it is S there; else it is its value on the interval one shorter, the variable before,
-- and S at the last instant.
use native.Mathlib.Omega.{arith}
use Rattle.table_blocks.proofs.Throughout.{throughout_empty, throughout_one, throughout_longer}
use Rattle.table_blocks.proofs.throughout_gate.Goals as goal

pub returns-then-d-eq0 : goal.returns-then-d-eq0
returns-then-d-eq0 c = throughout_empty _ _ _ _ c.if-d-eq0.true

pub returns-then-d-eq1 : goal.returns-then-d-eq1
returns-then-d-eq1 c = throughout_one _ _ _ _ c.if-d-eq0.false (omega (arith, c.if-d-eq1.true))

pub returns : goal.returns
returns c = throughout_longer _ _ _ _ (omega (arith, c.if-d-eq0.false, c.if-d-eq1.false))
