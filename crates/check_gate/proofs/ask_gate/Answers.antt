-- All clauses are met where the variable has the gate's value, else the first unmet one is the answer;
-- its number is one of the gate's, so the sum fits (Gates.antt).
use native.Mathlib.Omega.{arith}
use mathlib.Core.Path.{sym, ◌∙◌}
use Rattle.check_gate.proofs.Gates.{differ, gate_met, place_within}
use Rattle.paper_clauses.proofs.Meets.{beq_exactly}
use Rattle.check_gate.proofs.ask_gate.Goals as goal

pub returns-then-up-value : goal.returns-then-up-value
returns-then-up-value c =
    gate_met _ _ _ _ (sym c.high-up.ensures ∙ (beq_exactly c.high-up.result c.value.result).0 c.if-up-value.true ∙ c.value.ensures)

pub overflow_add-result : goal.overflow_add-result
overflow_add-result c =
    let s = c.args in
    omega (
      arith,
      place_within _ _ _ _ _ (c.first_unmet.ensures s.v s.n c.high-up.ensures
          (differ c.high-up.result c.value.result c.if-up-value.false c.value.ensures)),
    )

pub returns : goal.returns
returns c =
    c.first_unmet.ensures _ _ c.high-up.ensures (differ c.high-up.result c.value.result c.if-up-value.false c.value.ensures)
