-- Level 0 is true, and a level above is false on an empty interval; else it goes by the places before,
-- in its level and in the one below.
use mathlib.Core.Path.{◌≡◌, ap, ◌∙◌}
use Prim.Native.Nat.{ℕ, ◌+◌, ◌-◌}
use Rattle.interval.specs.Places.{count_of}
use Rattle.paper_circuit.specs.declared.Gate.TheVariants.{Step}
use borrow.Author.Tests.{eq-eqb, ne_eqb}
use native.Mathlib.Omega.{arith}
use Rattle.table_blocks.proofs.level_gate.Goals as goal

pub returns-then-a-eq0 : goal.returns-then-a-eq0
returns-then-a-eq0 c = simp (eq-eqb _ _ c.if-a-eq0.true)

pub returns-then-d-eq0 : goal.returns-then-d-eq0
returns-then-d-eq0 c = simp (ne_eqb _ _ c.if-a-eq0.false, eq-eqb _ _ c.if-d-eq0.true)

pub overflow_sub-p : goal.overflow_sub-p
overflow_sub-p c = omega (arith, c.requires.6 (omega (arith, c.if-a-eq0.false)) (omega (arith, c.if-d-eq0.false)))

pub overflow_sub-result : goal.overflow_sub-result
overflow_sub-result c = omega (arith, c.requires.6 (omega (arith, c.if-a-eq0.false)) (omega (arith, c.if-d-eq0.false)), c.requires.1)

pub returns : goal.returns
returns c =
    let a = c.args in
    let q : a.b + (a.x - 1) - a.all ≡ a.b + (a.x - 1 - count_of a.k) =
    omega (arith, c.requires.6 (omega (arith, c.if-a-eq0.false)) (omega (arith, c.if-d-eq0.false)), c.requires.1) in
    ap (λ (q : ℕ). Step (a.b + (a.x - 1)) q (a.s + (a.i + (a.d - 1)))) q ∙ simp (ne_eqb _ _ c.if-a-eq0.false, ne_eqb _ _ c.if-d-eq0.false)
