-- The bits are compared with what is forced, at each four values (Table.antt).
-- The last variable's value tells which bits.
use mathlib.Core.Path.{◌≡◌, sym, ap}
use native.Mathlib.Omega.{arith}
use Rattle.search_patterns.proofs.Table.{step_mask, step_bit}
use Rattle.search_patterns.proofs.step_quiet.Goals as goal

pub returns-then-d-eq-OPEN : goal.returns-then-d-eq-OPEN
returns-then-d-eq-OPEN c =
    let a = c.args in
    step_bit a.a a.b a.c c.requires.0 c.requires.1 c.requires.2 a.d c.requires.3 c.wide.ensures c.wide-2.ensures c.wide-3.ensures (sym (ap step_mask c.if-d-eq-OPEN.true))

pub returns-then-d-eq-HIGH : goal.returns-then-d-eq-HIGH
returns-then-d-eq-HIGH c =
    let a = c.args in
    step_bit a.a a.b a.c c.requires.0 c.requires.1 c.requires.2 a.d c.requires.3 c.wide.ensures c.wide-2.ensures c.wide-3.ensures (sym (ap step_mask c.if-d-eq-HIGH.true))

pub returns : goal.returns
returns c =
    let a = c.args in
    let e : a.d ≡ 2 = omega (arith, c.requires.3, c.if-d-eq-OPEN.false, c.if-d-eq-HIGH.false) in
    step_bit a.a a.b a.c c.requires.0 c.requires.1 c.requires.2 a.d c.requires.3 c.wide.ensures c.wide-2.ensures c.wide-3.ensures (sym (ap step_mask e))
