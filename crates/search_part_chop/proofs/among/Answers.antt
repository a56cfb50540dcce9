-- Both bounds are tested, the lower one first.
-- A number below it is none of them.
use mathlib.Core.Bool.{false≢true}
use Prim.Native.Nat.{◌-◌}
use native.Mathlib.Omega.{arith}
use borrow.Author.Tests.{ltb-true, ltb-false}
use Rattle.search_part_chop.proofs.among.Goals as goal

pub returns-then-u-w : goal.returns-then-u-w
returns-then-u-w c = record { here = λ e. absurd (false≢true e); away = λ e f. omega (arith, f, c.if-u-w.true) }

pub returns : goal.returns
returns c =
    let a = c.args in
    record { here = λ e. omega (arith, ltb-true (a.u - a.w) a.n e, c.if-u-w.false); away = λ e f. omega (arith, ltb-false (a.u - a.w) a.n e, f, c.if-u-w.false) }
