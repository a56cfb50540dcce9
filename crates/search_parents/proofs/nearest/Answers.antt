-- Every row between the loop's and z ends before z; the root's rows do not, so the loop ends at a row that z is among.
-- That row is the nearest.
use mathlib.Core.Path.{◌≡◌, sym, ap, subst}
use mathlib.Core.Logic.{by_cases}
use Prim.Native.Nat.{◌+◌, ◌≤◌, ◌<◌}
use native.Mathlib.Decide.{dec_lt}
use native.Mathlib.Omega.{arith}
use lib.ListN.{get_or}
use Rattle.search_parents.proofs.nearest.Goals as goal

pub loop-y-init : goal.loop-y-init
loop-y-init c = (omega (arith, c.requires), λ v a b. absurd (omega arith))

pub overflow_add-y : goal.overflow_add-y
overflow_add-y c = omega (arith, c.requires, c.loop-y.invariant.0)

pub overflow_sub-y-in-loop-y : goal.overflow_sub-y-in-loop-y
overflow_sub-y-in-loop-y c =
    let i = c.loop-y.invariant in let a = c.args in
    by_cases (dec_lt 0 c.loop-y.y) (λ l. omega (arith, l))
    (λ n. let e : c.loop-y.y ≡ 0 = omega (arith, n) in
    absurd (omega (arith, ap (λ y. get_or a.sizes.now y 0) e, c.byte_at.ensures, c.loop-y-test.true, c.requires)))

pub loop-y-smaller : goal.loop-y-smaller
loop-y-smaller c =
    let i = c.loop-y.invariant in let a = c.args in
    by_cases (dec_lt 0 c.loop-y.y) (λ l. omega (arith, l))
    (λ n. let e : c.loop-y.y ≡ 0 = omega (arith, n) in
    absurd (omega (arith, ap (λ y. get_or a.sizes.now y 0) e, c.byte_at.ensures, c.loop-y-test.true, c.requires)))

pub loop-y-preserved : goal.loop-y-preserved
loop-y-preserved c =
    let i = c.loop-y.invariant in
    let sizes = c.args.sizes.now in (
      omega (arith, i.0),
      λ v a b. by_cases (dec_lt c.loop-y.y v) (λ l. i.1 v l b)
          (λ n. let e : v ≡ c.loop-y.y = omega (arith, n, a) in subst (λ v. v + get_or sizes v 0 ≤ c.args.z) (sym e)
          (omega (arith, c.byte_at.ensures, c.loop-y-test.true))),
    )

pub returns : goal.returns
returns c =
    let i = c.loop-y.invariant in record { before = i.0; among = omega (arith, c.byte_at.ensures, c.loop-y-test.false); between = i.1 }
