-- At turn i the running sum is where row i starts, and the table has the starts up to it:
-- the next start is a row's length further.
use mathlib.Core.Path.{◌≡◌, refl, ◌∙◌, subst}
use Prim.Native.Nat.{ℕ, suc, ◌+◌, ◌-◌, ◌≤◌, ◌<◌}
use native.Mathlib.Omega.{arith}
use lib.ListN.{length, length-set}
use lib.Seq.{get_or-set_same}
use Rattle.lists.specs.Listing.{sum}
use Rattle.interval.specs.Rows.{start_of, Begins}
use Rattle.interval.proofs.Rows.{row_next, row_small, begun, one_more}
use Rattle.interval.proofs.Interval.put_rows.Goals as goal
use Rattle.interval.proofs.Interval.put_rows.Goals.{In-loop-i}

pub loop-i-init : goal.loop-i-init
unfolding sum
loop-i-init c =
    let n = length-set c.args.rows.now 0 0 in
    (omega arith, refl, refl, begun _ (omega (arith, n, c.requires)) (get_or-set_same c.args.rows.now 0 0 0 (omega (arith, c.requires))))

pub overflow_add-start-in-loop-i : goal.overflow_add-start-in-loop-i
overflow_add-start-in-loop-i c =
    let k = c.args.k in
    omega (arith, c.loop-i.invariant.1, row_small k c.loop-i.i c.requires.0 c.loop-i.invariant.0, c.requires.0)

here : (c : In-loop-i) → c.loop-i.i + 1 < length c.loop-i.rows
here c = omega (arith, c.loop-i.invariant.2, length-set c.args.rows.now 0 0, c.requires.1, c.loop-i-test.true)

pub bounds-rows-i : goal.bounds-rows-i
bounds-rows-i c = here (goal.at.bounds-rows-i c).In-loop-i

pub loop-i-preserved : goal.loop-i-preserved
loop-i-preserved c =
    let k = c.args.k in let v = c.loop-i.invariant in
    let e : c.loop-i.start + (k + 1 - c.loop-i.i) ≡ start_of k (c.loop-i.i + 1) = omega (arith, v.1, row_next k c.loop-i.i) in
    (omega (arith, c.loop-i-test.true), e, length-set c.loop-i.rows _ _ ∙ v.2, one_more _ v.3 (here (goal.at.loop-i-preserved c).In-loop-i) e)

pub shape_of-rows : goal.shape_of-rows
shape_of-rows c = c.loop-i.invariant.2 ∙ length-set c.args.rows.now 0 0

pub returns : goal.returns
returns c =
    let i = c.loop-i in
    let e : i.i + 1 ≡ suc (suc c.args.k) = omega (arith, i.invariant.0, c.loop-i-test.false) in
    subst (λ (n : ℕ). Begins (start_of c.args.k) n i.rows) e i.invariant.3
