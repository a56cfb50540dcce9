-- The intervals before this one are the rows before its own
-- and the shorter ones of its row.
use Prim.Native.Nat.{◌+◌}
use native.Mathlib.Omega.{arith}
use Rattle.interval.specs.Limits.{IntervalOf}
use Rattle.interval.proofs.Rows.{place_in_row, row_small}
use Rattle.interval.proofs.Counts.{few_intervals}
use Rattle.interval.proofs.Laws.{intervals_numbered}
use Rattle.interval.proofs.Interval.place.Goals as goal

pub overflow_add-result : goal.overflow_add-result
overflow_add-result c =
    let a = c.args in
    omega (arith, c.requires, c.requires.2.at a.i (omega (arith, c.requires)), row_small a.k a.i c.requires.1 (omega (arith, c.requires)))

pub returns : goal.returns
returns c =
    let a = c.args in
    let o : IntervalOf a.k (record { i = a.i; j = a.i + a.steps }) = omega (arith, c.requires) in
    let e = place_in_row a.k (record { i = a.i; j = a.i + a.steps }) o in
    let r = c.requires.2.at a.i (omega (arith, c.requires)) in
    (omega (arith, r, e), omega (arith, r, e, (intervals_numbered a.k).below (record { i = a.i; j = a.i + a.steps }) o, few_intervals a.k c.requires.1))
