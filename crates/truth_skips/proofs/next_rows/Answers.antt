-- `next_rows` goes from the last row up: a row whose next one has nothing beyond it shares that row's next,
-- since what is within that row is within it too (Skip.antt).
use borrow.Rule.Slice.PartMut.{mid_len}
use Prim.Native.Nat.{◌+◌, ◌-◌, ◌<◌}
use mathlib.Core.Path.{◌≡◌, refl, sym, ◌∙◌}
use Rattle.truth_table.proofs.Rows.{row_starts}
use Rattle.truth_skips.proofs.Skip.{skip_begun, row_before, skip_code, skip_done}
use native.Mathlib.Omega.{arith}
use Rattle.truth_skips.proofs.next_rows.Goals as goal
use Rattle.truth_skips.proofs.next_rows.Goals.{In-loop-l}

-- a row but the first has a row before it
room : (c : In-loop-l) → c.args.k - (c.loop-l.l - 1) < c.loop-l.at
room c = row_before _ _ _ _ _ c.loop-l.invariant (omega arith)

pub loop-l-init : goal.loop-l-init
loop-l-init c =
    let k = c.args.k in
    skip_begun k _ c.args.q.now _ c.requires.0 (row_starts k k _ (omega arith) c.place-at.ensures.0).0 refl

pub overflow_sub-before-in-loop-l : goal.overflow_sub-before-in-loop-l
overflow_sub-before-in-loop-l c = omega (arith, room (goal.at.overflow_sub-before-in-loop-l c).In-loop-l)

pub beyond-more-requires : goal.beyond-more-requires
beyond-more-requires c =
    let a = c.args in let l = c.loop-l in let n = a.k - (l.l - 1) in
    let e : l.at + n - l.at ≡ l.at - (l.at - n) = omega (arith, room (goal.at.beyond-more-requires c).In-loop-l) in
    mid_len l.at (l.at + n) a.q.now (omega (arith, l.invariant.row, l.invariant.turns, c.requires)) ∙ e ∙
    sym (mid_len (l.at - n) l.at a.q.now (omega (arith, l.invariant.row, c.requires)))

pub overflow_sub-at : goal.overflow_sub-at
overflow_sub-at c = omega (arith, room (goal.at.overflow_sub-at c).In-loop-l)

pub loop-l-preserved : goal.loop-l-preserved
loop-l-preserved c =
    skip_code c.args.k c.loop-l.l c.loop-l.at _ _ c.beyond-more.result c.args.q.now c.loop-l.nexts _ c.loop-l-test.true c.requires.0 c.requires.1 refl refl
    c.beyond-more.ensures c.loop-l.invariant c.next_row.ensures

pub returns : goal.returns
returns c = skip_done _ c.loop-l.l c.loop-l.at _ c.loop-l.nexts (omega (arith, c.loop-l-test.false)) c.loop-l.invariant
