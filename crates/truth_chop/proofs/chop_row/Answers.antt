-- `chop_row` goes on by one m where P is false on [i, m]; where it is true, it adds row m of Q's table and goes on at the next row
-- that has more, since those between add nothing (Chop.antt).
use Rattle.truth_chop.proofs.Chop.{begun, turn_no, turn_yes, done}
use Prim.Native.Nat.{◌≤◌, suc, ◌+◌, ◌-◌}
use Rattle.interval.specs.Places.{count_of}
use Rattle.interval.specs.Rows.{start_of}
use Rattle.truth_table.proofs.Rows.{row_starts}
use borrow.Author.Rules.{rules}
use native.Mathlib.Omega.{arith}
use mathlib.Core.Path.{◌≡◌}
use Rattle.truth_chop.proofs.chop_row.Goals as goal
use Rattle.truth_chop.proofs.chop_row.Goals.{After-place-at}

-- row m of Q's table
row : (c : After-place-at) → let a = c.args in let l = c.loop-d in
    (c.place-at.result ≡ start_of a.k (a.i + l.d)) × (c.place-at.result + (suc a.k - (a.i + l.d)) ≤ count_of a.k)
row c = row_starts _ _ _ (omega arith) c.place-at.ensures.0

pub loop-d-init : goal.loop-d-init
loop-d-init c =
    let o = c.requires.k_le_max_steps in
    begun _ _ _ _ _ _ _ o.1 o.2 o.3 o.4

pub loop-d-preserved-then-p-start-eq0 : goal.loop-d-preserved-then-p-start-eq0
loop-d-preserved-then-p-start-eq0 c =
    let l = c.loop-d in
    turn_no _ _ _ _ _ _ _ _ l.invariant (omega arith) c.if-p-start-eq0.true

pub slice_bounds-or_onto-end-in-loop-d : goal.slice_bounds-or_onto-end-in-loop-d
slice_bounds-or_onto-end-in-loop-d c = omega (arith, row (goal.at.slice_bounds-or_onto-end-in-loop-d c).After-place-at, c.requires)

pub loop-d-preserved : goal.loop-d-preserved
loop-d-preserved c =
    let l = c.loop-d in let o = row (goal.at.loop-d-preserved c).After-place-at in
    turn_yes _ _ _ _ _ _ _ _ _ _ c.or_onto.new.row l.invariant (omega arith) c.if-p-start-eq0.false c.requires.k_in_bounds.2 o.0 (omega arith) (search rules)
    c.or_onto.ensures

pub returns : goal.returns
returns c = done _ _ _ _ _ _ _ _ c.loop-d.invariant (omega arith)
