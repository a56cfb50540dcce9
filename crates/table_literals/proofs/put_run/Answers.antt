-- A turn writes the next variable of the part, and the marks are filled;
-- there is room for as many of both (Written.antt).
use Rattle.std.proofs.Common.{refl, rules, ◌+◌, ◌≤◌, length, arith}
use Rattle.table_literals.proofs.Written.{run_length, run_turn, run_stored}
use Rattle.lists.specs.Listing.{rows}
use Rattle.table_literals.proofs.put_run.Goals as goal

pub slice_bounds-v-items-end : goal.slice_bounds-v-items-end
slice_bounds-v-items-end c =
    let a = c.args in let h : a.at + a.n ≤ length a.variables.now = omega (arith, run_length a.w a.mark a.n, c.requires.room.variables) in search rules

pub loop-e-init : goal.loop-e-init
unfolding rows
loop-e-init c = refl

pub loop-e-preserved : goal.loop-e-preserved
loop-e-preserved c = run_turn _ _ _ c.loop-e.invariant (search rules)

pub slice_bounds-fill-end : goal.slice_bounds-fill-end
slice_bounds-fill-end c =
    let a = c.args in let h : a.at + a.n ≤ length a.marks.now = omega (arith, run_length a.w a.mark a.n, c.requires.room.marks) in search rules

pub returns : goal.returns
returns c = let a = c.args in run_stored a.w a.mark c.requires.room c.loop-e.v-items (omega arith) (omega arith) (omega arith) c.loop-e.invariant (search rules)
