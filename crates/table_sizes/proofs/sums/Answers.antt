-- One pass: before row x the total is `start` and what the rows before x weigh, and so far each place has been given the total before it
-- (Rows.antt).
use Rattle.std.proofs.Common.{arith, rules}
use Rattle.std.proofs.lemmas.Grind.{common_steps}
use Rattle.table_sizes.proofs.Rows.{total_first, total_next, summed}
use Rattle.table_sizes.proofs.sums.Goals as goal

pub loop-x-init : goal.loop-x-init
loop-x-init c = record { total = total_first _ _ _ _ _; most = search rules; below = search rules }

pub loop-x-preserved : goal.loop-x-preserved
loop-x-preserved c =
    let i = c.loop-x.invariant in record {
      total = total_next _ _ _ _ _ _ i.total c.row_weight-total.ensures.0;
      most = omega (arith, i.most, c.row_weight-total.ensures.1);
      below = λ y h. grind (arith, common_steps, i.below y);
    }

pub returns : goal.returns
returns c =
    let i = c.loop-x.invariant in
    summed _ _ _ _ _ _ _ c.loop-x.place-items c.loop-x.x _ (omega arith) (omega arith) i.total (omega (arith, i.most)) i.below
