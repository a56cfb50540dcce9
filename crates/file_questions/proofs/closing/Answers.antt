-- After e turns n of the first e marks close a clause
-- (Passed.antt).
use native.Mathlib.Omega.{arith}
use lib.ListN.{get_or}
use Rattle.file_questions.specs.Questions.{closes}
use Rattle.file_questions.proofs.Passed.{byte_most, none_counted, one_counted, all_counted}
use Rattle.file_questions.proofs.closing.Goals as goal

pub loop-m-init : goal.loop-m-init
loop-m-init c = none_counted _ _

pub overflow_add-n : goal.overflow_add-n
overflow_add-n c =
    let l = c.loop-m in omega (arith, c.from-n.ensures, byte_most (closes (get_or c.args.marks.now l.m-index 0)), l.invariant.most, c.loop-m-test.true)

pub loop-m-preserved : goal.loop-m-preserved
loop-m-preserved c = one_counted _ _ c.loop-m.invariant c.from-n.ensures

pub returns : goal.returns
returns c = all_counted _ _ c.loop-m.invariant (omega (arith, c.loop-m-test.false, c.loop-m.auto.m-index-end))
