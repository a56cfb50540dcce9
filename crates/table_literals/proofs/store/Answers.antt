-- A turn stores one item more, so that after e turns the first e are stored
-- (Written.antt).
use Rattle.std.proofs.Common.{◌∙◌, refl, ap, take_all, arith}
use lib.Seq.{sets}
use Rattle.table_literals.proofs.Written.{store_turn}
use Rattle.table_literals.proofs.store.Goals as goal

pub loop-e-init : goal.loop-e-init
loop-e-init g c = refl

pub loop-e-preserved : goal.loop-e-preserved
loop-e-preserved g c =
    let a = c.args in
    let l = c.loop-e in
    store_turn a.out.now a.at l.e a.more.now c.index-more-e.result c.loop-e-test.true c.index-more-e.is l.invariant

pub returns : goal.returns
returns g c =
    let l = c.loop-e in
    l.invariant ∙ ap (sets c.args.out.now c.args.at) (take_all l.e c.args.more.now (omega (arith, c.loop-e-test.false)))
