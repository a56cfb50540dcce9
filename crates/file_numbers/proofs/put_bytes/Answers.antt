-- A turn stores one byte more (Stored.antt),
-- and after the last one all are stored.
use mathlib.Core.Path.{refl, ap, ◌∙◌}
use native.Mathlib.Omega.{arith}
use lib.ListN.{length-set}
use lib.Seq.{sets, take_all}
use Rattle.file_numbers.proofs.Stored.{bytes_turn}
use Rattle.file_numbers.proofs.put_bytes.Goals as goal

pub loop-e-init : goal.loop-e-init
loop-e-init c = (refl, refl)

pub loop-e-preserved : goal.loop-e-preserved
loop-e-preserved c =
    let l = c.loop-e in let i = l.invariant in
    (length-set l.out _ _ ∙ i.0, bytes_turn c.args.out.now c.args.at l.e c.args.more.now c.loop-e-test.true i.1)

pub returns : goal.returns
returns c =
    let l = c.loop-e in let more = c.args.more.now in
    l.invariant.1 ∙ ap (sets c.args.out.now c.args.at) (take_all l.e more (omega (arith, c.loop-e-test.false)))
