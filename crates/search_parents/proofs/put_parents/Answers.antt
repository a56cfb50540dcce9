-- Row after row is put down as the nearest of its row (Parents.antt).
-- The root is put down first, and no turn writes there again.
use mathlib.Core.Path.{◌≡◌, ◌∙◌, subst}
use Prim.Native.Nat.{◌-◌, ◌≤◌, ◌<◌}
use native.Mathlib.Omega.{arith}
use lib.ListN.{length-set}
use Rattle.search_fanout.specs.Fanout.{Nearest}
use Rattle.search_parents.proofs.Parents.{none_nearest, one_nearest}
use Rattle.search_parents.proofs.put_parents.Goals as goal

pub loop-z-init : goal.loop-z-init
loop-z-init c = (length-set c.args.parents.now 0 0 ∙ c.requires.3, omega arith, c.requires.0, none_nearest _ c.args.parents.now (omega (arith, c.requires.3)))

pub loop-z-preserved : goal.loop-z-preserved
loop-z-preserved c =
    let i = c.loop-z.invariant in (
      length-set c.loop-z.parents c.loop-z.z c.nearest.result ∙ i.0,
      omega arith,
      omega (arith, c.loop-z-test.true),
      one_nearest i.3 i.1 (omega (arith, i.0, i.2, c.loop-z-test.true, c.requires)) c.nearest.ensures,
    )

pub returns : goal.returns
returns c =
    let i = c.loop-z.invariant in let e : c.loop-z.z ≡ c.args.count = omega (arith, i.2, c.loop-z-test.false) in subst (Nearest _ _) e i.3
