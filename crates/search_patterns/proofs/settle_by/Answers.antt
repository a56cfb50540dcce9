-- Where the bits say that nothing is forced, the set is closed as it is (Steps.antt).
-- Else literal after literal is put in.
use mathlib.Core.Path.{refl}
use Prim.Native.Nat.{◌-◌}
use native.Mathlib.Omega.{arith}
use Rattle.search_patterns.proofs.Steps.{known, nothing_forced, visits_none, settled, ended_named}
use Rattle.search_patterns.proofs.settle_by.Goals as goal

pub quiet-requires : goal.quiet-requires
quiet-requires c =
    let f = c.requires.trailing.small in (
      omega (arith, c.value-a.ensures, f (c.args.v - 1)),
      omega (arith, c.value-b.ensures, f (c.args.x - 1)),
      omega (arith, c.value-c.ensures, f (c.args.y - 1)),
    )

pub returns-then-quiet : goal.returns-then-quiet
returns-then-quiet c =
    let w = c.requires.four in
    settled (visits_none _ c.requires.trailing) (nothing_forced _ c.args.v c.args.x c.args.y c.args.z w.0.0 w.1.0 w.2.0 w.3.0 c.args.gate
    (known _ c.value-a.ensures c.value-b.ensures c.value-c.ensures refl refl) (c.quiet.ensures _ (c.requires.trailing.small (c.args.z - 1)) c.if-quiet.true))

pub returns : goal.returns
returns c = ended_named c.ended.ensures c.settle_on.ensures
