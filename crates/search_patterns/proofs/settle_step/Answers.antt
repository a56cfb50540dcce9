-- Where the bits say that nothing is forced, the values are closed under the gate's clauses already (Steps.antt).
-- Else it is the pattern of such gates, over its variables.
use mathlib.Core.Path.{refl}
use Prim.Native.Nat.{◌-◌}
use native.Mathlib.Omega.{arith}
use Rattle.search_patterns.specs.declared.Pattern.TheVariants.{Step}
use Rattle.search_patterns.proofs.Steps.{known, nothing_forced, visits_none, settled, patterns, settled_named, ended_named}
use Rattle.search_patterns.proofs.settle_step.Goals as goal

pub step_quiet-requires : goal.step_quiet-requires
step_quiet-requires c =
    let a = c.args in
    let t = c.requires.0 in (
      omega (arith, c.value-a.ensures, t.small (a.v - 1)),
      omega (arith, c.value-b.ensures, t.small (a.p - 1)),
      omega (arith, c.value-c.ensures, t.small (a.q - 1)),
      omega (arith, c.value-d.ensures, t.small (a.s - 1)),
    )

pub returns-then-step_quiet : goal.returns-then-step_quiet
returns-then-step_quiet c =
    let a = c.args in
    settled_named (patterns a.v a.p a.q a.s).4
    (settled (visits_none _ c.requires.0) (nothing_forced _ a.v a.p a.q a.s c.requires.1.0 c.requires.2.0.0 c.requires.2.1.0 c.requires.2.2.0 Step
    (known Step c.value-a.ensures c.value-b.ensures c.value-c.ensures c.value-d.ensures refl)
    (c.step_quiet.ensures c.if-step_quiet.true)))

pub returns : goal.returns
returns c =
    let s = c.args in
    settled_named (patterns s.v s.p s.q s.s).4 (ended_named c.ended.ensures c.settle_on.ensures)
