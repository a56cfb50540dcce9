-- Each turn adds a literal of the closure that was not there, until none is forced or one is opposed (Steps.antt).
-- There are no more variables than values, so it ends.
use mathlib.Core.Path.{refl, sym, ◌∙◌, subst}
use native.Mathlib.Omega.{arith}
use Rattle.search_patterns.specs.Patterns.{Forces}
use Rattle.search_patterns.proofs.Steps.{there, visits_none, visits_few, settled, settled_clash, visits_more, visits_fewer, calm_ended, clash_ended}
use Rattle.search_patterns.proofs.settle_on.Goals as goal

pub loop-u-init : goal.loop-u-init
loop-u-init c = (refl, refl, visits_none _ c.requires.trailing)

pub next_forced-requires : goal.next_forced-requires
next_forced-requires c =
    let i = c.loop-u.invariant in
    record { by_index = i.2.grown.trailing.small; four = (there i.0 c.requires.four.0, there i.0 c.requires.four.1, there i.0 c.requires.four.2, there i.0 c.requires.four.3) }

pub overflow_mul-result : goal.overflow_mul-result
overflow_mul-result c = omega (arith, visits_few c.loop-u.invariant.2)

pub returns-in_default : goal.returns-in_default
returns-in_default c =
    calm_ended (settled c.loop-u.invariant.2 (subst (Forces _ _) c.in_default.is c.next_forced.ensures))

pub opposed-requires : goal.opposed-requires
opposed-requires c = (subst (Forces _ _) c.in-Some.is c.next_forced.ensures).0

pub overflow_mul-result-then-opposed : goal.overflow_mul-result-then-opposed
overflow_mul-result-then-opposed c = omega (arith, visits_few c.loop-u.invariant.2)

pub overflow_add-result : goal.overflow_add-result
overflow_add-result c = omega (arith, visits_few c.loop-u.invariant.2)

pub returns-then-opposed : goal.returns-then-opposed
returns-then-opposed c =
    let f = subst (Forces _ _) c.in-Some.is c.next_forced.ensures in
    clash_ended (settled_clash c.loop-u.invariant.2 _ f.0 f.1 (sym c.opposed.ensures ∙ c.if-opposed.true))

pub add-t-requires : goal.add-t-requires
add-t-requires c =
    let f = subst (Forces _ _) c.in-Some.is c.next_forced.ensures in
    (f.0.0, f.0.1, c.loop-u.invariant.2.grown.trailing, sym c.opposed.ensures ∙ c.if-opposed.false)

pub loop-u-smaller : goal.loop-u-smaller
loop-u-smaller c =
    let f = subst (Forces _ _) c.in-Some.is c.next_forced.ensures in
    visits_fewer c.loop-u.invariant.2 _ f.0 f.1 c.add-t.ensures f.2

pub loop-u-preserved : goal.loop-u-preserved
loop-u-preserved c =
    let f = subst (Forces _ _) c.in-Some.is c.next_forced.ensures in let i = c.loop-u.invariant in
    (c.add-t.auto.values ∙ i.0, c.add-t.auto.trail ∙ i.1, visits_more i.2 _ f.0 f.1 c.add-t.ensures)
