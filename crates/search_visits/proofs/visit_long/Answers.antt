-- The literals of the clause that are not opposed are counted up to two (Long.antt).
-- A second one ends the count, since nothing is forced then.
use mathlib.Core.Path.{sym, ◌∙◌}
use mathlib.Core.Logic.{⊎_elim, inl, inr}
use native.Mathlib.Omega.{arith}
use Rattle.search_visits.proofs.Long.{reading_none, reading_same, reading_first, reading_two, reading_all, reading_free, reading_moved, tallied_more}
use Rattle.search_visits.proofs.visit_long.Goals as goal
use Rattle.search_visits.proofs.visit_long.Goals.{then-not-opposed+else-free-eq1, else-not-opposed}

pub loop-e-init : goal.loop-e-init
loop-e-init c =
    let o = sym c.opposed.ensures in
    (omega arith, reading_none c.requires.1 (⊎_elim (λ w. inl (w.0, o ∙ w.1)) (λ w. inr (w.0, o ∙ w.1)) c.one_free-free.ensures))

pub overflow_add-w : goal.overflow_add-w
overflow_add-w c = omega (arith, c.requires.2.0, c.loop-e-test.true)

pub opposed-requires-in-loop-e : goal.opposed-requires-in-loop-e
opposed-requires-in-loop-e c = c.requires.2.1 _ c.loop-e-test.true

pub returns-then-free-eq1 : goal.returns-then-free-eq1
returns-then-free-eq1 c =
    tallied_more c.requires.0 _
    (reading_two c.loop-e.invariant.1 (sym c.opposed-in-loop-e.ensures ∙ c.if-not-opposed.true) c.if-free-eq1.true _ c.loop-e-test.true)
    (λ e. absurd (omega arith)) (λ e. absurd (omega arith))

pub loop-e-preserved : goal.loop-e-preserved
loop-e-preserved c =
    let i = c.loop-e.invariant in let o = sym c.opposed-in-loop-e.ensures in (
      omega (arith, c.loop-e-test.true),
      elim c.if-not-opposed.branch [
        | then-not-opposed+else-free-eq1 w ↦ reading_moved w.free-is w.last-is w.mark-is
            (reading_first i.1 (o ∙ w.if-not-opposed.true) w.if-free-eq1.false (c.requires.2.1 _ c.loop-e-test.true))
        | else-not-opposed w ↦ reading_moved w.free-is w.last-is w.mark-is (reading_same i.1 (o ∙ w.if-not-opposed.false))
      ],
    )

pub visit_tallied-requires : goal.visit_tallied-requires
visit_tallied-requires c =
    let i = c.loop-e.invariant.1 in (c.requires.0, i.within, reading_free i)

pub returns : goal.returns
returns c =
    let i = c.loop-e.invariant in c.visit_tallied.ensures _ (omega arith) (reading_all _ i.0 (omega (arith, c.loop-e-test.false)) i.1).tally
