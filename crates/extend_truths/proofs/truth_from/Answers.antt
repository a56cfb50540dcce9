-- `truth_from` fills the first places with bits, as many as the assignment has from `at` on but at most n, and leaves 0 at the others;
-- `at` is one before `first`.
use mathlib.Core.Path.{ap, ◌∙◌}
use mathlib.Core.List.{List}
use Prim.Native.Nat.{ℕ}
use native.Mathlib.Omega.{arith}
use lib.ListN.{length, get_or, take, drop, length-append, length-take, length-drop}
use Rattle.std.proofs.lemmas.Iterator.{YieldsList-from_slice, YieldsList-from_take}
use Rattle.std.proofs.lemmas.Iterator.Adapters.{YieldsList-from_skip}
use Rattle.std.proofs.lemmas.Iterator.Consumers.{YieldsList-from_enumerate, YieldsList-turn, YieldsList-end}
use Rattle.std.proofs.lemmas.List.FromFn.{length-enumerate_from}
use lib.Dec.{eqb}
use Rattle.paper_meaning.specs.Meaning.{bit}
use Rattle.interval.specs.Limits.{max_count}
use Rattle.lists.proofs.Fill.{begun, turn, zeros}
use Rattle.truth_table.proofs.Joined.{from_bit}
use Rattle.extend_truths.proofs.Taken.{item, taken}
use Rattle.extend_truths.proofs.truth_from.Goals as goal

pub loop-e-init : goal.loop-e-init
loop-e-init c =
    let e = c.all_of-t.ensures in
    begun _ _ _ _ (ap length e) (λ y. ap (λ (t : List ℕ). get_or t y 0) e ∙ zeros max_count y)

pub loop-e-preserved : goal.loop-e-preserved
loop-e-preserved c =
    let a = c.args in
    let l = c.loop-e in
    let at = c.saturating_sub-at.result in
    let road = YieldsList-from_enumerate {s = c.into_iter-e-iterator.result} (YieldsList-from_take a.n (YieldsList-from_skip at (YieldsList-from_slice a.assignment.now cc) (cc)) (cc)) (cc) in
    let o = YieldsList-turn road l.yielded l.e-iterator l.yielded_by c.next.result c.next.new.self _ c.in-Some.is c.next.ensures.steps in
    let p = item a.assignment.now a.n at (length l.yielded) c.in-Some.e c.in-Some.value.now o.0 o.1 in
    rw (length-append, p.0) (turn _ _ _ _ _ _ l.invariant (omega arith) (c.from.ensures ∙ from_bit _ ∙ ap (λ (x : ℕ). bit (eqb x 1)) p.2))

pub returns : goal.returns
returns c =
    let a = c.args in
    let l = c.loop-e in
    let at = c.saturating_sub-at.result in
    let road = YieldsList-from_enumerate {s = c.into_iter-e-iterator.result} (YieldsList-from_take a.n (YieldsList-from_skip at (YieldsList-from_slice a.assignment.now cc) (cc)) (cc)) (cc) in
    let o = YieldsList-end road l.yielded l.e-iterator l.yielded_by c.next.result c.next.new.self c.in-None.is c.next.ensures.steps in
    taken a.assignment.now a.first at a.n (omega arith)
    (omega (arith, o.1, length-enumerate_from 0 (take a.n (drop at a.assignment.now)), length-take a.n (drop at a.assignment.now), length-drop at a.assignment.now)) l.invariant
