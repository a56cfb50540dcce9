-- `ask_below` goes from the first byte on: as long as every byte is below the number, the question from here on has the answer of the
-- whole, and the first that is not gives its place (Questions.antt).
use Rattle.recording_questions.proofs.Questions.{asked_first, asked_no, asked_next, asked_all}
use borrow.Author.Rules.{rules}
use native.Mathlib.Omega.{arith}
use Rattle.recording_questions.proofs.ask_below.Goals as goal

pub loop-t-init : goal.loop-t-init
loop-t-init c = asked_first _ _ _

pub returns-then-from-most : goal.returns-then-from-most
returns-then-from-most c =
    let l = c.loop-t in
    asked_no _ _ _ l.t (search rules) (omega (arith, c.from.ensures, c.if-from-most.true)) l.invariant

pub loop-t-preserved : goal.loop-t-preserved
loop-t-preserved c =
    let l = c.loop-t in
    asked_next _ _ _ l.t (search rules) (omega (arith, c.from.ensures, c.if-from-most.false)) l.invariant

pub returns : goal.returns
returns c =
    let l = c.loop-t in
    asked_all _ _ _ l.t (omega (arith, c.loop-t-test.false)) l.invariant
