-- `first_find` skips finds until none is left to skip: at each turn the finds from the place so far on,
-- less those still to skip, are those of the whole text, less all to skip (Loops.antt).
use Rattle.formula_scan.proofs.Loops.{left_begun, left_on, left_less, left_found, left_none}
use Rattle.formula_scan.proofs.first_find.Goals as goal
use Rattle.formula_scan.proofs.first_find.Goals.{in-Some+else-left-eq0, in_default}

pub loop-i-init : goal.loop-i-init
loop-i-init c = left_begun _ _ _

pub returns-then-left-eq0 : goal.returns-then-left-eq0
returns-then-left-eq0 c = (left_found _ _ _ c.loop-i.invariant c.loop-i-test.true c.in-Some.ensures.0 c.if-left-eq0.true, c.in-Some.ensures.1)

pub loop-i-preserved : goal.loop-i-preserved
loop-i-preserved c =
    let i = c.loop-i.invariant in
    elim c.match-find_at.branch [
      | in-Some+else-left-eq0 w ↦ rw w.left-is (left_less _ _ _ i c.loop-i-test.true w.in-Some.ensures.0 w.if-left-eq0.false)
      | in_default w ↦ rw w.left-is (left_on _ _ _ i c.loop-i-test.true w.in_default.ensures.0)
    ]

pub returns : goal.returns
returns c = (left_none _ _ _ c.loop-i.invariant c.loop-i-test.false, tt)
