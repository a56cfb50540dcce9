-- `first_find` skips finds until none is left to skip: at each turn the finds from the place so far on,
-- less those still to skip, are those of the whole text, less all to skip.
use Rattle.formula_scan.proofs.Loops.{Left}
use Rattle.formula_scan.proofs.first_find.Given as goal

abbrev pub invariant-loop-i : goal.invariant-loop-i
invariant-loop-i l = Left l.text l.a l.skip l.left l.i
