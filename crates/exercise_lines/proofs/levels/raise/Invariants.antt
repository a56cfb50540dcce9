-- `raise` goes instant by instant: those before t are raised by their levels, those from t on are as they were.
use Rattle.std.proofs.Common.{length, get_or}
use Rattle.lists.proofs.Fill.{Upto}
use Rattle.exercise_lines.specs.Levels.{raised_by}
use Rattle.exercise_lines.proofs.levels.raise.Given as goal

abbrev pub invariant-loop-t : goal.invariant-loop-t
invariant-loop-t l =
    Upto (length l.fn.recording) (λ y. raised_by l.bit (get_or l.levels y 0) (get_or l.fn.recording y 0)) (λ y. get_or l.fn.recording y 0) l.t l.recording
