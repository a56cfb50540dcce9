-- The bytes so far are digits: they and the digits from there on are those from the beginning.
use Rattle.std.proofs.Common.{◌≡◌, ◌+◌, drop}
use Rattle.formula_reader.specs.Parts.{digit_count}
use Rattle.formula_reader.proofs.digits_end.Given as goal

abbrev pub invariant-loop-n : goal.invariant-loop-n
invariant-loop-n l = digit_count l.b-items ≡ l.n + digit_count (drop l.n l.b-items)
