-- `read_part` calls itself on its parts, from a later place each time,
-- so the bytes that remain fall.
use Rattle.std.proofs.Common.{length, ◌-◌}
use Rattle.formula_reader.proofs.+read_part.Given as goal

abbrev pub decreases-read_part : goal.decreases-read_part
decreases-read_part l = length l.text.now - l.at
