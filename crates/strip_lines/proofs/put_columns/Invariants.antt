-- The columns are filled one after another,
-- each with what it shows.
use mathlib.Core.Path.{◌≡◌}
use Prim.Native.Nat.{ℕ, ◌<◌}
use lib.ListN.{length, get_or}
use Rattle.strip.specs.Strip.{column_of}
use Rattle.strip_lines.proofs.put_columns.Given as goal

abbrev pub invariant-loop-t : goal.invariant-loop-t
invariant-loop-t l = (y : ℕ) → y < l.t → get_or l.columns y 0 ≡ column_of (length l.recording) l.recording l.line y
