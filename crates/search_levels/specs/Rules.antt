-- The rules whose blocks have levels. Nothing here need be believed: no call open to others cites it.
use Rattle.std.specs.Prelude.{Bool, true, false, ℕ}
use Rattle.table_blocks.specs.declared.Rule.{Rule}
use Rattle.table_blocks.specs.declared.Rule.TheVariants.{Fixed, Letter, Negation, And, Or, Chop, Duration, Throughout, Cut}
use Rattle.search_fanout.specs.Fanout.{Levels}

abbrev pub is_throughout : Rule → Bool
is_throughout (Fixed v) = false
is_throughout (Letter c) = false
is_throughout Negation = false
is_throughout And = false
is_throughout Or = false
is_throughout Chop = false
is_throughout (Duration n) = false
is_throughout Throughout = true
is_throughout Cut = false

-- a duration or `[S]`
abbrev pub Leveled : Rule → Type 0
Leveled r = (n : ℕ) × Levels r n
