-- The levels of a node's rule that the code looks at for an instant of its part. Nothing here need be believed: no call open to others
-- cites it.
use Rattle.table_blocks.specs.declared.Rule.{Rule}
use Rattle.table_blocks.specs.declared.Rule.TheVariants.{Fixed, Letter, Negation, And, Or, Chop, Duration, Throughout, Cut}
use Rattle.search_lines.specs.declared.Rise.{Rise}

-- the levels that go by the instants of their part: a duration's from 1 on, and `[S]`
abbrev pub rise_of : Rule → Rise
rise_of (Fixed v) = record { from = 0; count = 1 }
rise_of (Letter c) = record { from = 0; count = 1 }
rise_of Negation = record { from = 0; count = 1 }
rise_of And = record { from = 0; count = 1 }
rise_of Or = record { from = 0; count = 1 }
rise_of Chop = record { from = 0; count = 1 }
rise_of (Duration n) = record { from = 1; count = n }
rise_of Throughout = record { from = 0; count = 1 }
rise_of Cut = record { from = 0; count = 1 }
