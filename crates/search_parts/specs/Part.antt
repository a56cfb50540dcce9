-- Which parts of a node are judged place by place. Nothing here need be believed: no call open to others cites it.
use Rattle.std.specs.Prelude.{ℕ}
use Rattle.table_blocks.specs.declared.Rule.{Rule}
use Rattle.table_blocks.specs.declared.Rule.TheVariants.{Fixed, Letter, Negation, And, Or, Chop, Duration, Throughout, Cut}

-- parts that are judged as the node itself is, place by place
abbrev pub parts_of : Rule → ℕ
parts_of (Fixed v) = 0
parts_of (Letter c) = 0
parts_of Negation = 1
parts_of And = 2
parts_of Or = 2
parts_of Chop = 0
parts_of (Duration n) = 0
parts_of Throughout = 0
parts_of Cut = 0
