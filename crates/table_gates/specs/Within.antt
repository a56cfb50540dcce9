-- What the code asks of a gate. Nothing here need be believed: no call open to others cites it.
use Rattle.std.specs.Prelude.{◌+◌, ◌≤◌}
use Rattle.paper_circuit.specs.declared.Gate.{Gate}
use Rattle.paper_circuit.specs.declared.Gate.TheVariants.{Constant, Copy, Inverse, Both, Either, AnyOf, Step}
use Rattle.table_literals.specs.Written.{limit}

-- its last input is a number of 32 bits, as the others are by their type
abbrev pub Within : Gate → Type 0
Within (Constant b) = Unit
Within (Copy u) = Unit
Within (Inverse x) = Unit
Within (Both x y) = Unit
Within (Either x y) = Unit
Within (AnyOf w n) = (1 ≤ n) × (w + n ≤ limit)
Within (Step p q s) = Unit
