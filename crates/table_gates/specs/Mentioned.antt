-- What the code asks of definitions before it looks their variables up in an array of n. Nothing here need be believed: no call open to
-- others cites it.
use Rattle.std.specs.Prelude.{false, List, ℕ, ◌+◌, ◌≤◌, ◌<◌, length, get_or}
use Rattle.paper_circuit.specs.Circuit.{Definition, define}
use Rattle.paper_circuit.specs.declared.Gate.{Gate}
use Rattle.paper_circuit.specs.declared.Gate.TheVariants.{Constant, Copy, Inverse, Both, Either, AnyOf, Step}

-- v is one of n variables
abbrev pub Variable : ℕ → ℕ → Type 0
Variable n v = (1 ≤ v) × (v ≤ n)

-- so are a gate's inputs
abbrev pub InputsIn : ℕ → Gate → Type 0
InputsIn n (Constant b) = Unit
InputsIn n (Copy u) = Variable n u
InputsIn n (Inverse x) = Variable n x
InputsIn n (Both x y) = Variable n x × Variable n y
InputsIn n (Either x y) = Variable n x × Variable n y
InputsIn n (AnyOf w m) = (e : ℕ) → e < m → Variable n (w + e)
InputsIn n (Step p q s) = Variable n p × Variable n q × Variable n s

pub record Mentioned (n : ℕ) (d : Definition) : Type 0 where
  pub variable : Variable n d.variable
  pub inputs : InputsIn n d.gate

abbrev pub AllMentioned : ℕ → List Definition → Type 0
AllMentioned n D = (x : ℕ) → x < length D → Mentioned n (get_or D x (define 0 (Constant false)))
