-- What defines a variable: document 01's clauses for `v` say that v has the value of a gate over other variables.
use Rattle.std.specs.Prelude.{Bool, not, ◌&&◌, ◌||◌, List, [], ◌∷◌, ℕ, ◌+◌}
use Rattle.lists.specs.Listing.{tab}
use Rattle.paper_meaning.specs.Meaning.{any}
use Rattle.paper_circuit.specs.declared.Gate.{Gate}
use Rattle.paper_circuit.specs.declared.Gate.TheVariants.{Constant, Copy, Inverse, Both, Either, AnyOf, Step}

-- an assignment: the value of each variable
abbrev pub Assignment : Type 0
Assignment = ℕ → Bool

-- the gate's value: Step is p or both q and s; AnyOf is over n variables from w on
unfoldable pub value_of : Assignment → Gate → Bool
value_of a (Constant b) = b
value_of a (Copy u) = a u
value_of a (Inverse x) = not (a x)
value_of a (Both x y) = a x && a y
value_of a (Either x y) = a x || a y
value_of a (AnyOf w n) = any a w n
value_of a (Step p q s) = a p || a q && a s

-- the variables that it turns on
unfoldable pub inputs_of : Gate → List ℕ
inputs_of (Constant b) = []
inputs_of (Copy u) = u ∷ []
inputs_of (Inverse x) = x ∷ []
inputs_of (Both x y) = x ∷ y ∷ []
inputs_of (Either x y) = x ∷ y ∷ []
inputs_of (AnyOf w n) = tab n (λ e. w + e)
inputs_of (Step p q s) = p ∷ q ∷ s ∷ []
