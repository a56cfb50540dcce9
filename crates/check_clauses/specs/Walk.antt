-- A block of constants. Nothing here need be believed: no call open to others cites it.
use Rattle.std.specs.Prelude.{Bool, List, ℕ, ◌+◌}
use Rattle.lists.specs.Listing.{tab}
use Rattle.paper_circuit.specs.Circuit.{Definition, define}
use Rattle.paper_circuit.specs.declared.Gate.TheVariants.{Constant}

-- n variables from w on, each the same constant
abbrev pub constants : ℕ → ℕ → Bool → List Definition
constants w n up = tab n (λ e. define (w + e) (Constant up))
