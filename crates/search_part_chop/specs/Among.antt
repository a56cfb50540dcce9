-- A test of range. Nothing here need be believed: no call open to others cites it.
use Rattle.std.specs.Prelude.{◌≡◌, Bool, true, false, ℕ}
use Rattle.paper_circuit.proofs.Blocks.{From}

-- u is one of n variables from w on
pub record Among (w n u : ℕ) (r : Bool) : Type 0 where
  pub here : r ≡ true → From w n u
  pub away : r ≡ false → From w n u → ⊥
