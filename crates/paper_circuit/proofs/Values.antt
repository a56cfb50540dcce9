-- A gate's value turns on its inputs alone.
-- It goes by the gate, and for any number of inputs by induction on it.
use mathlib.Core.Path.{◌≡◌, refl, ap, ap₂}
use mathlib.Core.Bool.{not, ◌&&◌, ◌||◌}
use mathlib.Core.List.{[], ◌∷◌}
use Prim.Native.Nat.{ℕ, zero, suc, ◌+◌}
use Rattle.lists.specs.Listing.{rows, tab, All}
use Rattle.paper_meaning.specs.Meaning.{any}
use Rattle.paper_circuit.specs.Gates.{Assignment, value_of, inputs_of}
use Rattle.paper_circuit.specs.declared.Gate.{Gate}
use Rattle.paper_circuit.specs.declared.Gate.TheVariants.{Constant, Copy, Inverse, Both, Either, AnyOf, Step}
use Rattle.lists.proofs.Lists.{all_split}

module _ (a b : Assignment) where
  abbrev pub Same : ℕ → Type 0
  Same u = a u ≡ b u

  some_same : (w n : ℕ) → All Same (tab n (λ e. w + e)) → any a w n ≡ any b w n
  unfolding rows any
  some_same w zero h = refl
  some_same w (suc n) h = let s = all_split Same (tab n (λ e. w + e)) ((w + n) ∷ []) h in ap₂ ◌||◌ (some_same w n s.0) s.1.0

  pub value_same : (g : Gate) → All Same (inputs_of g) → value_of a g ≡ value_of b g
  unfolding inputs_of value_of
  value_same (Constant v) h = refl
  value_same (Copy u) h = h.0
  value_same (Inverse x) h = ap not h.0
  value_same (Both x y) h = ap₂ ◌&&◌ h.0 h.1.0
  value_same (Either x y) h = ap₂ ◌||◌ h.0 h.1.0
  value_same (AnyOf w n) h = some_same w n h
  value_same (Step p q s) h = ap₂ ◌||◌ h.0 (ap₂ ◌&&◌ h.1.0 h.1.1.0)
