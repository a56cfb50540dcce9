-- Each gate's clauses, place by place, are the list of numbers and marks that the code stores;
-- that it is the definition's is computed.
use mathlib.Core.Path.{◌≡◌, refl, sym, ap, ◌∙◌, subst}
use mathlib.Core.List.{List, [], ◌∷◌, flat_map}
use Prim.Native.Nat.{ℕ, ◌+◌}
use Rattle.paper_meaning.specs.Meaning.{bit}
use Rattle.paper_circuit.specs.declared.Gate.{Gate}
use Rattle.paper_circuit.specs.declared.Gate.TheVariants.{Constant, Copy, Inverse, Both, Either, AnyOf, Step}
use Rattle.paper_clauses.specs.Clauses.{clauses_of}
use Rattle.paper_clauses.specs.Entries.{Entry, entry, entries_of, flat}
use Rattle.table_literals.specs.Written.{Room, Wrote}
use Rattle.table_literals.proofs.Written.{named}
use Rattle.table_gates.specs.Within.{Within}

abbrev pub places_of : ℕ → Gate → List Entry
places_of v (Constant b) = entry v (bit b + 2) ∷ []
places_of v (Copy u) = entry v 0 ∷ entry u 3 ∷ entry v 1 ∷ entry u 2 ∷ []
places_of v (Inverse x) = entry v 1 ∷ entry x 3 ∷ entry v 0 ∷ entry x 2 ∷ []
places_of v (Both x y) = entry v 0 ∷ entry x 3 ∷ entry v 0 ∷ entry y 3 ∷ entry v 1 ∷ entry x 0 ∷ entry y 2 ∷ []
places_of v (Either x y) = entry v 1 ∷ entry x 2 ∷ entry v 1 ∷ entry y 2 ∷ entry v 0 ∷ entry x 1 ∷ entry y 3 ∷ []
places_of v (AnyOf w n) = flat (clauses_of v (AnyOf w n))
places_of v (Step p q s) =
    entry v 0 ∷ entry p 1 ∷ entry q 3 ∷ entry v 0 ∷ entry p 1 ∷ entry s 3 ∷ entry v 1 ∷ entry p 2 ∷ entry v 1 ∷ entry q 0 ∷ entry s 2 ∷ []

places_flat : (v : ℕ) (g : Gate) → places_of v g ≡ flat (clauses_of v g)
unfolding clauses_of flat flat_map entries_of
places_flat v (Constant b) = refl
places_flat v (Copy u) = refl
places_flat v (Inverse x) = refl
places_flat v (Both x y) = refl
places_flat v (Either x y) = refl
places_flat v (AnyOf w n) = refl
places_flat v (Step p q s) = refl

-- of a gate that is known to be g
pub within_known : {gate g : Gate} → gate ≡ g → Within gate → Within g
within_known e w = subst Within e w

module _ (x : ℕ) {gate g : Gate} (e : gate ≡ g) where
  known : places_of x g ≡ flat (clauses_of x gate)
  known = places_flat x g ∙ ap (λ (h : Gate). flat (clauses_of x h)) (sym e)

  pub room_known : {v m : List ℕ} {at : ℕ} → Room v m at (flat (clauses_of x gate)) → Room v m at (places_of x g)
  room_known {v} {m} {at} r = subst (λ (F : List Entry). Room v m at F) (sym known) r

  pub wrote_known : {v m v' m' : List ℕ} {at at' : ℕ} → Wrote v m at (places_of x g) v' m' at' → Wrote v m at (flat (clauses_of x gate)) v' m' at'
  wrote_known w = named known w
