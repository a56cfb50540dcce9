-- A block's rule, once it is known, says what its values are;
-- a table with the same byte at every place gives that value at each place of the block.
use mathlib.Core.Path.{◌≡◌, sym, ap, ◌∙◌}
use mathlib.Core.Bool.{Bool}
use mathlib.Core.List.{List, [], ◌∷◌}
use Prim.Native.Nat.{ℕ, ◌≤◌}
use native.Mathlib.Omega.{arith}
use lib.ListN.{get_or, replicate, get_or-replicate}
use Rattle.lists.specs.Listing.{tab}
use Rattle.interval.specs.Limits.{max_count}
use Rattle.lists.proofs.Listing.{rows_same}
use Rattle.table_blocks.specs.declared.Rule.{Rule}
use Rattle.extend_blocks.specs.Values.{values_by}

pub values_by_lem : (k : ℕ) (recording : List ℕ) (n : ℕ) (f g : ℕ → Bool) {r q : Rule} {l : List ℕ} → r ≡ q → l ≡ values_by k recording n f g q → l ≡ values_by k recording n f g r
values_by_lem k recording n f g e p = p ∙ ap (values_by k recording n f g) (sym e)

pub same_values : {n b v : ℕ} {t : List ℕ} → n ≤ max_count → t ≡ replicate max_count b → b ≡ v → tab n (λ e. get_or t e 0) ≡ tab n (λ e. v)
same_values {n} {b} {v} {t} h r e =
    rows_same n (λ i. get_or t i 0 ∷ []) (λ i. v ∷ []) (λ i l. ap (λ (x : ℕ). x ∷ []) (ap (λ (t : List ℕ). get_or t i 0) r ∙ get_or-replicate max_count i b 0 (omega arith) ∙ e))
