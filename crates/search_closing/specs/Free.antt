-- The literals of a clause that are not opposed. Nothing here need be believed: no call open to others cites it.
use Rattle.std.specs.Prelude.{◌≡◌, cond, List, [], ◌∷◌, ℕ, ◌≤◌, length}
use Rattle.paper_clauses.specs.Clauses.{Literal, Clause}
use Rattle.paper_closure.specs.Closure.{Literals, opposite}

unfoldable pub free_of : Literals → Clause → List Literal
free_of S [] = []
free_of S (l ∷ c) = cond (S (opposite l)) (free_of S c) (l ∷ free_of S c)

-- n says how many these are, any but 0 and 1 for more; where it is one, it is l
pub record Tally (F : List Literal) (n : ℕ) (l : Literal) : Type 0 where
  pub none : n ≡ 0 → F ≡ []
  pub one : n ≡ 1 → F ≡ l ∷ []
  pub more : (n ≡ 0 → ⊥) → (n ≡ 1 → ⊥) → 2 ≤ length F
