-- What the code's search says of the tree of a list of clauses. Nothing here need be believed: no call open to others cites it.
use Rattle.std.specs.Prelude.{◌≡◌, List, ℕ, ◌≤◌, ◌<◌}
use Rattle.paper_clauses.specs.Clauses.{Clause}
use Rattle.paper_closure.specs.Runs.{dead, found}
use Rattle.paper_closure.specs.Tree.{trial, tree}
use Rattle.search_closing.specs.Values.{held_in}
use Rattle.search_tries.specs.declared.Below.{Below}
use Rattle.search_tries.specs.declared.Below.TheVariants.{Dead, Found, Spent}

-- what comes of the whole tree
abbrev pub Result : List Clause → ℕ → ℕ → ℕ → List ℕ → Below → Type 0
Result T variables channels limit values (Dead n) = (tree T variables channels ≡ trial dead n) × (n ≤ limit)
Result T variables channels limit values (Found n) = (tree T variables channels ≡ trial (found (held_in values)) n) × (n ≤ limit)
Result T variables channels limit values Spent = limit < (tree T variables channels).tries

pub record Started (T : List Clause) (variables channels limit : ℕ) (values : List ℕ) (r : Below) : Type 0 where
  pub result : Result T variables channels limit values r
