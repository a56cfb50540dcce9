-- What closing a set of literals does with values and trail. Nothing here need be believed: no call open to others cites it.
use Rattle.std.specs.Prelude.{◌≡◌, true, false, List, ℕ, length}
use Rattle.moments.specs.Moments.{old, new, Slice}
use Rattle.paper_clauses.specs.Clauses.{Clause}
use Rattle.paper_closure.specs.Runs.{clashes}
use Rattle.paper_closure.specs.Tree.{closure}
use Rattle.search_closing.specs.Values.{held_in, Grown}
use Rattle.search_closing.specs.declared.Closed.{Closed}

-- values and trail become the closure, or it clashes
pub record ClosedTo (T : List Clause) (v₀ t₀ : List ℕ) (top₀ : ℕ) (values trail : List ℕ) (r : Closed) : Type 0 where
  pub grown : Grown v₀ t₀ top₀ values trail r.top
  pub calm : r.clash ≡ false → held_in values ≡ closure T (held_in v₀)
  pub clashing : r.clash ≡ true → clashes (length v₀) (closure T (held_in v₀)) ≡ true

abbrev pub Closes : List Clause → Slice → Slice → ℕ → Closed → Type 0
Closes T values trail top r = ClosedTo T (old values) (old trail) top (new values) (new trail) r
