-- What a visit of a gate does with values and trail. Nothing here need be believed: no call open to others cites it.
use Rattle.std.specs.Prelude.{◌≡◌, true, false, ◌⊎◌, List, [], ◌∷◌, map, ℕ, ◌+◌, ◌≤◌, ◌<◌, length}
use Rattle.moments.specs.Moments.{old, new, Slice}
use Rattle.lists.specs.Listing.{tab}
use Rattle.table_literals.specs.Written.{limit}
use Rattle.paper_clauses.specs.Clauses.{plain, negated, Clause}
use Rattle.paper_closure.specs.Closure.{Literals, opposite}
use Rattle.paper_closure.specs.Tree.{closure}
use Rattle.paper_closure.specs.Runs.{clashes}
use Rattle.search_closing.specs.Values.{held_in, Grown}
use Rattle.search_closing.specs.declared.Closed.{Closed}
use Rattle.table_gates.specs.Mentioned.{Variable}

-- of a set S that has grown from R, each clause is closed, or a literal of it is opposed by a new one
abbrev pub Touched : Literals → Literals → Clause → Type 0
Touched R S [] = ⊥
Touched R S (l ∷ c) = ((S (opposite l) ≡ true) × (R (opposite l) ≡ false)) ⊎ Touched R S c

abbrev pub Due : Literals → Literals → List Clause → Type 0
Due R S [] = Unit
Due R S (c ∷ T) = ((S ≡ closure (c ∷ []) S) ⊎ Touched R S c) × Due R S T

-- values and trail have grown by literals of the closure of these clauses, each of which is closed or touched since, or it clashes
pub record Visited (T : List Clause) (v₀ t₀ : List ℕ) (top₀ : ℕ) (values trail : List ℕ) (r : Closed) : Type 0 where
  pub grown : Grown v₀ t₀ top₀ values trail r.top
  pub same : closure T (held_in values) ≡ closure T (held_in v₀)
  pub due : r.clash ≡ false → Due (held_in v₀) (held_in values) T
  pub clashing : r.clash ≡ true → clashes (length v₀) (closure T (held_in v₀)) ≡ true

abbrev pub Visits : List Clause → Slice → Slice → ℕ → Closed → Type 0
Visits T values trail top r = Visited T (old values) (old trail) top (new values) (new trail) r

-- n variables from w on
abbrev pub Row : ℕ → ℕ → ℕ → Type 0
Row m w n = (w + n ≤ limit) × ((e : ℕ) → e < n → Variable m (w + e))

-- (v −w), w being e further; (−v w ... w), n of them
abbrev pub raised_by : ℕ → ℕ → ℕ → List Clause
raised_by v w e = (plain v ∷ negated (w + e) ∷ []) ∷ []

abbrev pub long_by : ℕ → ℕ → ℕ → Clause
long_by v w n = negated v ∷ map plain (tab n (λ e. w + e))
