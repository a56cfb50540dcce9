-- The tree starts from values that are all 0, which are the set of nothing: closed, they are its closure.
-- The call keeps the values' length, so what is said of theirs then is said of what was lent.
use mathlib.Core.Path.{◌≡◌}
use mathlib.Core.List.{List}
use Prim.Native.Nat.{ℕ}
use lib.ListN.{get_or}
use Rattle.paper_clauses.specs.Clauses.{Clause}
use Rattle.paper_closure.specs.Closure.{nothing}
use Rattle.search_closing.specs.Closing.{ClosedTo}
use Rattle.search_closing.specs.declared.Closed.{Closed}
use Rattle.search_tries.specs.Attempts.{Holding}
use Rattle.search_tries.proofs.Values.{zero_nothing}
use Rattle.search_tries.proofs.Attempts.{holding}
use Rattle.search_tries.specs.Tries.{Started}
use Rattle.search_tries.specs.declared.Below.{Below}

pub begun : {T : List Clause} (z : List ℕ) → ((y : ℕ) → get_or z y 0 ≡ 0) → {t values trail : List ℕ} {r : Closed} → ClosedTo T z t 0 values trail r → Holding T nothing values trail r
begun z f = holding (zero_nothing z f)

pub started_long : {T : List Clause} {variables n channels limit : ℕ} {values : List ℕ} {r : Below} → variables ≡ n → Started T variables channels limit values r
    → Started T n channels limit values r
started_long e s = rw e at s
