-- The closure and the tree of tries, executable: the search's call is defined by them, and document 01's edges are computed from them.
-- Nothing here need be believed: that the closure is the smallest closed set (`closure_is`) and that the tree makes the one run of the
-- rules (`tree_runs`, `one_run`) are theorems.
use Rattle.std.specs.Prelude.{true, false, not, ◌&&◌, List, [], ◌∷◌, ℕ, zero, suc, ◌+◌, length}
use Rattle.std.proofs.Math.Option.{Option, none, some}
use Rattle.paper_clauses.specs.Clauses.{Literal, Clause, plain, negated}
use Rattle.paper_closure.specs.Closure.{Literals, nothing, add, all_opposed, Member, members_in}
use Rattle.paper_closure.specs.Runs.{clashes, is_open, Outcome, dead, found}

-- the first of these whose fellows are all opposed in the set, and that is not in it
unfoldable pub first_forced : List Member → Literals → Option Literal
first_forced [] S = none
first_forced (m ∷ ms) S = elim (not (S m.self) && all_opposed S m.fellows) [ true ↦ some m.self | false ↦ first_forced ms S ]

-- such literals added, n at the most
unfoldable pub forced : ℕ → List Member → Literals → Literals
forced zero ms S = S
forced (suc n) ms S = elim (first_forced ms S) [ none ↦ S | some l ↦ forced n ms (add l S) ]

-- a table has no more literals to add than members
unfoldable pub closure : List Clause → Literals → Literals
closure T S = let ms = members_in T in forced (length ms) ms S

-- the lowest open variable, of n from v on
unfoldable pub lowest_open : Literals → ℕ → ℕ → Option ℕ
lowest_open S v zero = none
lowest_open S v (suc n) = elim (is_open S v) [ true ↦ some v | false ↦ lowest_open S (suc v) n ]

-- an outcome, and the number of tries until then
pub record Trial : Type 0 where
  pub outcome : Outcome
  pub tries : ℕ

abbrev pub trial : Outcome → ℕ → Trial
trial o n = record { outcome = o; tries = n }

-- what the try low comes to, and what the try high would
abbrev pub low_then_high : Trial → (Unit {0} → Trial) → Trial
low_then_high low high =
    elim low.outcome [
      | found S ↦ trial (found S) (1 + low.tries)
      | dead ↦ let h = high tt in trial h.outcome (1 + low.tries + (1 + h.tries))
    ]

-- a try
abbrev pub tried : List Clause → Literals → Literal → Literals
tried T S l = closure T (add l S)

module _ (T : List Clause) (variables channels : ℕ) where
  -- of m tries one below another: each shuts a channel variable, so as many as there are of these are enough
  unfoldable pub tree_below : ℕ → Literals → Trial
  tree_below zero S = elim (clashes variables S) [ true ↦ trial dead 0 | false ↦ trial (found S) 0 ]
  tree_below (suc m) S =
      elim (clashes variables S) [
        | true ↦ trial dead 0
        | false ↦ elim (lowest_open S 1 channels) [
          | none ↦ trial (found S) 0
          | some v ↦ low_then_high (tree_below m (tried T S (negated v))) (λ _. tree_below m (tried T S (plain v)))
        ]
      ]

  unfoldable pub tree : Trial
  tree = tree_below channels (closure T nothing)
