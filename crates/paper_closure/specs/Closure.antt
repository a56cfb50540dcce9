-- Document 01, "First recording": a set of literals, and its closure under the clauses of a table (unit propagation to its end).
use Rattle.std.specs.Prelude.{◌≡◌, Bool, true, false, not, ◌&&◌, ◌||◌, eqb}
use Rattle.std.specs.Bool.{beq}
use mathlib.Core.List.{List, [], ◌∷◌, map, flat_map, Memᴰ}
use Rattle.paper_clauses.specs.Clauses.{Literal, literal, Clause}

-- a set of literals: whether each is in it
abbrev pub Literals : Type 0
Literals = Literal → Bool

abbrev pub nothing : Literals
nothing l = false

abbrev pub same_literal : Literal → Literal → Bool
same_literal l m = eqb l.variable m.variable && beq l.sign m.sign

-- the set "with that literal added"
unfoldable pub add : Literal → Literals → Literals
add l S m = same_literal l m || S m

-- "opposed in the set": the other literal of its variable is in it
abbrev pub opposite : Literal → Literal
opposite l = literal (not l.sign) l.variable

unfoldable pub all_opposed : Literals → Clause → Bool
all_opposed S [] = true
all_opposed S (l ∷ c) = S (opposite l) && all_opposed S c

-- a literal of a clause, with "its fellows in that clause"
pub record Member : Type 0 where
  pub self : Literal
  pub fellows : Clause

abbrev pub member : Literal → Clause → Member
member l c = record { self = l; fellows = c }

-- each literal of a clause
unfoldable pub members_of : Clause → List Member
members_of [] = []
members_of (l ∷ c) = member l c ∷ map (λ (m : Member). member m.self (l ∷ m.fellows)) (members_of c)

-- each literal of each clause of a table
unfoldable pub members_in : List Clause → List Member
members_in T = flat_map members_of T

-- R contains S
abbrev pub Contains : Literals → Literals → Type 0
Contains R S = (l : Literal) → S l ≡ true → R l ≡ true

-- S has "each literal of a clause whose fellows in that clause are all opposed in the set, even if the literal is opposed itself"
abbrev pub ClosedUnder : List Clause → Literals → Type 0
ClosedUnder T S = (m : Member) → Memᴰ m (members_in T) → all_opposed S m.fellows ≡ true → S m.self ≡ true

-- R is "the closure of a set of literals": "the smallest set containing it and each [such] literal"
pub record ClosureOf (T : List Clause) (S R : Literals) : Type 0 where
  pub contains : Contains R S
  pub closed : ClosedUnder T R
  pub smallest : (Q : Literals) → Contains Q S → ClosedUnder T Q → Contains Q R
