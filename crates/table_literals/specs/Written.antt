-- What it is to have written some places of a table, from a place on. Nothing here need be believed: no call open to others cites it.
use Rattle.std.specs.Prelude.{◌≡◌, List, [], ◌∷◌, ◌++◌, ℕ, ◌+◌, ◌-◌, ◌^◌, ◌≤◌, length}
use Rattle.std.proofs.lemmas.List.Edits.{sets}
use Rattle.lists.specs.Listing.{rows}
use Rattle.paper_clauses.specs.Entries.{Entry, entry, variables_in, marks_in}

-- there is room for F at a place of both arrays
pub record Room (v m : List ℕ) (at : ℕ) (F : List Entry) : Type 0 where
  pub variables : at + length F ≤ length v
  pub marks : at + length F ≤ length m

-- F was written from the place on, which made v and m these arrays; the place after it
pub record Wrote (v m : List ℕ) (at : ℕ) (F : List Entry) (v' m' : List ℕ) (at' : ℕ) : Type 0 where
  pub variables : v' ≡ sets v at (variables_in F)
  pub marks : m' ≡ sets m at (marks_in F)
  pub next : at' ≡ at + length F

-- of the lists f 0, .., f (n − 1) the first i are written
pub record Sofar (v m : List ℕ) (at : ℕ) (f : ℕ → List Entry) (n : ℕ) (v' m' : List ℕ) (at' i : ℕ) : Type 0 where
  pub upto : i ≤ n
  pub long : length v' ≡ length v
  pub wide : length m' ≡ length m
  pub wrote : Wrote v m at (rows i f) v' m' at'

-- n variables from w on, all with one mark
abbrev pub run_of : ℕ → ℕ → ℕ → List Entry
run_of w m e = entry (w + e) m ∷ []

-- (v −w), w being e further
abbrev pub raised_of : ℕ → ℕ → ℕ → List Entry
raised_of v w e = entry v 1 ∷ entry (w + e) 2 ∷ []

-- variable numbers are of 32 bits
abbrev pub limit : ℕ
limit = 2 ^ 32

-- (−v w ... w), n of them from w on
abbrev pub long_of : ℕ → ℕ → ℕ → List Entry
long_of v w n = (entry v 0 ∷ []) ++ (rows (n - 1) (run_of w 1) ++ (entry (w + (n - 1)) 3 ∷ []))
