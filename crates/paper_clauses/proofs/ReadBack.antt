-- The places of a table read back as its clauses: each clause that is not empty ends at its one closing mark, and a mark keeps its
-- literal's sign; by induction on the clause, then on the table.
use mathlib.Core.Path.{◌≡◌, refl, ap, ◌∙◌}
use mathlib.Core.Bool.{Bool, true, false}
use mathlib.Core.List.{List, [], ◌∷◌, ◌++◌, append_assoc, append-nil, flat_map}
use Prim.Native.Nat.{ℕ, ◌+◌}
use Rattle.lists.specs.Listing.{All}
use Rattle.paper_meaning.specs.Meaning.{bit}
use Rattle.paper_clauses.specs.Clauses.{Literal, literal, Clause}
use Rattle.paper_clauses.specs.Entries.{Entry, entry, entries_of, flat, closed, begun, read_back}
use Rattle.paper_clauses.proofs.Good.{Full}

last_read : (u : Bool) (v : ℕ) (F : List Entry) → read_back (entry v (bit u + 2) ∷ F) ≡ closed (literal u v) (read_back F)
unfolding read_back
last_read true v F = refl
last_read false v F = refl

next_read : (u : Bool) (v : ℕ) (F : List Entry) → read_back (entry v (bit u) ∷ F) ≡ begun (literal u v) (read_back F)
unfolding read_back
next_read true v F = refl
next_read false v F = refl

clause_read : (l : Literal) (c : Clause) (F : List Entry) → read_back (entries_of (l ∷ c) ++ F) ≡ (l ∷ c) ∷ read_back F
unfolding entries_of
clause_read l [] F = last_read l.sign l.variable F
clause_read l (m ∷ c) F = next_read l.sign l.variable (entries_of (m ∷ c) ++ F) ∙ ap (begun l) (clause_read m c F)

pub reads_before : (T : List Clause) (F : List Entry) → All Full T → read_back (flat T ++ F) ≡ T ++ read_back F
unfolding flat flat_map
reads_before [] F h = refl
reads_before ([] ∷ T) F h = absurd h.0
reads_before ((l ∷ c) ∷ T) F h =
    rw append_assoc (clause_read l c (flat T ++ F) ∙ ap (λ (S : List Clause). (l ∷ c) ∷ S) (reads_before T F h.1))

pub reads_back : (T : List Clause) → All Full T → read_back (flat T) ≡ T
unfolding read_back
reads_back T h = simp append-nil at (reads_before T [] h)
