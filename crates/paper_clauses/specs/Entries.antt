-- Document 01, "Clause file": a table in memory is two parallel arrays, variable numbers and marks.
use Rattle.std.specs.Prelude.{cond, ℕ, ◌+◌, ◌%◌, eqb, leb}
use mathlib.Core.List.{List, [], ◌∷◌, map, flat_map}
use Rattle.paper_grammar.specs.Reader.{read, on_tree}
use Rattle.paper_meaning.specs.Meaning.{bit}
use Rattle.paper_clauses.specs.Clauses.{Literal, Clause, literal, clause_table}

-- a place of both arrays
pub record Entry : Type 0 where
  pub variable : ℕ
  pub mark : ℕ

abbrev pub entry : ℕ → ℕ → Entry
entry v m = record { variable = v; mark = m }

-- "Mark: 1 plain, 0 negated, plus 2 on a clause's final literal."
unfoldable pub entries_of : Clause → List Entry
entries_of [] = []
entries_of (l ∷ []) = entry l.variable (bit l.sign + 2) ∷ []
entries_of (l ∷ m ∷ c) = entry l.variable (bit l.sign) ∷ entries_of (m ∷ c)

-- the table's places, clause after clause
unfoldable pub flat : List Clause → List Entry
flat T = flat_map entries_of T

-- those of a text's table
unfoldable pub places_in : ℕ → ℕ → List ℕ → List Entry
places_in C k t = on_tree (λ f. flat (clause_table C k f)) (read t)

abbrev pub variables_in : List Entry → List ℕ
variables_in F = map (λ (e : Entry). e.variable) F

abbrev pub marks_in : List Entry → List ℕ
marks_in F = map (λ (e : Entry). e.mark) F

-- the clauses of such places: a mark of 2 or more closes a clause; what is open at the end is left out
abbrev pub literal_of : Entry → Literal
literal_of e = literal (eqb (e.mark % 2) 1) e.variable

abbrev pub closed : Literal → List Clause → List Clause
closed l T = (l ∷ []) ∷ T

abbrev pub begun : Literal → List Clause → List Clause
begun l [] = []
begun l (c ∷ T) = (l ∷ c) ∷ T

unfoldable pub read_back : List Entry → List Clause
read_back [] = []
read_back (e ∷ F) = cond (leb 2 e.mark) (closed (literal_of e) (read_back F)) (begun (literal_of e) (read_back F))
