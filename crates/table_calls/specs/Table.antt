-- Document 01, "Clause file" and "Questions in order", 18: what the table's call answers, and every lent array after it.
use Rattle.std.specs.Prelude.{◌&&◌, List, [], ◌∷◌, ◌++◌, ℕ, leb, length, Err}
use Rattle.moments.specs.Moments.{over}
use Rattle.refusal.specs.Asked.{question, asked, Reply, ok}
use Rattle.refusal.specs.declared.Refusal.{Refusal}
use Rattle.paper_grammar.specs.Trees.{Tree}
use Rattle.paper_grammar.specs.Reader.{read, on_tree}
use Rattle.paper_grammar.specs.declared.Sort.TheVariants.{Formula}
use Rattle.paper_grammar.specs.Nodes.{nodes_of}
use Rattle.paper_grammar.specs.Questions.{formula_questions}
use Rattle.paper_circuit.specs.Circuit.{variables_of}
use Rattle.paper_clauses.specs.Clauses.{clause_table}
use Rattle.paper_clauses.specs.Entries.{Entry, flat, places_in, variables_in, marks_in}
use Rattle.table_layout.specs.declared.Sizes.{Sizes}

-- "five 32-bit unsigned numbers [..]: C, k, variables V, clauses M, literals L"
unfoldable pub sizes_of : ℕ → ℕ → Tree Formula → List ℕ
sizes_of C k f = C ∷ k ∷ variables_of C k (nodes_of f 0) ∷ length (clause_table C k f) ∷ length (flat (clause_table C k f)) ∷ []

-- the same, as the code hands them on
abbrev pub five_of : Sizes → List ℕ
five_of s = s.channels ∷ s.steps ∷ s.variables ∷ s.clauses ∷ s.literals ∷ []

-- the sizes of a text's table
unfoldable pub sizes_in : ℕ → ℕ → List ℕ → List ℕ
sizes_in C k t = on_tree (sizes_of C k) (read t)

-- question 18: is every lent output array long enough? Five sizes, and L places of either array.
unfoldable pub ask_room : ℕ → ℕ → ℕ → ℕ → Reply
ask_room L sizes variables marks = question 18 0 (leb 5 sizes && leb L variables && leb L marks)

-- "the table [asks] 1 to 7 and 18"
abbrev pub table_questions : ℕ → ℕ → List ℕ → List ℕ → List ℕ → List ℕ → List Reply
table_questions C k t sizes variables marks = formula_questions C k t ++ ask_room (length (places_in C k t)) (length sizes) (length variables) (length marks) ∷ []

-- the answer, and the arrays after it
pub record After : Type 0 where
  pub answer : Reply
  pub sizes : List ℕ
  pub variables : List ℕ
  pub marks : List ℕ

-- where refused, nothing is written
abbrev pub refused : List ℕ → List ℕ → List ℕ → Refusal → After
refused sizes variables marks r = record { answer = Err r; sizes = sizes; variables = variables; marks = marks }

-- the sizes and the two arrays written
abbrev pub written : List ℕ → List ℕ → List ℕ → List ℕ → List ℕ → List ℕ → After
written five v m sizes variables marks = record { answer = ok; sizes = over five sizes; variables = over v variables; marks = over m marks }

-- "A table in memory is the same two arrays."
abbrev pub written_table : List ℕ → List Entry → List ℕ → List ℕ → List ℕ → After
written_table five F sizes variables marks = written five (variables_in F) (marks_in F) sizes variables marks

-- the call: "the first no gives number and place"; where there is none, the table is written
unfoldable pub tabled : ℕ → ℕ → List ℕ → List ℕ → List ℕ → List ℕ → After
tabled C k t sizes variables marks =
    asked (table_questions C k t sizes variables marks) (refused sizes variables marks) (written_table (sizes_in C k t) (places_in C k t) sizes variables marks)
