-- Document 01, "Variables", "Foreign assignments" and "Questions in order", 12 to 14 and 18: what the extension's call and the check of a
-- proposed assignment answer, and every lent array after them.
use Rattle.std.specs.Prelude.{cond, List, [], ◌∷◌, ◌++◌, ℕ, suc, eqb, length, Err}
use Rattle.refusal.specs.Asked.{question, ask_places, asked, Reply, ok}
use Rattle.refusal.specs.declared.Refusal.{Refusal}
use Rattle.paper_grammar.specs.Reader.{read, on_tree}
use Rattle.paper_grammar.specs.Nodes.{nodes_in}
use Rattle.paper_grammar.specs.Questions.{formula_questions}
use Rattle.paper_meaning.specs.Recording.{ask_recording, ask_bytes, ask_below}
use Rattle.paper_circuit.specs.Gates.{Assignment}
use Rattle.paper_circuit.specs.Circuit.{variables_of}
use Rattle.paper_clauses.specs.Clauses.{Clause, clause_table, meets_clause}
use Rattle.moments.specs.Moments.{over}
use Rattle.paper_assignments.specs.Extension.{value_in, extension_of, recording_of}

-- question 12: has the assignment V bytes?
unfoldable pub ask_assignment : ℕ → List ℕ → Reply
ask_assignment n A = question 12 0 (eqb (length A) n)

-- question 13: is each 0 or 1? Its place: first that isn't.
abbrev pub ask_values : List ℕ → Reply
ask_values A = ask_below 13 2 A

-- question 14: is every clause met? Its place: "first unmet", these clauses being numbered from n on.
unfoldable pub ask_clauses : Assignment → ℕ → List Clause → Reply
ask_clauses a n [] = ok
ask_clauses a n (c ∷ T) = cond (meets_clause a c) (ask_clauses a (suc n) T) (Err (record { number = 14; place = n }))

-- the clauses of a text's table
unfoldable pub clauses_in : ℕ → ℕ → List ℕ → List Clause
clauses_in C k t = on_tree (clause_table C k) (read t)

-- "the extension of a recording [asks] 1 to 7, 10, 11 and 18"
abbrev pub extension_questions : ℕ → ℕ → List ℕ → List ℕ → List ℕ → List Reply
extension_questions C k t recording assignment =
    formula_questions C k t ++ ask_recording k recording ∷ ask_bytes C recording ∷ ask_places (variables_of C k (nodes_in t)) (length assignment) ∷ []

-- the extension's answer, and the assignment after it
pub record Extended : Type 0 where
  pub answer : Reply
  pub assignment : List ℕ

abbrev pub not_extended : List ℕ → Refusal → Extended
not_extended assignment r = record { answer = Err r; assignment = assignment }

-- "On demand the one assignment that extends a recording and meets all clauses but the last is written, V bytes."
unfoldable pub extended : ℕ → ℕ → List ℕ → List ℕ → List ℕ → Extended
extended C k t recording assignment =
    asked (extension_questions C k t recording assignment) (not_extended assignment)
    (record { answer = ok; assignment = over (extension_of C k recording (nodes_in t)) assignment })

-- "a proposed assignment [asks] 1 to 7, 12 to 14 and 18"
abbrev pub proposal_questions : ℕ → ℕ → List ℕ → List ℕ → List ℕ → List Reply
proposal_questions C k t A recording =
    formula_questions C k t ++ ask_assignment (variables_of C k (nodes_in t)) A ∷ ask_values A ∷ ask_clauses (value_in A) 0 (clauses_in C k t) ∷ ask_places k (length recording) ∷ []

-- the check's answer, and the recording's array after it
pub record Proposed : Type 0 where
  pub answer : Reply
  pub recording : List ℕ

abbrev pub not_accepted : List ℕ → Refusal → Proposed
not_accepted recording r = record { answer = Err r; recording = recording }

-- "A proposed assignment, from anyone, is accepted exactly when it meets every clause. The recording read from its channel variables is
-- then written, k bytes."
unfoldable pub proposed : ℕ → ℕ → List ℕ → List ℕ → List ℕ → Proposed
proposed C k t A recording =
    asked (proposal_questions C k t A recording) (not_accepted recording) (record { answer = ok; recording = over (recording_of C k A) recording })
