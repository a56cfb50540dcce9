-- What the code asks of a node table before it looks variables up, and the questions that it then asks. Nothing here need be believed: no
-- call open to others cites it.
use Rattle.std.specs.Prelude.{List, [], ◌∷◌, ◌++◌, ℕ, ◌+◌}
use Rattle.lists.specs.Listing.{rows}
use Rattle.paper_grammar.specs.Trees.{Tree}
use Rattle.paper_grammar.specs.declared.Sort.TheVariants.{Formula}
use Rattle.paper_grammar.specs.Nodes.{nodes_of}
use Rattle.node_rows.specs.declared.NodeTable.{NodeTable}
use Rattle.paper_circuit.specs.Circuit.{Definition, variables_of}
use Rattle.paper_clauses.specs.Clauses.{Clause, plain, clauses_by, clause_table}
use Rattle.table_layout.specs.Rows.{seat_by, row_definitions}
use Rattle.paper_assignments.specs.Extension.{value_in}
use Rattle.refusal.specs.Asked.{ask_places, Reply}
use Rattle.paper_assignments.specs.Calls.{ask_assignment, ask_values, ask_clauses}

-- the definitions of the nodes of a table, and their clauses with the last one
abbrev pub defined_in : ℕ → ℕ → NodeTable → List ℕ → List Definition
defined_in C k T firsts = rows T.count (row_definitions C k T.kinds T.numbers T.sizes firsts)

abbrev pub root_in : NodeTable → List ℕ → ℕ → ℕ
root_in T firsts k = seat_by T.kinds T.numbers firsts k 0 + k

abbrev pub clauses_for : ℕ → ℕ → NodeTable → List ℕ → List Clause
clauses_for C k T firsts = clauses_by (defined_in C k T firsts) ++ (plain (root_in T firsts k) ∷ []) ∷ []

-- questions 12 to 14 and 18
abbrev pub check_questions : ℕ → ℕ → Tree Formula → List ℕ → ℕ → List Reply
check_questions C k f A places =
    ask_assignment (variables_of C k (nodes_of f 0)) A ∷ ask_values A ∷ ask_clauses (value_in A) 0 (clause_table C k f) ∷ ask_places k places ∷ []
