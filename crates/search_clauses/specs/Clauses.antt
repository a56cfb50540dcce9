-- The table that a node table stands for, row by row. Nothing here need be believed: no call open to others cites it.
use Rattle.std.specs.Prelude.{true, List, ◌++◌, ℕ, ◌+◌}
use Rattle.lists.specs.Listing.{rows}
use Rattle.paper_circuit.specs.Circuit.{Definition}
use Rattle.paper_circuit.specs.declared.Gate.TheVariants.{Constant}
use Rattle.paper_clauses.specs.Clauses.{Clause, clauses_of, clauses_by}
use Rattle.table_layout.specs.Rows.{seat_by, row_definitions}
use Rattle.table_nodes.specs.Walk.{definition_in}

-- the clauses of the definition in place x
abbrev pub clauses_at : List Definition → ℕ → List Clause
clauses_at D x = let d = definition_in D x in clauses_of d.variable d.gate

-- the clauses of the node at row x
abbrev pub row_clauses : ℕ → ℕ → List ℕ → List ℕ → List ℕ → List ℕ → ℕ → List Clause
row_clauses C k kinds numbers sizes firsts x = clauses_by (row_definitions C k kinds numbers sizes firsts x)

-- those of the first n nodes
abbrev pub nodes_by : ℕ → ℕ → List ℕ → List ℕ → List ℕ → List ℕ → ℕ → List Clause
nodes_by C k kinds numbers sizes firsts n = rows n (row_clauses C k kinds numbers sizes firsts)

-- all nodes' clauses, and the root alone
unfoldable pub table_by : ℕ → ℕ → List ℕ → List ℕ → List ℕ → List ℕ → ℕ → List Clause
table_by C k kinds numbers sizes firsts n =
    nodes_by C k kinds numbers sizes firsts n ++ clauses_of (seat_by kinds numbers firsts k 0 + k) (Constant true)
