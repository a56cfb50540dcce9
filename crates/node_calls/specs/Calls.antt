-- Document 01, "Formula text": the nodes of an accepted text, and a node's own text; question 8.
use Rattle.std.specs.Prelude.{◌&&◌, List, [], ◌∷◌, ◌++◌, map, ℕ, ◌-◌, leb, length, take, drop, Result, Ok, Err}
use Rattle.refusal.specs.Asked.{Reply, ok, question, asked}
use Rattle.refusal.specs.declared.Refusal.{Refusal}
use Rattle.paper_grammar.specs.Trees.{text_of}
use Rattle.paper_grammar.specs.Nodes.{Node, nodes_in}
use Rattle.paper_grammar.specs.Questions.{formula_questions}
use Rattle.node_rows.specs.Table.{row_of, table_of}
use Rattle.node_rows.specs.declared.NodeTable.{NodeTable}
use Rattle.node_calls.specs.declared.Span.{Span}

-- the table of an accepted text
unfoldable pub tabled_of : ℕ → ℕ → List ℕ → Result NodeTable Refusal
tabled_of C k t = asked (formula_questions C k t) Err (Ok (table_of (map row_of (nodes_in t))))

-- question 8: is the node number from 1 to the node count?
unfoldable pub ask_node : ℕ → List ℕ → Reply
ask_node x t = question 8 0 (leb 1 x && leb x (length (nodes_in t)))

-- "Node text asks 1 to 8"
abbrev pub node_questions : ℕ → ℕ → ℕ → List ℕ → List Reply
node_questions C k x t = formula_questions C k t ++ ask_node x t ∷ []

-- the table, if it has a node x
unfoldable pub tabled_with : ℕ → ℕ → ℕ → List ℕ → Result NodeTable Refusal
tabled_with C k x t = asked (node_questions C k x t) Err (Ok (table_of (map row_of (nodes_in t))))

-- "a second call on the same values gives the number and place"
unfoldable pub node_refusal_of : ℕ → ℕ → ℕ → List ℕ → Reply
node_refusal_of C k x t = asked (node_questions C k x t) Err ok

-- where a node's own text is, the first node's of a list: from its first byte, as many bytes as its subtree prints
abbrev pub part_place : List Node → Span
part_place [] = record { first = 0; length = 0 }
part_place (w ∷ l) = record { first = w.first; length = length (text_of w.part) }

unfoldable pub node_place_of : ℕ → ℕ → ℕ → List ℕ → Result Span Refusal
node_place_of C k x t = asked (node_questions C k x t) Err (Ok (part_place (drop (x - 1) (nodes_in t))))

-- "a node's own text is handed back as that part of the lent text, the empty part where refused"; the law `own_text` says that
-- this part is what the node prints
abbrev pub part_of : List ℕ → Result Span Refusal → List ℕ
part_of t (Ok span) = take span.length (drop span.first t)
part_of t (Err r) = []

unfoldable pub node_text_of : ℕ → ℕ → ℕ → List ℕ → List ℕ
node_text_of C k x t = part_of t (node_place_of C k x t)
