-- The flat node table of an accepted text: for each node, in number order, what it is, how many nodes it has, and where its text is.
use Rattle.std.specs.Prelude.{Bool, true, false, List, ◌++◌, map, ℕ, ◌+◌, ◌-◌, length, replicate}
use Rattle.paper_grammar.specs.Limits.{max_nodes}
use Rattle.paper_grammar.specs.Trees.{Link, and, or, chop, Tree, constant, letter, negation, pair, duration, throughout, text_of}
use Rattle.paper_grammar.specs.declared.Sort.{Sort}
use Rattle.paper_grammar.specs.declared.Sort.TheVariants.{State, Formula}
use Rattle.paper_grammar.specs.Nodes.{Node, nodes_of}
use Rattle.node_rows.specs.declared.Head.{Head}
use Rattle.node_rows.specs.declared.Row.{Row}
use Rattle.node_rows.specs.declared.NodeTable.{NodeTable}

-- what a node is, by number: `F` 0, `T` 1, `!` 2, `&` 3, `|` 4, `;` 5, a letter 6, `#` 7, `[` 8; 16 more for a formula
abbrev pub sort_code : Sort → ℕ
sort_code State = 0
sort_code Formula = 16

abbrev pub constant_code : Bool → ℕ
constant_code false = 0
constant_code true = 1

abbrev pub negation_code : ℕ
negation_code = 2

abbrev pub link_code : {s : Sort} → Link s → ℕ
link_code and = 3
link_code or = 4
link_code chop = 5

abbrev pub letter_code : ℕ
letter_code = 6

abbrev pub duration_code : ℕ
duration_code = 7

abbrev pub throughout_code : ℕ
throughout_code = 8

-- a node's kind, and its number: a letter's channel, a duration's n, 0 for any other
abbrev pub heading : ℕ → ℕ → Head
heading k n = record { kind = k; number = n }

abbrev pub head_of : {s : Sort} → Tree s → Head
head_of {s} (constant v) = heading (sort_code s + constant_code v) 0
head_of {s} (negation x) = heading (sort_code s + negation_code) 0
head_of {s} (pair l x y) = heading (sort_code s + link_code l) 0
head_of (letter c) = heading letter_code c
head_of (duration x n) = heading (sort_code Formula + duration_code) n
head_of (throughout x) = heading (sort_code Formula + throughout_code) 0

-- a node's row: its size is how many nodes it has, itself included
abbrev pub row_of : Node → Row
row_of w = record { head = head_of w.part; size = length (nodes_of w.part w.first); first = w.first; length = length (text_of w.part) }

-- the table: an array for each field, 0 beyond the nodes
abbrev pub padded : List ℕ → List ℕ
padded l = l ++ replicate (max_nodes - length l) 0

unfoldable pub table_of : List Row → NodeTable
table_of rows = record {
  count = length rows;
  kinds = padded (map (λ (r : Row). r.head.kind) rows);
  numbers = padded (map (λ (r : Row). r.head.number) rows);
  sizes = padded (map (λ (r : Row). r.size) rows);
  firsts = padded (map (λ (r : Row). r.first) rows);
  lengths = padded (map (λ (r : Row). r.length) rows);
}
