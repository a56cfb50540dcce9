-- What a row of the node table defines, as the code goes by it. Nothing here need be believed: no call open to others cites it.
use Rattle.std.specs.Prelude.{cond, ◌≡◌, List, ◌++◌, ℕ, ◌+◌, ◌*◌, ◌≤◌, ◌<◌, eqb, get_or}
use Rattle.lists.specs.Listing.{rows}
use Rattle.interval.specs.Places.{count_of}
use Rattle.paper_grammar.specs.declared.Sort.TheVariants.{Formula}
use Rattle.node_rows.specs.Table.{sort_code, duration_code}
use Rattle.node_rows.specs.declared.NodeTable.{NodeTable}
use Rattle.paper_circuit.specs.Circuit.{Definition}
use Rattle.table_blocks.specs.Blocks.{rule_by, is_chop, bound}
use Rattle.table_blocks.specs.declared.Block.{Block}
use Rattle.table_sizes.specs.Weights.{variable_weight, clause_weight, literal_weight, points_by, weight_to, max_sum}
use Rattle.paper_clauses.specs.Entries.{Entry}
use Rattle.table_literals.specs.Written.{run_of}
use Rattle.table_nodes.specs.Nodes.{node_by, node_places}
use Rattle.table_layout.specs.declared.Sizes.{Sizes}

-- where in its block a node's truth begins: a duration has its levels below it
abbrev pub truth_by : ℕ → ℕ → ℕ → ℕ
truth_by k kind n = cond (eqb kind (sort_code Formula + duration_code)) (n * count_of k) 0

-- the first variable of the truth of the node at row y, firsts being the first variables of the nodes
unfoldable pub seat_by : List ℕ → List ℕ → List ℕ → ℕ → ℕ → ℕ
seat_by kinds numbers firsts k y = get_or firsts y 0 + truth_by k (get_or kinds y 0) (get_or numbers y 0)

-- the block of the node at row x
unfoldable pub block_by : List ℕ → List ℕ → List ℕ → List ℕ → ℕ → ℕ → Block
block_by kinds numbers sizes firsts k x = record {
  rule = rule_by (get_or kinds x 0) (get_or numbers x 0);
  points = points_by k (get_or kinds x 0);
  first = get_or firsts x 0;
  left = seat_by kinds numbers firsts k (x + 1);
  right = seat_by kinds numbers firsts k (x + 1 + get_or sizes (x + 1) 0);
}

-- the definitions of the node at row x, and their places
abbrev pub row_definitions : ℕ → ℕ → List ℕ → List ℕ → List ℕ → List ℕ → ℕ → List Definition
row_definitions C k kinds numbers sizes firsts x = let b = block_by kinds numbers sizes firsts k x in node_by C k b (is_chop b.rule)

abbrev pub row_places : ℕ → ℕ → List ℕ → List ℕ → List ℕ → List ℕ → ℕ → List Entry
row_places C k kinds numbers sizes firsts x = node_places C k (block_by kinds numbers sizes firsts k x)

-- the last clause: the root on [0, k], whose place is k
abbrev pub root_places : List ℕ → List ℕ → List ℕ → ℕ → ℕ → List Entry
root_places kinds numbers firsts k = run_of (seat_by kinds numbers firsts k 0 + k) 3

-- the places of a whole node table: the nodes', then the root's
abbrev pub nodes_places : ℕ → ℕ → NodeTable → List ℕ → List Entry
nodes_places C k T firsts = rows T.count (row_places C k T.kinds T.numbers T.sizes firsts)

abbrev pub table_places : ℕ → ℕ → NodeTable → List ℕ → List Entry
table_places C k T firsts = nodes_places C k T firsts ++ rows 1 (root_places T.kinds T.numbers firsts k)

-- first variables are below this, whatever the node table says
abbrev pub Low : List ℕ → Type 0
Low firsts = (y : ℕ) → get_or firsts y 0 ≤ max_sum

-- the first variables of the truths of n rows, all low
abbrev pub Seated : List ℕ → List ℕ → List ℕ → ℕ → List ℕ → ℕ → Type 0
Seated kinds numbers firsts k seats n = (y : ℕ) → y < n → (get_or seats y 0 ≡ seat_by kinds numbers firsts k y) × (get_or seats y 0 < bound)

-- what a node table measures, and the first variable of each node
pub record Measured (C k : ℕ) (kinds numbers : List ℕ) (n : ℕ) (firsts : List ℕ) (s : Sizes) : Type 0 where
  pub channels : s.channels ≡ C
  pub steps : s.steps ≡ k
  pub variables : s.variables ≡ k * C + weight_to variable_weight k kinds numbers n
  pub clauses : s.clauses ≡ 1 + weight_to clause_weight k kinds numbers n
  pub literals : s.literals ≡ 1 + weight_to literal_weight k kinds numbers n
  pub first : (y : ℕ) → y < n → get_or firsts y 0 ≡ 1 + k * C + weight_to variable_weight k kinds numbers y
  pub low : Low firsts
