-- What a node defines, by its block, as the code goes by it. Nothing here need be believed: no call open to others cites it.
use Rattle.std.specs.Prelude.{Bool, true, false, List, ◌++◌, ℕ, ◌+◌, ◌≤◌}
use Rattle.interval.specs.Places.{count_of}
use Rattle.interval.specs.Limits.{max_count}
use Rattle.paper_circuit.specs.Circuit.{Definition}
use Rattle.table_blocks.specs.Blocks.{is_chop, defined_by, Bounded}
use Rattle.table_blocks.specs.declared.Block.{Block}
use Rattle.table_blocks.specs.declared.Rule.TheVariants.{Chop, Cut}
use Rattle.table_sizes.specs.Weights.{max_sum}
use Rattle.paper_clauses.specs.Clauses.{clauses_by}
use Rattle.paper_clauses.specs.Entries.{Entry, flat}

-- a chop's triples, from w on, and its intervals, which go by them
abbrev pub triple_block : ℕ → Block → Block
triple_block w b = record { rule = Cut; points = b.points; first = w; left = b.left; right = b.right }

abbrev pub interval_block : ℕ → Block → Block
interval_block w b = record { rule = Chop; points = b.points; first = b.first; left = w; right = b.right }

abbrev pub chopped_by : ℕ → ℕ → ℕ → Block → List Definition
chopped_by C k w b = defined_by C k (triple_block w b) ++ defined_by C k (interval_block w b)

-- a node's own definitions
abbrev pub node_by : ℕ → ℕ → Block → Bool → List Definition
node_by C k b true = chopped_by C k (b.first + count_of k) b
node_by C k b false = defined_by C k b

-- the places that a node's definitions take
unfoldable pub node_places : ℕ → ℕ → Block → List Entry
node_places C k b = flat (clauses_by (node_by C k b (is_chop b.rule)))

-- what the code asks of a node's block
pub record Fine (C k : ℕ) (b : Block) : Type 0 where
  pub bounded : Bounded C k b
  pub points : b.points ≤ max_count
  pub first : b.first ≤ max_sum
