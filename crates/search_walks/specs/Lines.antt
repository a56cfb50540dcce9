-- What a gate of a block of one line goes by. Nothing here need be believed: no call open to others cites it.
use Rattle.std.specs.Prelude.{◌≡◌, ℕ}
use Rattle.table_blocks.specs.Blocks.{gate_of}
use Rattle.table_blocks.specs.declared.Block.{Block}
use Rattle.paper_clauses.specs.Clauses.{clauses_of}
use Rattle.table_gates.specs.Mentioned.{Variable, InputsIn}
use Rattle.search_patterns.specs.Patterns.{pattern_of, among, renamed}
use Rattle.search_walks.specs.declared.Inputs.{Inputs}

-- the pattern over v and these inputs is the gate in place x
pub record GoesBy (C k : ℕ) (b : Block) (x v : ℕ) (r : Inputs) : Type 0 where
  pub clauses : renamed (among v r.x r.y v) (pattern_of r.gate) ≡ clauses_of v (gate_of C k b x 0 0 x)
  pub inputs : (l : ℕ) → Variable l v → InputsIn l (gate_of C k b x 0 0 x) → Variable l r.x × Variable l r.y
