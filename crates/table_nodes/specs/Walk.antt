-- The walk through a block's gates: where it stands, and what it has written. Nothing here need be believed: no call open to others
-- cites it.
use Rattle.std.specs.Prelude.{◌≡◌, false, List, ℕ, ◌+◌, ◌≤◌, ◌<◌, length, get_or}
use Rattle.interval.proofs.Shape.{count}
use Rattle.interval.specs.Limits.{max_steps, max_count}
use Rattle.interval.specs.Places.{count_of}
use Rattle.paper_circuit.specs.Circuit.{Definition, define}
use Rattle.paper_circuit.specs.declared.Gate.{Gate}
use Rattle.paper_circuit.specs.declared.Gate.TheVariants.{Constant}
use Rattle.table_blocks.specs.Blocks.{shape_of, defined_by, Placed, Before, number_of}
use Rattle.table_blocks.specs.declared.Block.{Block}
use Rattle.table_sizes.specs.Weights.{max_weight}
use Rattle.paper_clauses.specs.Clauses.{clauses_of}
use Rattle.paper_clauses.specs.Entries.{Entry, flat}
use Rattle.table_gates.specs.Within.{Within}
use Rattle.table_literals.specs.Written.{Sofar}
use Rattle.table_nodes.specs.declared.cursor.Cursor.{Cursor}

-- the definition in place x
abbrev pub definition_in : List Definition → ℕ → Definition
definition_in D x = get_or D x (define 0 (Constant false))

-- and its places
abbrev pub places_at : List Definition → ℕ → List Entry
places_at D x = let d = definition_in D x in flat (clauses_of d.variable d.gate)

-- gate is that of the definition in place x of a block, and its inputs are numbers of 32 bits
pub record DefinedAt (C k : ℕ) (block : Block) (x : ℕ) (gate : Gate) : Type 0 where
  pub here : definition_in (defined_by C k block) x ≡ define (block.first + x) gate
  pub within : Within gate

-- what a walk asks of a block
pub record Walkable (k : ℕ) (block : Block) : Type 0 where
  pub steps : k ≤ max_steps
  pub points : block.points ≤ max_count
  pub number : number_of block.rule ≤ 255

-- the place, if it is one of the block's, is that of the position
pub record Walks (k : ℕ) (block : Block) (c : Cursor) : Type 0 where
  pub whole : c.end ≡ count (shape_of block.points k block.rule)
  pub few : c.end ≤ max_weight
  pub intervals : c.all ≡ count_of k
  pub here : c.place < c.end → Placed block.points k block.rule c.place c.position.row c.position.line c.position.cell
  pub before : Before block.points k block.rule c.position

pub record Walked (C k : ℕ) (block : Block) (v m : List ℕ) (at : ℕ) (v' m' : List ℕ) (c : Cursor) (at' : ℕ) : Type 0 where
  pub walks : Walks k block c
  pub sofar : Sofar v m at (places_at (defined_by C k block)) (length (defined_by C k block)) v' m' at' c.place
