-- The gate at the cursor is that of the definition in its place, whose clauses the turn visits (Walk.antt of search_clauses).
-- After the last turn all of the block is visited.
use mathlib.Core.Path.{◌≡◌}
use mathlib.Core.Bool.{false}
use Prim.Native.Nat.{◌-◌, ◌≤◌}
use lib.ListN.{length}
use Rattle.lists.specs.Listing.{rows}
use Rattle.table_blocks.specs.Blocks.{defined_by}
use Rattle.table_nodes.specs.Walk.{Walks}
use Rattle.search_visits.specs.Visits.{Visited}
use Rattle.search_clauses.specs.Clauses.{clauses_at}
use Rattle.search_sweep_node.proofs.sweep_block.Given as goal

abbrev pub invariant-loop-cursor : goal.invariant-loop-cursor
invariant-loop-cursor l =
    (length l.values ≡ length l.initial.values) × (length l.trail ≡ length l.initial.trail) × (l.cursor.place ≤ l.cursor.end) × Walks l.wiring.k l.block l.cursor
    × Visited (rows l.cursor.place (clauses_at (defined_by l.wiring.c l.wiring.k l.block))) l.initial.values l.initial.trail l.top l.values l.trail (record { clash = false; top = l.t })

abbrev pub decreases-loop-cursor : goal.decreases-loop-cursor
decreases-loop-cursor l = l.cursor.end - l.cursor.place
