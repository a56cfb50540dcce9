-- Row after row is put down as the nearest of its row (Parents.antt).
-- The root is put down first, and no turn writes there again.
use mathlib.Core.Path.{◌≡◌, ◌∙◌}
use Prim.Native.Nat.{◌-◌, ◌≤◌, ◌<◌}
use lib.ListN.{length}
use Rattle.paper_grammar.specs.Limits.{max_nodes}
use Rattle.search_fanout.specs.Fanout.{Nearest}
use Rattle.search_parents.proofs.put_parents.Given as goal

abbrev pub invariant-loop-z : goal.invariant-loop-z
invariant-loop-z l =
    (length l.parents ≡ max_nodes) × (0 < l.z) × (l.z ≤ l.count) × Nearest l.sizes l.parents l.z

abbrev pub decreases-loop-z : goal.decreases-loop-z
decreases-loop-z l = l.count - l.z
