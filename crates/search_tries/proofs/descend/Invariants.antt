-- The loop stands at a set of the tree (Standing.antt), with the tries made so far; a try is one more of them.
-- The tree ends where the loop does: found, dead with no try high left to make, or with a try that the limit does not allow.
use mathlib.Core.Path.{◌≡◌}
use Prim.Native.Nat.{◌-◌, ◌*◌}
use lib.ListN.{length}
use Rattle.interval.specs.Limits.{max_steps}
use Rattle.paper_grammar.specs.Limits.{max_channels}
use Rattle.search_fanout.specs.Wiring.{clauses_in}
use Rattle.search_tries.proofs.Standing.{Standing}
use Rattle.search_tries.proofs.descend.Given as goal

abbrev pub invariant-loop-last : goal.invariant-loop-last
invariant-loop-last l =
    (length l.trail ≡ length l.initial.trail) × (length l.levels ≡ max_steps * max_channels) × Standing (clauses_in l.wiring) l.channels (length l.initial.values) l.limit l.values l.trail l.levels l.last l.depth l.n

abbrev pub decreases-loop-last : goal.decreases-loop-last
decreases-loop-last l = l.limit - l.n
