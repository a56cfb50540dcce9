-- After every literal taken what is held has the closure that it had at the start,
-- and what is due is due since the literals still to take.
use mathlib.Core.Path.{◌≡◌}
use Prim.Native.Nat.{◌-◌}
use lib.ListN.{length}
use Rattle.paper_closure.specs.Tree.{closure}
use Rattle.search_closing.specs.Values.{held_in, Grown}
use Rattle.search_fanout.specs.Fanout.{Pending}
use Rattle.search_fanout.specs.Wiring.{clauses_in}
use Rattle.search_queue.proofs.close.Given as goal

abbrev pub invariant-loop-h : goal.invariant-loop-h
invariant-loop-h l =
    (length l.values ≡ length l.initial.values) × (length l.trail ≡ length l.initial.trail) × Grown l.initial.values l.initial.trail l.top l.values l.trail l.t
    × (closure (clauses_in l.wiring) (held_in l.values) ≡ closure (clauses_in l.wiring) (held_in l.initial.values))
    × Pending (clauses_in l.wiring) l.values l.trail l.h l.t

abbrev pub decreases-loop-h : goal.decreases-loop-h
decreases-loop-h l = length l.initial.values - l.h
