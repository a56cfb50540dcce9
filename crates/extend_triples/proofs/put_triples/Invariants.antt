-- `put_triples` fills one part a turn, the triples from the next start on, as many as there are intervals of k − i steps (Parts.antt).
-- Start by start they are all triples, in order (Listed.antt).
use mathlib.Core.Path.{◌≡◌}
use Prim.Native.Nat.{suc, ◌-◌}
use Rattle.interval.specs.Places.{count_of}
use Rattle.truth_table.specs.Table.{high_at}
use Rattle.extend_triples.specs.Cuts.{triples_from}
use Rattle.extend_triples.proofs.Parts.{Parts}
use Rattle.extend_triples.proofs.put_triples.Given as goal

abbrev pub invariant-loop-i : goal.invariant-loop-i
invariant-loop-i l = (l.i-end ≡ suc l.k) × Parts (triples_from l.k (high_at l.p) (high_at l.q)) (λ i. count_of (l.k - i)) (suc l.k) l.initial.out l.at l.out l.i

abbrev pub decreases-loop-i : goal.decreases-loop-i
decreases-loop-i l = suc l.k - l.i
