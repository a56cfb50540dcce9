-- `put_starts` fills one part a turn, the cuts of the next longer interval from i on, which are one more than its steps (Parts.antt).
-- With all of them it has as many as there are intervals of k − i steps (Listed.antt).
use mathlib.Core.Path.{◌≡◌}
use Prim.Native.Nat.{suc, ◌-◌}
use Rattle.truth_table.specs.Table.{high_at}
use Rattle.extend_triples.specs.Cuts.{cuts_from}
use Rattle.extend_triples.proofs.Parts.{Parts}
use Rattle.extend_triples.proofs.put_starts.Given as goal

abbrev pub invariant-loop-d : goal.invariant-loop-d
invariant-loop-d l = (l.d-end ≡ suc l.k - l.i) × Parts (cuts_from l.k (high_at l.p) (high_at l.q) l.i) suc (suc l.k - l.i) l.initial.out l.at l.out l.d

abbrev pub decreases-loop-d : goal.decreases-loop-d
decreases-loop-d l = suc l.k - l.i - l.d
