-- `put_cuts` writes one byte a turn, P's on [i, m] with Q's on [m, j], and goes on to where [m + 1, j] stands (Cutting.antt):
-- after the last turn all cuts are written.
use mathlib.Core.Path.{◌≡◌}
use Prim.Native.Nat.{ℕ, ◌+◌, ◌<◌}
use lib.ListN.{get_or}
use Rattle.paper_meaning.specs.Meaning.{bit}
use Rattle.truth_table.specs.Table.{high_at}
use Rattle.paper_assignments.specs.Extension.{cuts}
use Rattle.extend_triples.specs.Cuts.{on_places}
use Rattle.extend_triples.proofs.Cutting.{Cutting}
use Rattle.extend_triples.proofs.put_cuts.Given as goal

abbrev pub invariant-loop-e : goal.invariant-loop-e
invariant-loop-e l = record {
  written : (y : ℕ) → y < l.e → get_or l.out y 0 ≡ bit (cuts (on_places l.k (high_at l.p)) (on_places l.k (high_at l.q)) (record { i = l.i; m = l.i + y; j = l.i + l.steps }));
  stands : Cutting l.k l.i l.steps l.e l.at;
}
