-- `put_starts` fills one part a turn, the cuts of the next longer interval from i on, which are one more than its steps (Parts.antt).
-- With all of them it has as many as there are intervals of k − i steps (Listed.antt).
use native.Mathlib.Omega.{arith}
use mathlib.Core.Path.{sym, ap, ◌∙◌}
use Prim.Native.Nat.{◌+◌}
use Rattle.truth_table.specs.Table.{high_at}
use Rattle.extend_triples.specs.Cuts.{cuts_from}
use Rattle.extend_triples.proofs.Parts.{begun, room, part_length, turn}
use Rattle.extend_triples.proofs.Listed.{cut_count, starts_count}
use Rattle.extend_triples.proofs.put_starts.Goals as goal

pub loop-d-init : goal.loop-d-init
loop-d-init c =
    let a = c.args in let f = high_at a.p.now in let g = high_at a.q.now in
    (omega arith, begun (λ d h. cut_count a.k f g a.i d) (c.requires.2 ∙ sym (starts_count a.k f g a.i c.requires.1)))

pub slice_bounds-put_cuts-end : goal.slice_bounds-put_cuts-end
slice_bounds-put_cuts-end c = omega (arith, room c.loop-d.invariant.1 (omega arith))

pub loop-d-preserved : goal.loop-d-preserved
loop-d-preserved c =
    let a = c.args in let l = c.loop-d in
    let n = part_length l.invariant.1 (omega arith) (l.at + (l.d + 1)) (omega arith) in
    (l.invariant.0, turn l.invariant.1 (omega arith) _ (omega arith) (c.put_cuts.ensures ∙ ap (cuts_from a.k (high_at a.p.now) (high_at a.q.now) a.i) (omega (arith, n))))
