-- `put_triples` fills one part a turn, the triples from the next start on, as many as there are intervals of k − i steps (Parts.antt).
-- Start by start they are all triples, in order (Listed.antt).
use mathlib.Core.Path.{◌≡◌, sym, ◌∙◌}
use Prim.Native.Nat.{◌-◌, ◌≤◌}
use Rattle.interval.specs.Places.{count_of}
use Rattle.truth_table.specs.Table.{high_at}
use Rattle.extend_triples.proofs.Parts.{begun, room, part_length, turn, done}
use Rattle.extend_triples.proofs.Listed.{rest_count, cuts_listed, cuts_count, starts_count}
use native.Mathlib.Omega.{arith}
use Rattle.extend_triples.proofs.put_triples.Goals as goal
use Rattle.extend_triples.proofs.put_triples.Goals.{After-place}

-- how many triples start at i
ahead : (c : After-place) → let all = c.all-all.result in
    (c.place.result ≤ all) × (all - c.place.result ≡ count_of (c.args.k - c.loop-i.i))
ahead c = rest_count (omega arith) c.all-all.ensures.0 c.place.ensures.0

pub loop-i-init : goal.loop-i-init
loop-i-init c =
    let a = c.args in let f = high_at a.p.now in let g = high_at a.q.now in
    (omega arith, begun (λ i h. starts_count a.k f g i (omega arith)) (c.requires.1 ∙ sym (cuts_count a.k f g)))

pub overflow_sub-end : goal.overflow_sub-end
overflow_sub-end c = (ahead (goal.at.overflow_sub-end c).After-place).0

pub slice_bounds-put_starts-end : goal.slice_bounds-put_starts-end
slice_bounds-put_starts-end c = omega (arith, room c.loop-i.invariant.1 (omega arith), ahead (goal.at.slice_bounds-put_starts-end c).After-place)

pub put_starts-requires : goal.put_starts-requires
put_starts-requires c =
    let l = c.loop-i in
    (c.requires.0, omega arith, part_length l.invariant.1 (omega arith) _ (omega (arith, ahead (goal.at.put_starts-requires c).After-place)), c.requires.2, c.requires.3, c.requires.4)

pub loop-i-preserved : goal.loop-i-preserved
loop-i-preserved c =
    let l = c.loop-i in
    (l.invariant.0, turn l.invariant.1 (omega arith) _ (omega (arith, ahead (goal.at.loop-i-preserved c).After-place)) c.put_starts.ensures)

pub returns : goal.returns
returns c =
    let a = c.args in
    done c.loop-i.invariant.1 (omega arith) ∙ sym (cuts_listed a.k (high_at a.p.now) (high_at a.q.now))
