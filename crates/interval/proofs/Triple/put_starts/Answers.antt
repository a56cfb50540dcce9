-- At turn i the running sum is where the triples of start i begin, and the table has the starts up to it:
-- a start has as many triples as there are intervals from it on.
use mathlib.Core.Path.{◌≡◌, refl, sym, ◌∙◌, subst}
use Prim.Native.Nat.{ℕ, suc, ◌+◌, ◌-◌, ◌≤◌, ◌<◌}
use native.Mathlib.Omega.{arith}
use lib.ListN.{length, length-set}
use lib.Seq.{get_or-set_same}
use Rattle.lists.specs.Listing.{sum}
use Rattle.interval.specs.Places.{place_of}
use Rattle.interval.specs.Rows.{triple_start, Begins}
use Rattle.interval.proofs.Rows.{place_in_row, split_count, starts_are, next_start, triple_start_small, begun, one_more}
use Rattle.interval.proofs.Triple.put_starts.Goals as goal
use Rattle.interval.proofs.Triple.put_starts.Goals.{After-place}

-- the intervals from i on, and where the triples of the next start begin
ahead : (c : After-place) → let k = c.args.k in let l = c.loop-i in
    (c.place.result ≤ c.all-all.result) × (l.start + (c.all-all.result - c.place.result) ≡ triple_start k (l.i + 1)) × (triple_start k (l.i + 1) < 6545)
ahead c =
    let k = c.args.k in let l = c.loop-i in let p = place_in_row k (record { i = l.i; j = l.i + 0 }) (omega (arith, l.invariant.0)) in
    let h : l.i < k = c.loop-i-test.true in let n = next_start k l.i h in let e : c.place.result ≡ place_of k (record { i = l.i; j = l.i + 0 }) = c.place.ensures.0 in
    let a = c.all-all.ensures.0 in
    (omega (arith, e, p, a, split_count k l.i (omega (arith, h))), omega (arith, e, p, n, a, l.invariant), triple_start_small k (l.i + 1) c.requires.0 (omega (arith, h)))

pub loop-i-init : goal.loop-i-init
unfolding sum
loop-i-init c =
    let old = c.args.starts.now in
    let z = starts_are c.args.k 0 (omega arith) in
    (omega arith, sym z, refl, begun _ (omega (arith, length-set old 0 0, c.requires.1)) (get_or-set_same old 0 0 0 (omega (arith, c.requires.1)) ∙ sym z))

pub overflow_sub-start : goal.overflow_sub-start
overflow_sub-start c = omega (arith, ahead (goal.at.overflow_sub-start c).After-place, c.loop-i.invariant)

pub overflow_add-start : goal.overflow_add-start
overflow_add-start c = omega (arith, ahead (goal.at.overflow_add-start c).After-place, c.loop-i.invariant)

here : (c : After-place) → c.loop-i.i + 1 < length c.loop-i.starts
here c = omega (arith, c.loop-i.invariant.2, length-set c.args.starts.now 0 0, c.requires.1, c.loop-i-test.true)

pub bounds-starts-i : goal.bounds-starts-i
bounds-starts-i c = here (goal.at.bounds-starts-i c).After-place

pub loop-i-preserved : goal.loop-i-preserved
loop-i-preserved c =
    let l = c.loop-i in let v = l.invariant in let e = (ahead (goal.at.loop-i-preserved c).After-place).1 in
    (omega (arith, c.loop-i-test.true), e, length-set l.starts _ _ ∙ v.2, one_more _ v.3 (here (goal.at.loop-i-preserved c).After-place) e)

pub shape_of-starts : goal.shape_of-starts
shape_of-starts c = c.loop-i.invariant.2 ∙ length-set c.args.starts.now 0 0

pub returns : goal.returns
returns c =
    let k = c.args.k in
    let e : c.loop-i.i + 1 ≡ suc k = omega (arith, c.loop-i.invariant.0, c.loop-i-test.false) in
    subst (λ (n : ℕ). Begins (triple_start k) n c.loop-i.starts) e c.loop-i.invariant.3
