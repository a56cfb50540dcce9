-- The table of intervals: the next interval has the next place. A triple: its start is the last whose
-- triples begin at its place or before, and length and cut stand after that as the intervals do from the last to the first.
use mathlib.Core.Path.{◌≡◌, ap}
use mathlib.Core.Logic.{by_cases}
use mathlib.Core.List.{List}
use Prim.Native.Nat.{ℕ, suc, ◌+◌, ◌-◌, ◌≤◌, ◌<◌}
use native.Mathlib.Decide.{dec_lt}
use native.Mathlib.Nat.{zero-mul}
use native.Mathlib.Omega.{arith}
use lib.ListN.{get_or}
use Rattle.lists.specs.Listing.{sum}
use Rattle.interval.specs.Places.{count_of, triple_count_of, place_of}
use Rattle.interval.specs.Limits.{IntervalOf, TripleOf}
use Rattle.interval.specs.Rows.{triple_start}
use Rattle.interval.specs.declared.Interval.{Interval}
use Rattle.interval.proofs.Counts.{triangle_count, intervals_count, triples_count, interval_place}
use Rattle.interval.proofs.Laws.{triple_place}
use Rattle.interval.proofs.Rows.{row, starts_are, split_count}
use Rattle.lists.proofs.Listing.{sum_le}
use Rattle.search_decode.specs.Decode.{InPlace, TripleIn, Tables, LastFrom}

module _ (k : ℕ) where
  pub longer_next : (v : Interval) → IntervalOf k v → v.j < k → InPlace k (place_of k v + 1) (record { i = v.i; j = v.j + 1 })
  unfolding place_of
  longer_next v o h = (record { starts = omega (arith, o.starts); ends = omega arith }, omega (arith, o.starts))

  pub later_next : (v : Interval) → IntervalOf k v → k ≤ v.j → place_of k v + 1 < count_of k → InPlace k (place_of k v + 1) (record { i = v.i + 1; j = v.i + 1 })
  unfolding sum
  later_next v o h l =
      let e = interval_place k v o in
      let n : v.i + 1 ≡ suc v.i = omega arith in
      let s : sum (λ i. suc k - i) (v.i + 1) ≡ sum (λ i. suc k - i) v.i + (suc k - v.i) = ap (sum (λ i. suc k - i)) n in
      let m : v.i < k = by_cases (dec_lt v.i k) (λ m. m)
      (λ m. let q : suc k ≡ suc v.i = omega (arith, o) in absurd (omega (arith, l, e, o, intervals_count k, ap (sum (λ i. suc k - i)) q))) in
      let i : IntervalOf k (record { i = v.i + 1; j = v.i + 1 }) = record { starts = omega arith; ends = omega arith } in
      (i, omega (arith, interval_place k (record { i = v.i + 1; j = v.i + 1 }) i, e, s, o, h))

  pub first_in : InPlace k 0 (record { i = 0; j = 0 })
  unfolding place_of
  first_in = (record { starts = omega arith; ends = omega arith }, omega (arith, zero-mul (k + 1), zero-mul (0 - 1)))

  -- ---- a triple by its place: i by where the triples of each start begin, then its length and cut, which stand as the intervals do from
  -- the last to the first

  module _ (x i : ℕ) (h : i ≤ k) (l : x < triple_count_of k) (a : triple_start k i ≤ x) (b : i < k → x < triple_start k (i + 1)) where
    below_next : x < sum (row k) (suc i)
    unfolding sum
    below_next = let n : i + 1 ≡ suc i = omega arith in by_cases (dec_lt i k) (λ m. omega (arith, b m, starts_are k (i + 1) (omega arith), ap (sum (row k)) n))
        (λ m. let r : suc k ≡ suc i = omega arith in omega (arith, l, triples_count k, ap (sum (row k)) r))

    pub after_lt : x - triple_start k i < count_of k
    unfolding sum
    after_lt = omega (arith, below_next, a, starts_are k i h, sum_le suc (suc k) (suc k - i) (omega arith), triangle_count k)

    found : (d e : ℕ) → e ≤ d → sum suc d + e ≡ x - triple_start k i → TripleIn k x (record { i = i; m = i + e; j = i + d })
    unfolding sum
    found d e c f =
        let p : i + d - i ≡ d = omega arith in
        let q : i + e - i ≡ e = omega arith in
        let s = starts_are k i h in
        let short : d < suc k - i = by_cases (dec_lt d (suc k - i)) (λ m. m) (λ m. absurd (omega (arith, sum_le suc d (suc k - i) (omega arith), f, below_next, a, s))) in
        let o : TripleOf k (record { i = i; m = i + e; j = i + d }) = record { starts = omega arith; cut = omega arith; ends = omega arith } in
        (o, omega (arith, f, a, s, q, ap (sum suc) p, triple_place k (record { i = i; m = i + e; j = i + d }) o))

    -- what stands after interval v, of which all are a triangle
    mirrored : (v : Interval) → InPlace k (count_of k - 1 - (x - triple_start k i)) v → sum suc (k - v.i) + (k - v.j) ≡ x - triple_start k i
    unfolding sum
    mirrored v (o, e) =
        let n : suc k - v.i ≡ suc (k - v.i) = omega (arith, o.starts, o.ends) in
        let s : sum (λ a. suc k - a) v.i + sum suc (k - v.i) + suc (k - v.i) ≡ count_of k = omega (arith, split_count k v.i (omega (arith, o.starts, o.ends)), ap (sum suc) n) in
        go (x - triple_start k i) (place_of k v) (sum (λ a. suc k - a) v.i) (sum suc (k - v.i)) after_lt s (interval_place k v o) e o.starts o.ends
      where
        go : (y p before rest : ℕ) → y < count_of k → before + rest + suc (k - v.i) ≡ count_of k → p ≡ before + (v.j - v.i) → p ≡ count_of k - 1 - y → v.i ≤ v.j → v.j ≤ k
            → rest + (k - v.j) ≡ y
        go y p before rest l s q e g h = omega arith

    pub triple_found : (v : Interval) → InPlace k (count_of k - 1 - (x - triple_start k i)) v → TripleIn k x (record { i = i; m = i + (k - v.j); j = i + (k - v.i) })
    triple_found v o = found (k - v.i) (k - v.j) (omega (arith, o.0.starts)) (mirrored v o)

-- the triple, from the tables
module _ {k x i : ℕ} {intervals starts table : List ℕ} (t : Tables k intervals starts table) (l : x < triple_count_of k) (w : LastFrom starts (k + 1) x i) where
  start_is : get_or starts i 0 ≡ triple_start k i
  start_is = t.starts_of.at i (omega (arith, w.below))

  pub after_in : x - get_or starts i 0 < count_of k
  after_in = rw start_is (after_lt k x i (omega (arith, w.below)) l (omega (arith, start_is, w.from)) (λ m. omega (arith, w.next (omega arith), t.starts_of.at (i + 1) (omega arith))))

  pub triple_in : {v : Interval} → InPlace k (count_of k - 1 - (x - get_or starts i 0)) v → TripleIn k x (record { i = i; m = i + (k - v.j); j = i + (k - v.i) })
  triple_in {v} o =
      triple_found k x i (omega (arith, w.below)) l (omega (arith, start_is, w.from))
      (λ m. omega (arith, w.next (omega arith), t.starts_of.at (i + 1) (omega arith))) v (rw start_is at o)
