-- A row begins where the one before it ends, so adding row lengths gives where each begins: document 01's place of its first interval.
-- Where the last ends is I; the last d rows have d, .., 2, 1 intervals, as the shorter intervals of a start have triples.
use mathlib.Core.Path.{◌≡◌, sym, ap, ◌∙◌}
use mathlib.Core.Logic.{by_cases}
use mathlib.Core.List.{List}
use Prim.Native.Nat.{ℕ, suc, ◌+◌, ◌-◌, ◌*◌, ◌/◌, ◌≤◌, ◌<◌}
use native.Mathlib.Decide.{dec_lt}
use native.Mathlib.Omega.{arith}
use native.Mathlib.Numerals.{add-one}
use lib.ListN.{length, get_or, set, length-set}
use lib.Seq.{get_or-set_same, get_or-set_other}
use Rattle.lists.specs.Listing.{sum}
use Rattle.interval.specs.Places.{count_of, place_of, triple_place_of}
use Rattle.interval.specs.Limits.{max_steps, max_count, IntervalOf}
use Rattle.interval.specs.Rows.{start_of, triple_start, Begins}
use Rattle.interval.specs.declared.Interval.{Interval}
use Rattle.interval.proofs.Counts.{rows_before, triangle_count, interval_place, few_intervals}
use Rattle.interval.proofs.Laws.{triple_place, triples_numbered, counts_at_32}

module _ (k : ℕ) where
  pub place_in_row : (v : Interval) → IntervalOf k v → place_of k v ≡ start_of k v.i + (v.j - v.i)
  place_in_row v o = interval_place k v (omega arith)

  -- the sum of the row lengths is document 01's formula
  pub row_formula : (i : ℕ) → i ≤ k → start_of k i ≡ i * (k + 1) - i * (i - 1) / 2
  unfolding place_of
  row_formula i h = omega (arith, place_in_row (record { i = i; j = i }) (record { starts = omega arith; ends = h }))

  pub row_next : (i : ℕ) → start_of k (i + 1) ≡ start_of k i + (suc k - i)
  unfolding sum
  row_next i = ap (start_of k) (add-one i)

  -- all intervals are those that start before i and the triangle of the others
  pub split_count : (i : ℕ) → i ≤ suc k → start_of k i + sum suc (suc k - i) ≡ count_of k
  split_count i h = rows_before (λ x. x) (suc k) i h ∙ triangle_count k

  pub row_small : (i : ℕ) → k ≤ max_steps → i ≤ suc k → start_of k i ≤ max_count
  row_small i h l = omega (arith, split_count i l, few_intervals k h)

  -- how many triples start at a
  abbrev pub row : ℕ → ℕ
  row a = sum suc (suc k - a)

  pub starts_are : (i : ℕ) → i ≤ k → triple_start k i ≡ sum row i
  unfolding sum
  starts_are i h = let z : i - i ≡ 0 = omega arith in omega (arith, triple_place k (record { i = i; m = i; j = i }) (record { starts = omega arith; cut = omega arith; ends = h }), ap (sum suc) z)

  -- a start has as many triples as there are intervals from it on
  pub next_start : (i : ℕ) → i < k → triple_start k (i + 1) ≡ triple_start k i + (count_of k - start_of k i)
  unfolding sum
  next_start i h = omega (arith, starts_are i (omega arith), starts_are (i + 1) (omega arith), ap (sum row) (add-one i), split_count i (omega arith))

  -- the shorter intervals from i on have as many triples as there are intervals in as many rows at the end
  pub triple_in_row : (i d e : ℕ) → e ≤ d → i + d ≤ k → triple_place_of k (record { i = i; m = i + e; j = i + d }) ≡ triple_start k i + (count_of k - start_of k (suc k - d)) + e
  triple_in_row i d e h l =
      let p : i + d - i ≡ d = omega arith in
      let q : i + e - i ≡ e = omega arith in
      let n : suc k - (suc k - d) ≡ d = omega arith in
      omega (arith, triple_place k (record { i = i; m = i + e; j = i + d }) (omega arith), starts_are i (omega arith), split_count (suc k - d) (omega arith), ap (sum suc) n, ap (sum suc) p, q)

  pub triple_start_small : (i : ℕ) → k ≤ 32 → i ≤ k → triple_start k i < 6545
  triple_start_small i h l =
      omega (arith, (triples_numbered k).below (record { i = i; m = i; j = i }) (record { starts = omega arith; cut = omega arith; ends = l }), counts_at_32 k h)

-- a table of such numbers: the first, then one more a turn
pub begun : {f : ℕ → ℕ} (table : List ℕ) → 0 < length table → get_or table 0 0 ≡ f 0 → Begins f 1 table
begun {f} table h e = record { room = omega arith; at = λ i l. let z : 0 ≡ i = omega arith in ap (λ i. get_or table i 0) (sym z) ∙ e ∙ ap f z }

pub one_more : {f : ℕ → ℕ} {n : ℕ} {table : List ℕ} (b : ℕ) → Begins f n table → n < length table → b ≡ f n → Begins f (n + 1) (set table n b)
one_more {f} {n} {table} b t h e = record {
  room = omega (arith, length-set table n b);
  at = λ i l. by_cases (dec_lt i n) (λ m. get_or-set_other table n i b 0 (λ e. omega arith) ∙ t.at i m)
      (λ m. let g : n ≡ i = omega arith in ap (λ i. get_or (set table n b) i 0) (sym g) ∙ get_or-set_same table n b 0 h ∙ e ∙ ap f g);
}
