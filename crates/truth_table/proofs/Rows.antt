-- Row i of a table has a place for each interval that starts at i, by length; the rows stand one after another and fill the table.
-- So a table whose every row is right is right.
use mathlib.Core.Path.{◌≡◌, refl, sym, ap, ap₂, ◌∙◌}
use mathlib.Core.Bool.{Bool, true, false}
use mathlib.Core.List.{List, ◌++◌}
use Prim.Native.Nat.{ℕ, suc, ◌+◌, ◌-◌, ◌≤◌, ◌<◌}
use native.Mathlib.Omega.{arith}
use native.Mathlib.Nat.{eq-or-lt_of_le}
use mathlib.Core.Logic.{⊎_elim}
use lib.Dec.{ltb}
use lib.ListN.{length, get_or, take, drop, replicate, length-append, length-drop, length-replicate, get_or-append}
use lib.Seq.{length-take-le, get_or-take, get_or-drop, get_or-append-add}
use borrow.Author.Tests.{ltb-true, ltb-false}
use borrow.Rule.Slice.PartMut.{mid_of, put_mid, mid_len}
use Rattle.lists.specs.Listing.{sum}
use Rattle.interval.specs.Limits.{IntervalOf}
use Rattle.interval.specs.Places.{count_of, place_of}
use Rattle.interval.specs.Rows.{start_of}
use Rattle.interval.specs.declared.Interval.{Interval}
use Rattle.lists.proofs.Listing.{sum_lt}
use Rattle.interval.proofs.Counts.{intervals_count}
use Rattle.interval.proofs.Rows.{place_in_row, row_next}
use Rattle.lists.proofs.Fill.{zeros}
use Rattle.paper_meaning.specs.Meaning.{bit}
use Rattle.truth_table.specs.Table.{TableOf, RowOf}

module _ (k : ℕ) where
  pub row_ends : (i : ℕ) → i ≤ suc k → start_of k i + (suc k - i) ≤ count_of k
  row_ends i h = ⊎_elim (λ (e : i ≡ suc k). omega (arith, ap (start_of k) e, intervals_count k))
      (λ (l : i < suc k). omega (arith, sum_lt (λ a. suc k - a) (suc k) i (k - i) l (omega arith), intervals_count k))
      (eq-or-lt_of_le h)

  -- where the interval without instants at m stands, row m starts
  pub row_starts : (m at : ℕ) → m ≤ k → at ≡ place_of k (record { i = m; j = m + 0 }) → (at ≡ start_of k m) × (at + (suc k - m) ≤ count_of k)
  row_starts m at h e =
      let s : at ≡ start_of k m = omega (arith, e, place_in_row k (record { i = m; j = m + 0 }) (omega arith)) in
      (s, omega (arith, s, row_ends m (omega arith)))

  pub row_entry : (f : Interval → Bool) (t : List ℕ) → TableOf k f t → (i d : ℕ) → i + d ≤ k → get_or t (start_of k i + d) 0 ≡ bit (f (record { i = i; j = i + d }))
  row_entry f t T i d h =
      let o : IntervalOf k (record { i = i; j = i + d }) = record { starts = omega arith; ends = h } in
      let e : i + d - i ≡ d = omega arith in
      ap (λ (p : ℕ). get_or t p 0) (sym (place_in_row k (record { i = i; j = i + d }) o ∙ ap (λ (x : ℕ). start_of k i + x) e)) ∙ T.at _ o

-- a part put back in its place: what stands before it and after it is as it was
module _ (a n : ℕ) (xs ys : List ℕ) (h : a + n ≤ length xs) (g : length ys ≡ n) where
  before_length : length (take a xs) ≡ a
  before_length = length-take-le a xs (omega arith)

  pub put_length : length (put_mid a n xs ys) ≡ length xs
  put_length = omega (arith, length-append (take a xs) (ys ++ drop n (drop a xs)), length-append ys (drop n (drop a xs)), before_length, length-drop n (drop a xs), length-drop a xs)

  pub put_before : (y : ℕ) → y < a → get_or (put_mid a n xs ys) y 0 ≡ get_or xs y 0
  put_before y l = get_or-append (take a xs) _ 0 y (omega (arith, before_length)) ∙ get_or-take a xs y 0 l

  pub put_within : (y : ℕ) → y < n → get_or (put_mid a n xs ys) (a + y) 0 ≡ get_or ys y 0
  put_within y l =
      ap (λ (b : ℕ). get_or (put_mid a n xs ys) (b + y) 0) (sym before_length) ∙ get_or-append-add (take a xs) (ys ++ drop n (drop a xs)) y 0 ∙ get_or-append ys _ 0 y (omega arith)

  pub put_after : (y : ℕ) → a + n ≤ y → get_or (put_mid a n xs ys) y 0 ≡ get_or xs y 0
  put_after y l =
      let e : length (take a xs) + (length ys + (y - a - n)) ≡ y = omega (arith, before_length) in
      let o : a + (n + (y - a - n)) ≡ y = omega arith in
      ap (λ (z : ℕ). get_or (put_mid a n xs ys) z 0) (sym e) ∙ get_or-append-add (take a xs) (ys ++ drop n (drop a xs)) _ 0 ∙ get_or-append-add ys (drop n (drop a xs)) (y - a - n) 0
      ∙ get_or-drop n (drop a xs) (y - a - n) 0 ∙ get_or-drop a xs (n + (y - a - n)) 0 ∙ ap (λ (z : ℕ). get_or xs z 0) o

-- an entry of a part
pub part_entry : (a n : ℕ) (xs : List ℕ) (y : ℕ) → y < n → get_or (take n (drop a xs)) y 0 ≡ get_or xs (a + y) 0
part_entry a n xs y h = get_or-take n (drop a xs) y 0 h ∙ get_or-drop a xs y 0

-- of N places the rows before i are filled, and the rest is 0
pub record Filled (N k i start : ℕ) (t : List ℕ) : Type 0 where
  pub room : count_of k ≤ N
  pub whole : length t ≡ N
  pub turns : i ≤ suc k
  pub starts : start ≡ start_of k i
  pub row : start + (suc k - i) ≤ N
  pub rest : (y : ℕ) → start ≤ y → get_or t y 0 ≡ 0

-- by f
pub record RowsTo (k : ℕ) (f : Interval → Bool) (i : ℕ) (t : List ℕ) : Type 0 where
  pub at : (v : Interval) → IntervalOf k v → v.i < i → get_or t (place_of k v) 0 ≡ bit (f v)

-- the row that is next, before it is filled
pub row_length : (N k i start end : ℕ) (t : List ℕ) → Filled N k i start t → end ≡ start + (suc k - i) → length (mid_of start (end - start) t) ≡ suc k - i
row_length N k i start end t w e = mid_len start end t (omega (arith, w.whole, w.row)) ∙ omega arith

pub filled_begun : (N k : ℕ) (t : List ℕ) → count_of k ≤ N → t ≡ replicate N 0 → Filled N k 0 0 t
unfolding sum
filled_begun N k t h e = record {
  room = h;
  whole = ap length e ∙ length-replicate N 0;
  turns = omega arith;
  starts = refl;
  row = omega (arith, row_ends k 0 (omega arith));
  rest = λ y l. ap (λ (t : List ℕ). get_or t y 0) e ∙ zeros N y;
}

module _ (N k i start end : ℕ) (t row : List ℕ) (h : i ≤ k) (w : Filled N k i start t) (e : end ≡ start + (suc k - i)) (n : length row ≡ end - start) where
  abbrev after : List ℕ
  after = put_mid start (end - start) t row

  fits : start + (end - start) ≤ length t
  fits = omega (arith, w.row, w.whole)

  pub filled_turn : Filled N k (i + 1) end after
  filled_turn =
      let s : end ≡ start_of k (i + 1) = e ∙ ap (λ (a : ℕ). a + (suc k - i)) w.starts ∙ sym (row_next k i) in
      record {
        room = w.room;
        whole = put_length start (end - start) t row fits n ∙ w.whole;
        turns = omega arith;
        starts = s;
        row = omega (arith, s, w.room, row_ends k (i + 1) (omega arith));
        rest = λ y g. put_after start (end - start) t row fits n y (omega arith) ∙ w.rest y (omega arith);
      }

  pub rows_turn : (f : Interval → Bool) → RowOf i f row → RowsTo k f i t → RowsTo k f (i + 1) after
  rows_turn f r u = record { at = λ v o g. go v o g (ltb v.i i) refl }
    where
      go : (v : Interval) → IntervalOf k v → v.i < i + 1 → (c : Bool) → ltb v.i i ≡ c → get_or after (place_of k v) 0 ≡ bit (f v)
      go v o g true c =
          let b = sum_lt (λ a. suc k - a) i v.i (v.j - v.i) (ltb-true v.i i c) (omega arith) in
          put_before start (end - start) t row fits n (place_of k v) (omega (arith, place_in_row k v o, w.starts)) ∙ u.at v o (ltb-true v.i i c)
      go v o g false c =
          let m : v.i ≡ i = omega (arith, ltb-false v.i i c) in
          let d : v.j - v.i < end - start = omega arith in
          let p : place_of k v ≡ start + (v.j - v.i) = place_in_row k v o ∙ ap (λ (a : ℕ). a + (v.j - v.i)) (ap (start_of k) m ∙ sym w.starts) in
          let j : i + (v.j - v.i) ≡ v.j = omega arith in
          ap (λ (a : ℕ). get_or after a 0) p ∙ put_within start (end - start) t row fits n (v.j - v.i) d ∙ r.at (v.j - v.i) (omega arith)
          ∙ ap₂ (λ (a b : ℕ). bit (f (record { i = a; j = b }))) (sym m) j
