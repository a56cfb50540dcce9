-- Laws of lists made by counting: row i starts after the sum of the rows before it, so what stands in the list at that sum
-- and y further stands in row i at y; and every place is such a sum and a y. Each is by induction on the number of rows.
use mathlib.Core.Path.{◌≡◌, refl, sym, ap, ap₂, ◌∙◌, subst}
use mathlib.Core.Logic.{⊎_elim}
use mathlib.Core.Bool.{Bool, true, false}
use mathlib.Core.List.{List, [], ◌∷◌, ◌++◌, append_assoc, append-nil, map, map-append}
use Prim.Native.Nat.{ℕ, zero, suc, ◌+◌, ◌-◌, ◌*◌, ◌≤◌, ◌<◌}
use native.Mathlib.Nat.{zero-mul, suc-mul, add-mul, not-suc-le-zero, eq-or-lt_of_le, le_of_suc-le-suc}
use native.Mathlib.Numerals.{add-one}
use native.Mathlib.Decide.{dec_lt}
use native.Mathlib.Omega.{arith}
use lib.ListN.{length, get_or, length-append, get_or-append}
use lib.Seq.{get_or-append-add}
use Rattle.std.proofs.lemmas.Grind.{same_number_lists}
use Rattle.lists.specs.Listing.{rows, tab, place_in, sum}

-- to show a fact at i < n + 1: at i < n, or at n
pub below_suc : (X : ℕ → Type 0) (n i : ℕ) → i < suc n → (i < n → X i) → X n → X i
below_suc X n i h f g = ⊎_elim (λ (e : i ≡ n). subst X (sym e) g) (λ (l : i < n). f l) (eq-or-lt_of_le (le_of_suc-le-suc h))

pub sum_next : (w : ℕ → ℕ) (n : ℕ) → sum w (n + 1) ≡ sum w n + w n
unfolding sum
sum_next w n = rw (add-one n) refl

pub sum_ones : (n : ℕ) → sum (λ i. 1) n ≡ n
unfolding sum
sum_ones zero = refl
sum_ones (suc n) = omega (arith, sum_ones n)

-- all but the first alike
pub sum_after : (u : ℕ → ℕ) (c n : ℕ) → ((i : ℕ) → u (suc i) ≡ c) → sum u (suc n) ≡ u 0 + n * c
unfolding sum
sum_after u c zero h = omega (arith, zero-mul c)
sum_after u c (suc n) h = omega (arith, sum_after u c n h, h n, suc-mul n c)

pub sum_linear : (u v w : ℕ → ℕ) (b c n : ℕ) → ((i : ℕ) → i < n → u i ≡ v i * b + w i * c) → sum u n ≡ sum v n * b + sum w n * c
unfolding sum
sum_linear u v w b c zero h = omega (arith, zero-mul b, zero-mul c)
sum_linear u v w b c (suc n) h =
    omega (arith, sum_linear u v w b c n (λ i l. h i (omega arith)), h n (omega arith), add-mul (sum v n) (v n) b, add-mul (sum w n) (w n) c)

pub sum_times : (u w : ℕ → ℕ) (c n : ℕ) → ((i : ℕ) → i < n → u i ≡ w i * c) → sum u n ≡ sum w n * c
sum_times u w c n h = omega (arith, sum_linear u w w 0 c n (λ i l. omega (arith, h i l)))

-- all alike
pub sum_alike : (w n : ℕ) → sum (λ i. w) n ≡ n * w
sum_alike w n = sum_times (λ i. w) (λ i. 1) w n (λ i l. omega arith) ∙ ap (λ m. m * w) (sum_ones n)

pub sum_le : (w : ℕ → ℕ) (n i : ℕ) → i ≤ n → sum w i ≤ sum w n
unfolding sum
sum_le w zero i h = let e : i ≡ 0 = omega arith in omega (arith, ap (sum w) e)
sum_le w (suc n) i h = ⊎_elim (λ (e : i ≡ suc n). omega (arith, ap (sum w) e)) (λ (l : i < suc n). omega (arith, sum_le w n i (omega arith))) (eq-or-lt_of_le h)

-- the row of a place, and where in the row it stands
pub record RowOf (w : ℕ → ℕ) (n p : ℕ) : Type 0 where
  pub row : ℕ
  pub at : ℕ
  pub row_lt : row < n
  pub at_lt : at < w row
  pub sums : sum w row + at ≡ p

module _ (w : ℕ → ℕ) where
  pub sum_lt : (n i y : ℕ) → i < n → y < w i → sum w i + y < sum w n
  unfolding sum
  sum_lt zero i y h l = absurd (not-suc-le-zero h)
  sum_lt (suc n) i y h l = below_suc (λ i. y < w i → sum w i + y < sum w (suc n)) n i h (λ g m. omega (arith, sum_lt n i y g m)) (λ m. omega arith) l

  pub row_of : (n p : ℕ) → p < sum w n → RowOf w n p
  unfolding sum
  row_of zero p h = absurd (not-suc-le-zero h)
  row_of (suc n) p h = go (dec_lt p (sum w n)) (row_of n p)
    where
      go : Dec (p < sum w n) → (p < sum w n → RowOf w n p) → RowOf w (suc n) p
      go (yes l) f = let r = f l in record { row = r.row; at = r.at; row_lt = omega arith; at_lt = r.at_lt; sums = r.sums }
      go (no l) f = record { row = n; at = p - sum w n; row_lt = omega arith; at_lt = omega arith; sums = omega arith }

module _ {A : Type 0} where
  pub rows_same : (n : ℕ) (f g : ℕ → List A) → ((i : ℕ) → i < n → f i ≡ g i) → rows n f ≡ rows n g
  unfolding rows
  rows_same zero f g e = refl
  rows_same (suc n) f g e = ap₂ (λ (l m : List A). l ++ m) (rows_same n f g (λ i h. e i (omega arith))) (e n (omega arith))

  pub map_rows : {B : Type 0} (h : A → B) (f : ℕ → List A) (n : ℕ) → map h (rows n f) ≡ rows n (λ i. map h (f i))
  unfolding rows
  map_rows h f zero = refl
  map_rows {B} h f (suc n) = map-append h (rows n f) (f n) ∙ ap (λ (l : List B). l ++ map h (f n)) (map_rows h f n)

  pub rows_next : (f : ℕ → List A) (i : ℕ) → rows i f ++ f i ≡ rows (i + 1) f
  rows_next f i = unfold rows in rw add-one

  -- the rows from x on
  pub rows_rest : (f : ℕ → List A) (n x : ℕ) → x ≤ n → (R : List A) × (rows x f ++ R ≡ rows n f)
  unfolding rows
  rows_rest f zero x h = let e : x ≡ 0 = omega arith in ([], rw e refl)
  rows_rest f (suc n) x h =
      ⊎_elim (λ (e : x ≡ suc n). ([], rw e (append-nil _)))
      (λ (l : x < suc n).
      let w = rows_rest f n x (omega arith) in
      (w.0 ++ f n, sym (append_assoc (rows x f) w.0 (f n)) ∙ ap (λ (k : List A). k ++ f n) w.1))
      (eq-or-lt_of_le h)

  -- row i ends within the whole
  pub rows_le : (f : ℕ → List A) (n i : ℕ) → i < n → length (rows i f) + length (f i) ≤ length (rows n f)
  unfolding rows
  rows_le f zero i h = absurd (not-suc-le-zero h)
  rows_le f (suc n) i h =
      let a = length-append (rows n f) (f n) in
      below_suc (λ (j : ℕ). length (rows j f) + length (f j) ≤ length (rows n f ++ f n)) n i h (λ l. omega (arith, a, rows_le f n i l)) (omega (arith, a))

-- what adds up along a list adds up along rows: its length, or the weight of its entries
pub measure_rows : {A : Type 0} (m : List A → ℕ) → m [] ≡ 0 → ((a b : List A) → m (a ++ b) ≡ m a + m b)
    → (f : ℕ → List A) (w : ℕ → ℕ) → ((i : ℕ) → m (f i) ≡ w i) → (n : ℕ) → m (rows n f) ≡ sum w n
unfolding rows sum
measure_rows m o p f w e zero = o
measure_rows m o p f w e (suc n) = p (rows n f) (f n) ∙ omega (arith, measure_rows m o p f w e n, e n)

module _ {A : Type 0} (f : ℕ → List A) (w : ℕ → ℕ) (e : (i : ℕ) → length (f i) ≡ w i) where
  pub length_rows : (n : ℕ) → length (rows n f) ≡ sum w n
  length_rows = measure_rows length refl length-append f w e

  pub get_or_rows : (n i y : ℕ) (d : A) → i < n → y < w i → get_or (rows n f) (sum w i + y) d ≡ get_or (f i) y d
  unfolding rows
  get_or_rows zero i y d h l = absurd (not-suc-le-zero h)
  get_or_rows (suc n) i y d h l =
      below_suc (λ i. y < w i → get_or (rows (suc n) f) (sum w i + y) d ≡ get_or (f i) y d) n i h
      (λ g m. get_or-append (rows n f) (f n) d (sum w i + y) (omega (arith, length_rows n, sum_lt w n i y g m)) ∙ get_or_rows n i y d g m)
      (λ m. ap (λ x. get_or (rows n f ++ f n) (x + y) d) (sym (length_rows n)) ∙ get_or-append-add (rows n f) (f n) y d)
      l

module _ {A : Type 0} (n : ℕ) (g : ℕ → A) where
  pub length_tab : length (tab n g) ≡ n
  length_tab = length_rows (λ i. g i ∷ []) (λ i. 1) (λ i. refl) n ∙ sum_ones n

  pub get_or_tab : (x : ℕ) (d : A) → x < n → get_or (tab n g) x d ≡ g x
  get_or_tab x d h =
      let e : x ≡ sum (λ i. 1) x + 0 = omega (arith, sum_ones x) in
      ap (λ y. get_or (tab n g) y d) e ∙ get_or_rows (λ i. g i ∷ []) (λ i. 1) (λ i. refl) n x 0 d h (omega arith)

-- a list that has g's numbers, place by place
pub listed : (g : ℕ → ℕ) {n : ℕ} {l : List ℕ} → length l ≡ n → ((y : ℕ) → y < n → get_or l y 0 ≡ g y) → l ≡ tab n g
listed g {n} {l} w e =
    same_number_lists l (tab n g) (w ∙ sym (length_tab n g)) (λ y h. let m : y < n = omega arith in e y m ∙ sym (get_or_tab n g y 0 m))

-- the first one that is so stands at p, if the one at p is and none before it
pub place_in_lem : {A : Type 0} (is : A → Bool) (l : List A) (p : ℕ) (d : A) → p < length l → is (get_or l p d) ≡ true
    → ((q : ℕ) → q < p → is (get_or l q d) ≡ false) → place_in is l ≡ p
unfolding place_in
place_in_lem is [] p d h e f = absurd (not-suc-le-zero h)
place_in_lem is (x ∷ l) zero d h e f = rw e refl
place_in_lem is (x ∷ l) (suc p) d h e f = rw (f 0 (omega arith)) (ap suc (place_in_lem is l p d (le_of_suc-le-suc h) e (λ q m. f (suc q) (omega arith))))
