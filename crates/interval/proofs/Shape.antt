-- Shapes: a line of n entries, or n shapes one after another. The list of all entries has each entry at its place, and every place is
-- an entry's: a line is plain; a stack is its rows, by the laws of rows.
use mathlib.Core.Path.{◌≡◌, refl, sym, ap, ◌∙◌, subst}
use mathlib.Core.Bool.{Bool, true, false, not-eq-not}
use mathlib.Core.List.{List, [], ◌∷◌, map}
use Prim.Native.Nat.{ℕ, suc, ◌+◌, ◌-◌, ◌<◌}
use native.Mathlib.Omega.{arith}
use lib.ListN.{length, get_or, length-map, get_or-map}
use lib.Seq.{ext_get_or}
use Rattle.lists.specs.Listing.{rows, tab, place_in, sum}
use Rattle.lists.proofs.Listing.{sum_lt, row_of, rows_same, map_rows, length_rows, get_or_rows, length_tab, get_or_tab, place_in_lem}

pub data Shape : Type 0 where
  line : ℕ → Shape
  stack : ℕ → (ℕ → Shape) → Shape

-- an entry by its number in its line, after those of the stacks around the line
abbrev pub Entry : Shape → Type 0
Entry (line n) = ℕ
Entry (stack n f) = (i : ℕ) × Entry (f i)

-- the entry is one of the shape's
abbrev pub Inside : (s : Shape) → Entry s → Type 0
Inside (line n) x = x < n
Inside (stack n f) x = (x.0 < n) × Inside (f x.0) x.1

abbrev pub count : Shape → ℕ
count (line n) = n
count (stack n f) = sum (λ i. count (f i)) n

-- an entry's place: how many stand before it
abbrev pub place : (s : Shape) → Entry s → ℕ
place (line n) x = x
place (stack n f) x = sum (λ i. count (f i)) x.0 + place (f x.0) x.1

-- g of each entry, in order
abbrev pub per : {A : Type 0} (s : Shape) → (Entry s → A) → List A
per (line n) g = tab n g
per (stack n f) g = rows n (λ i. per (f i) (λ x. g (i, x)))

-- the intervals of k steps, by start and length
abbrev pub intervals : ℕ → Shape
intervals k = stack (suc k) (λ i. line (suc k - i))

-- the triples of k steps, by start, length, and where the interval is chopped
abbrev pub triples : ℕ → Shape
triples k = stack (suc k) (λ i. stack (suc k - i) (λ d. line (suc d)))

-- ---- laws

pub place_lt : (s : Shape) (x : Entry s) → Inside s x → place s x < count s
place_lt (line n) x h = h
place_lt (stack n f) x h = sum_lt (λ i. count (f i)) n x.0 (place (f x.0) x.1) h.0 (place_lt (f x.0) x.1 h.1)

-- the entry at a place
pub entry_at : (s : Shape) (p : ℕ) → p < count s → (x : Entry s) × Inside s x × (place s x ≡ p)
entry_at (line n) p h = (p, h, refl)
entry_at (stack n f) p h =
    let r = row_of (λ i. count (f i)) n p h in
    let x = entry_at (f r.row) r.at r.at_lt in
    ((r.row, x.0), (r.row_lt, x.1), ap (λ y. sum (λ i. count (f i)) r.row + y) x.2 ∙ r.sums)

module _ {A : Type 0} where
  pub length_per : (s : Shape) (g : Entry s → A) → length (per s g) ≡ count s
  length_per (line n) g = length_tab n g
  length_per (stack n f) g = length_rows (λ i. per (f i) (λ x. g (i, x))) (λ i. count (f i)) (λ i. length_per (f i) (λ x. g (i, x))) n

  pub get_or_per : (s : Shape) (g : Entry s → A) (x : Entry s) (d : A) → Inside s x → get_or (per s g) (place s x) d ≡ g x
  get_or_per (line n) g x d h = get_or_tab n g x d h
  get_or_per (stack n f) g x d h =
      get_or_rows (λ i. per (f i) (λ x. g (i, x))) (λ i. count (f i)) (λ i. length_per (f i) (λ x. g (i, x))) n x.0 (place (f x.0) x.1) d h.0
      (place_lt (f x.0) x.1 h.1)
      ∙ get_or_per (f x.0) (λ y. g (x.0, y)) x.1 d h.1

  -- in the list, an entry's place is the number of entries before the first one that is so, if it is and no other place's entry is
  pub place_in_per : (s : Shape) (g : Entry s → A) (is : A → Bool) (x : Entry s) → Inside s x → is (g x) ≡ true
      → ((y : Entry s) → is (g y) ≡ true → place s y ≡ place s x) → place_in is (per s g) ≡ place s x
  place_in_per s g is x h e f =
      place_in_lem is (per s g) (place s x) (g x) (omega (arith, length_per s g, place_lt s x h)) (ap is (get_or_per s g x (g x) h) ∙ e)
      (λ q l.
      let y = entry_at s q (omega (arith, place_lt s x h)) in
      ap (λ (p : ℕ). is (get_or (per s g) p (g x))) (sym y.2) ∙ ap is (get_or_per s g y.0 (g x) y.1)
      ∙ (not-eq-not {b = false}).0 (λ t. omega (arith, f y.0 t, y.2)))

  -- two lists of all entries are equal if they agree on those inside
  pub per_same : (s : Shape) (g h : Entry s → A) → ((x : Entry s) → Inside s x → g x ≡ h x) → per s g ≡ per s h
  per_same (line n) g h e = rows_same n (λ i. g i ∷ []) (λ i. h i ∷ []) (λ i l. ap (λ (a : A). a ∷ []) (e i l))
  per_same (stack n f) g h e =
      rows_same n (λ i. per (f i) (λ x. g (i, x))) (λ i. per (f i) (λ x. h (i, x))) (λ i l. per_same (f i) (λ x. g (i, x)) (λ x. h (i, x)) (λ x m. e (i, x) (l, m)))

  pub map_per : {B : Type 0} (h : A → B) (s : Shape) (g : Entry s → A) → map h (per s g) ≡ per s (λ x. h (g x))
  map_per h (line n) g = map_rows h (λ i. g i ∷ []) n
  map_per h (stack n f) g =
      map_rows h (λ i. per (f i) (λ x. g (i, x))) n ∙ rows_same n _ _ (λ i l. map_per h (f i) (λ x. g (i, x)))

-- the things that are In have the places 0 to n − 1, each once, in the order of the list
pub record Numbered {A : Type 0} (In : A → Type 0) (placed : A → ℕ) (listed : List A) (n : ℕ) : Type 0 where
  pub in_order : map placed listed ≡ tab n (λ p. p)
  pub below : (a : A) → In a → placed a < n
  -- the thing at a place and the place of a thing undo each other
  pub at_place : (a d : A) → In a → get_or listed (placed a) d ≡ a
  pub place_at : (p : ℕ) (d : A) → p < n → In (get_or listed p d) × (placed (get_or listed p d) ≡ p)

-- so it is with the things that the entries of a shape name, if the entries' places are theirs
module _ {A : Type 0} (In : A → Type 0) (placed : A → ℕ) (s : Shape) (name : Entry s → A)
    (same : (x : Entry s) → Inside s x → In (name x) × (placed (name x) ≡ place s x))
    (named : (a : A) → In a → (x : Entry s) × Inside s x × (name x ≡ a)) where
  place_of : (a : A) → In a → (x : Entry s) × Inside s x × (name x ≡ a) × (placed a ≡ place s x)
  place_of a i = let x = named a i in (x.0, x.1, x.2, ap placed (sym x.2) ∙ (same x.0 x.1).1)

  at_each_place : (p : ℕ) (d : A) → p < count s → In (get_or (per s name) p d) × (placed (get_or (per s name) p d) ≡ p)
  at_each_place p d h =
      let x = entry_at s p h in
      let e : get_or (per s name) p d ≡ name x.0 = ap (λ p. get_or (per s name) p d) (sym x.2) ∙ get_or_per s name x.0 d x.1 in
      (subst In (sym e) (same x.0 x.1).0, ap placed e ∙ (same x.0 x.1).1 ∙ x.2)

  counted : (d : A) → map placed (per s name) ≡ tab (count s) (λ p. p)
  counted d =
      let n : length (map placed (per s name)) ≡ count s = length-map (per s name) placed ∙ length_per s name in
      ext_get_or (placed d) _ _ (n ∙ sym (length_tab (count s) (λ p. p)))
      (λ p h.
      let l : p < count s = omega arith in
      get_or-map placed (per s name) p d ∙ (at_each_place p d l).1 ∙ sym (get_or_tab (count s) (λ p. p) p (placed d) l))

  pub entries_numbered : A → Numbered In placed (per s name) (count s)
  entries_numbered d =
      record {
        in_order = counted d;
        below = λ a i. let x = place_of a i in rw x.3 (place_lt s x.0 x.1);
        at_place = λ a d i. let x = place_of a i in rw x.3 (get_or_per s name x.0 d x.1 ∙ x.2);
        place_at = at_each_place;
      }
