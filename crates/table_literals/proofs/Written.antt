-- To write F and then G from where F ends is to write F ++ G, since storing a list from a place on goes place by place. So a loop
-- that writes f 0, f 1, .. has written the first i of them after i turns.
use mathlib.Core.Path.{◌≡◌, refl, sym, ap, ◌∙◌, subst}
use mathlib.Core.List.{List, [], ◌∷◌, ◌++◌, map, map-append}
use Prim.Native.Nat.{ℕ, zero, suc, ◌+◌, ◌≤◌, ◌<◌}
use native.Mathlib.Numerals.{add-one}
use native.Mathlib.Omega.{arith}
use lib.ListN.{length, get_or, take, set, replicate, length-append, length-map, length-replicate}
use lib.Seq.{sets, length-sets, length-take-le, take-suc, take-suc-set, take_all}
use borrow.Rule.Slice.PartMut.{put_mid}
use Rattle.std.proofs.lemmas.List.{replicate_more}
use Rattle.lists.specs.Listing.{rows, tab}
use Rattle.lists.proofs.Listing.{rows_le, rows_next, map_rows, length_tab}
use Rattle.paper_clauses.specs.Entries.{Entry, entry, variables_in, marks_in}
use Rattle.lists.proofs.Stored.{sets_append, part_stored}
use Rattle.table_literals.specs.Written.{Room, Wrote, Sofar, run_of}

-- ---- a copy of items of any type: after e turns the first e are stored

module _ {A : Type 0} where
  one_more : (s : List A) (i : ℕ) (l : List A) (x : A) → set (sets s i l) (i + length l) x ≡ sets s i (l ++ x ∷ [])
  one_more s i [] x = let e : i + 0 ≡ i = omega arith in ap (λ (j : ℕ). set s j x) e
  one_more s i (a ∷ l) x =
      let e : i + suc (length l) ≡ suc i + length l = omega arith in ap (λ (j : ℕ). set (sets s i (a ∷ l)) j x) e ∙ one_more (set s i a) (suc i) l x

  pub store_turn : (s : List A) (i e : ℕ) (l : List A) (x : A) {t : List A} → e < length l → x ≡ get_or l e x → t ≡ sets s i (take e l)
      → set t (i + e) x ≡ sets s i (take (e + 1) l)
  store_turn s i e l x {t} h q p =
      let n : i + e ≡ i + length (take e l) = omega (arith, length-take-le e l (omega arith)) in
      let k : take e l ++ x ∷ [] ≡ take (e + 1) l = ap (λ (y : A). take e l ++ y ∷ []) q ∙ sym (take-suc l e x h) ∙ ap (λ (k : ℕ). take k l) (sym (add-one e)) in
      ap (λ (t : List A). set t (i + e) x) p ∙ ap (λ (j : ℕ). set (sets s i (take e l)) j x) n ∙ one_more s i (take e l) x ∙ ap (sets s i) k

-- ---- a run: variables one after another, all with one mark

pub run_length : (w y n : ℕ) → length (rows n (run_of w y)) ≡ n
run_length w y n = length_tab n (λ e. entry (w + e) y)

-- one variable more
pub run_turn : (w : ℕ) (s : List ℕ) (e : ℕ) → take e s ≡ tab e (λ e. w + e) → e < length s → take (e + 1) (set s e (w + e)) ≡ tab (e + 1) (λ e. w + e)
run_turn w s e p h = rw add-one (take-suc-set s e (w + e) h) ∙ ap (λ (l : List ℕ). l ++ (w + e) ∷ []) p ∙ rows_next (λ e. (w + e) ∷ []) e

run_marks : (y n : ℕ) → replicate n y ≡ rows n (λ e. y ∷ [])
unfolding rows
run_marks y zero = refl
run_marks y (suc n) = ap (λ (k : ℕ). replicate k y) (sym (add-one n)) ∙ sym (replicate_more n y) ∙ ap (λ (l : List ℕ). l ++ y ∷ []) (run_marks y n)

-- all of them, in the parts of both arrays that are as long
module _ {v m : List ℕ} {at : ℕ} (w y : ℕ) {n : ℕ} (r : Room v m at (rows n (run_of w y))) where
  pub run_stored : (s : List ℕ) {t : List ℕ} {k i : ℕ} → k ≡ n → i ≡ n → length s ≤ i → take i s ≡ tab i (λ e. w + e) → t ≡ replicate n y → Wrote v m at (rows n (run_of w y)) (put_mid at k v s) (put_mid at k m t) (at + n)
  run_stored s {t} {k} {i} e f h j q =
      let p : s ≡ tab n (λ e. w + e) = sym (take_all i s h) ∙ j ∙ ap (λ (n : ℕ). tab n (λ e. w + e)) f in
      let l = run_length w y n in record {
        variables =
            part_stored at k v s (ap length p ∙ length_tab n (λ e. w + e) ∙ sym e) (omega (arith, r.variables))
            ∙ ap (sets v at) (p ∙ sym (map_rows (λ (e : Entry). e.variable) (run_of w y) n));
        marks =
            part_stored at k m t (ap length q ∙ length-replicate n y ∙ sym e) (omega (arith, r.marks))
            ∙ ap (sets m at) (q ∙ run_marks y n ∙ sym (map_rows (λ (e : Entry). e.mark) (run_of w y) n));
        next = omega arith;
      }

-- ---- one list after another

sets_then : (f : Entry → ℕ) (s : List ℕ) {t u : List ℕ} (i : ℕ) {j : ℕ} (F G : List Entry) → t ≡ sets s i (map f F) → j ≡ i + length F → u ≡ sets t j (map f G)
    → u ≡ sets s i (map f (F ++ G))
sets_then f s i F G p q r =
    let e : i + length F ≡ i + length (map f F) = ap (λ (n : ℕ). i + n) (sym (length-map F f)) in
    rw (map-append, sets_append, ← e, ← q, ← p) r

-- first F, then G
pub and_then : {v m v' m' v'' m'' : List ℕ} {at at' at'' : ℕ} {F G : List Entry} → Wrote v m at F v' m' at' →
    Wrote v' m' at' G v'' m'' at'' → Wrote v m at (F ++ G) v'' m'' at''
and_then {v} {m} {at = at} {F = F} {G = G} a b = record {
  variables = sets_then (λ (e : Entry). e.variable) v at F G a.variables a.next b.variables;
  marks = sets_then (λ (e : Entry). e.mark) m at F G a.marks a.next b.marks;
  next = omega (arith, a.next, b.next, length-append F G);
}

-- the same where the whole has another name
pub named : {v m v' m' : List ℕ} {at at' : ℕ} {F H : List Entry} → F ≡ H → Wrote v m at F v' m' at' → Wrote v m at H v' m' at'
named {v} {m} {v'} {m'} {at} {at'} e w = subst (λ (H : List Entry). Wrote v m at H v' m' at') e w

kept_variables : {v m v' m' : List ℕ} {at at' : ℕ} {F : List Entry} → Wrote v m at F v' m' at' → length v' ≡ length v
kept_variables {v} {at = at} {F = F} w = ap length w.variables ∙ length-sets v at (variables_in F)

kept_marks : {v m v' m' : List ℕ} {at at' : ℕ} {F : List Entry} → Wrote v m at F v' m' at' → length m' ≡ length m
kept_marks {m = m} {at = at} {F = F} w = ap length w.marks ∙ length-sets m at (marks_in F)

-- room for F and then G
module _ {v m : List ℕ} {at : ℕ} {R : List Entry} (r : Room v m at R) (F G : List Entry) (e : F ++ G ≡ R) where
  pub room_first : Room v m at F
  room_first = let l = sym (length-append F G) ∙ ap length e in record { variables = omega (arith, l, r.variables); marks = omega (arith, l, r.marks) }

  pub room_next : {v' m' : List ℕ} {at' : ℕ} → Wrote v m at F v' m' at' → Room v' m' at' G
  room_next w = let l = sym (length-append F G) ∙ ap length e in record {
    variables = omega (arith, l, r.variables, kept_variables w, w.next);
    marks = omega (arith, l, r.marks, kept_marks w, w.next);
  }

-- ---- loops

pub begun : {v m : List ℕ} {at n : ℕ} {f : ℕ → List Entry} → Sofar v m at f n v m at 0
begun = record { upto = omega arith; long = refl; wide = refl; wrote = unfold rows in record { variables = refl; marks = refl; next = omega arith } }

module _ {v m v' m' : List ℕ} {at at' n i : ℕ} {f : ℕ → List Entry} (s : Sofar v m at f n v' m' at' i) where
  pub done : n ≤ i → Wrote v m at (rows n f) v' m' at'
  done h = let e : i ≡ n = omega (arith, s.upto) in subst (λ (j : ℕ). Wrote v m at (rows j f) v' m' at') e s.wrote

  module _ {G : List Entry} (h : i < n) (e : f i ≡ G) where
    pub turn : {v'' m'' : List ℕ} {at'' : ℕ} → Wrote v' m' at' G v'' m'' at'' → Sofar v m at f n v'' m'' at'' (i + 1)
    turn w = record {
      upto = omega arith;
      long = kept_variables w ∙ s.long;
      wide = kept_marks w ∙ s.wide;
      wrote = named (ap (λ (G : List Entry). rows i f ++ G) (sym e) ∙ rows_next f i) (and_then s.wrote w);
    }

    pub room : Room v m at (rows n f) → Room v' m' at' G
    room r =
        let l = rows_le f n i h in
        let g = ap length e in
        record { variables = omega (arith, l, g, s.wrote.next, s.long, r.variables); marks = omega (arith, l, g, s.wrote.next, s.wide, r.marks) }
