-- The three parts of a file are stored one after another, each from where the last ends; and the number that stands at 20 + 4e is the
-- file's variable e, since its variables are listed by their places.
use mathlib.Core.Path.{◌≡◌, refl, sym, ap, ◌∙◌}
use mathlib.Core.List.{List, [], ◌∷◌, ◌++◌, flat_map, append-nil}
use Prim.Native.Nat.{ℕ, ◌+◌, ◌*◌, ◌-◌, ◌≤◌, ◌<◌}
use native.Mathlib.Numerals.{add-one}
use native.Mathlib.Omega.{arith}
use lib.ListN.{length, get_or, take, drop, set, length-append, length-drop}
use lib.Seq.{sets, length-sets, take_all, take-suc, take-suc-set, length-take-le}
use Rattle.lists.proofs.Listing.{length_tab, get_or_tab}
use Rattle.lists.proofs.Lists.{flat_append}
use Rattle.lists.proofs.Stored.{sets_append, stored_over}
use Rattle.table_layout.specs.declared.Sizes.{Sizes}
use Rattle.file_numbers.specs.Held.{Held}
use Rattle.file_numbers.specs.File.{bytes_of, file_of, number_at, sizes_at, variables_at, marks_at}

pub four : (n : ℕ) → length (bytes_of n) ≡ 4
unfolding bytes_of
four n = refl

pub length_bytes : (l : List ℕ) → length (flat_map bytes_of l) ≡ 4 * length l
unfolding flat_map
length_bytes [] = refl
length_bytes (n ∷ l) = length-append (bytes_of n) (flat_map bytes_of l) ∙ omega (arith, four n, length_bytes l)

-- one number more
pub numbers_turn : (f : List ℕ) (at i : ℕ) (l : List ℕ) → i < length l → {b : ℕ} {g h : List ℕ} → g ≡ sets f at (flat_map bytes_of (take i l)) → b ≡ at + 4 * i →
    h ≡ sets g b (bytes_of (get_or l i 0)) → h ≡ sets f at (flat_map bytes_of (take (i + 1) l))
unfolding flat_map
numbers_turn f at i l m p q r =
    let e : at + length (flat_map bytes_of (take i l)) ≡ at + 4 * i = omega (arith, length_bytes (take i l), length-take-le i l (omega arith)) in
    r ∙ rw (p, q, ← e, ← sets_append f at (flat_map bytes_of (take i l)) (bytes_of (get_or l i 0)), add-one, take-suc l i 0 m, flat_append, append-nil) refl

-- one byte more
pub bytes_turn : (f : List ℕ) (at i : ℕ) (l : List ℕ) → i < length l → {g : List ℕ} → g ≡ sets f at (take i l) →
    set g (at + i) (get_or l i 0) ≡ sets f at (take (i + 1) l)
bytes_turn f at i l m p =
    let e : at + length (take i l) ≡ at + i = omega (arith, length-take-le i l (omega arith)) in
    rw (add-one, take-suc l i 0 m, sets_append f at (take i l) (get_or l i 0 ∷ []), e, ← p) refl

pub kept_long : (f : List ℕ) (i : ℕ) (new : List ℕ) {g : List ℕ} → g ≡ sets f i new → length g ≡ length f
kept_long f i new e = ap length e ∙ length-sets f i new

module _ (s v m : List ℕ) where
  pub length_file : length (file_of s v m) ≡ 4 * length s + 4 * length v + length m
  unfolding file_of
  length_file =
      omega (arith, length-append (flat_map bytes_of s ++ flat_map bytes_of v) m, length-append (flat_map bytes_of s) (flat_map bytes_of v), length_bytes s, length_bytes v)

  pub parts_stored : (f : List ℕ) {g h i : List ℕ} {a b : ℕ} → g ≡ sets f 0 (flat_map bytes_of s) → a ≡ 0 + 4 * length s →
      h ≡ sets g a (flat_map bytes_of v) → b ≡ a + 4 * length v → i ≡ sets h b m
      → i ≡ sets f 0 (file_of s v m)
  unfolding file_of
  parts_stored f {g} {h} {i} {a} {b} p q r t u =
      let A = flat_map bytes_of s in
      let B = flat_map bytes_of v in
      let x : 0 + length A ≡ a = omega (arith, q, length_bytes s) in
      let y : 0 + length (A ++ B) ≡ b = omega (arith, q, t, length-append A B, length_bytes s, length_bytes v) in
      sym (rw (sets_append f 0 (A ++ B) m, sets_append f 0 A B, x, y, ← p, ← r, ← u) refl)

module _ {file : List ℕ} {s : Sizes} (h : Held file s) where
  literals_at : (sizes_at file).literals ≡ s.literals
  literals_at = ap (λ (s : Sizes). s.literals) (sym h.sizes)

  -- what is left of the file after its variables
  pub marks_are : take (length file - (20 + 4 * s.literals)) (drop (20 + 4 * s.literals) file) ≡ marks_at file
  unfolding marks_at
  marks_are =
      let n = s.literals in
      take_all (length file - (20 + 4 * n)) (drop (20 + 4 * n) file) (omega (arith, length-drop (20 + 4 * n) file))
      ∙ ap (λ (n : ℕ). drop (20 + 4 * n) file) (sym literals_at)

  pub marks_count : length (marks_at file) ≡ s.literals
  unfolding marks_at
  marks_count = omega (arith, length-drop (20 + 4 * (sizes_at file).literals) file, literals_at, h.long)

  pub variables_count : s.literals ≡ length (variables_at file)
  unfolding variables_at
  variables_count = sym (length_tab (sizes_at file).literals (λ e. number_at file (20 + 4 * e)) ∙ literals_at)

  pub variable_at : (e : ℕ) → e < s.literals → {v : ℕ} → v ≡ number_at file (20 + 4 * e) → v ≡ get_or (variables_at file) e 0
  unfolding variables_at
  variable_at e l p = p ∙ sym (get_or_tab (sizes_at file).literals (λ e. number_at file (20 + 4 * e)) e 0 (omega (arith, literals_at)))

  -- one variable more
  pub read_turn : (v : List ℕ) (e : ℕ) → e < length v → e < s.literals → {n : ℕ} → n ≡ number_at file (20 + 4 * e) →
      take e v ≡ take e (variables_at file) → take (e + 1) (set v e n) ≡ take (e + 1) (variables_at file)
  read_turn v e h l p q = rw (add-one, take-suc-set v e _ h, take-suc (variables_at file) e 0 (omega (arith, variables_count)), q, variable_at e l p) refl

  -- all of them
  pub read_done : (v w : List ℕ) {e : ℕ} → s.literals ≤ length w → length v ≡ s.literals → s.literals ≤ e → take e v ≡ take e (variables_at file) →
      v ++ drop s.literals w ≡ sets w 0 (variables_at file)
  read_done v w {e} h l m p =
      let V = variables_at file in
      let c : v ≡ V = sym (take_all e v (omega arith)) ∙ p ∙ take_all e V (omega (arith, variables_count)) in
      rw c (ap (λ (n : ℕ). V ++ drop n w) variables_count) ∙ sym (stored_over V w refl (omega (arith, variables_count)))
