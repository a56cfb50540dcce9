-- Reading by places says what reading the list does: a good read leaves what stands from its place on. And a number's value, read by
-- itself, is the item's, since the item is a decimal and a blank follows it.
use mathlib.Core.Path.{◌≡◌, refl, sym, ap, ◌∙◌}
use mathlib.Core.Bool.{Bool, true, false, cond, false≢true}
use mathlib.Core.List.{List, [], ◌∷◌}
use Prim.Native.Nat.{ℕ, suc, ◌+◌, ◌*◌, ◌-◌, ◌≤◌, ◌<◌}
use native.Mathlib.Omega.{arith}
use native.Mathlib.Numerals.{add-one}
use lib.Dec.{eqb}
use lib.ListN.{length, get_or, take, drop, length-drop, drop_of_length-le}
use lib.Seq.{drop-drop, get_or-drop}
use borrow.Author.Tests.{eq-eqb, ne_eqb}
use Rattle.std.specs.Prelude.{Some, Ok, Err}
use Rattle.std.specs.Result.{result_ok}
use Rattle.paper_grammar.specs.Reader.{is_digit}
use Rattle.paper_grammar.proofs.Written.{drop_byte}
use Rattle.formula_reader.specs.Parts.{Got, test_at, is_sign, digit_count, number_at, on_good}
use Rattle.formula_scan.specs.Scans.{capped, number_from}
use Rattle.formula_text.proofs.Standing.{read_number}
use Rattle.file_line.specs.Line.{line, other, Taken, taken, none, digits, number, blank, text_last, steps_next, channels_first, read_line}
use Rattle.file_line.specs.Parts.{capped_taken, capped_line}
use Rattle.file_line.proofs.Items.{item_is}

-- ---- an item

-- what a read by places leaves, after a number
abbrev left_by : List ℕ → ℕ → Got → Taken
left_by l n (Ok m) = taken n (drop m l)
left_by l n (Err p) = none

-- a read that came to n
pub came_to : (g : Got) {n : ℕ} → Some n ≡ result_ok g → Ok n ≡ g
came_to (Ok m) {n} e = let z : n ≡ m = cc in ap (λ (n : ℕ). Ok n) z
came_to (Err p) e = absurd (false≢true cc)

digits_left : (q : List ℕ) (v : ℕ) → (n : ℕ) × (digits v q ≡ taken n (drop (digit_count q) q))
unfolding digits digit_count
digits_left [] v = (v, refl)
digits_left (b ∷ q) v = by (is_digit b) (digits_left q (v * 10 + (b - 48)))
  where
    by : (c : Bool) → ((n : ℕ) × (digits (v * 10 + (b - 48)) q ≡ taken n (drop (digit_count q) q)))
        → (n : ℕ) × (cond c (digits (v * 10 + (b - 48)) q) (taken v (b ∷ q)) ≡ taken n (drop (cond c (suc (digit_count q)) 0) (b ∷ q)))
    by true w = w
    by false w = (v, refl)

module _ (l : List ℕ) where
  number_left : (at : ℕ) → (n : ℕ) × (number (drop at l) ≡ left_by l n (number_at at (drop at l)))
  unfolding number
  number_left at = by (drop at l) refl
    where
      test : (c e : Bool) (b : ℕ) (q : List ℕ) → drop (at + 1) l ≡ q → (n : ℕ) ×
          (cond c (taken 0 q) (cond e (digits (b - 48) q) none) ≡ left_by l n (cond c (Ok (at + 1)) (cond e (Ok (at + 1 + digit_count q)) (Err at))))
      test true e b q w = (0, ap (taken 0) (sym w))
      test false true b q w =
          let (n, v) = digits_left q (b - 48) in
          (n, v ∙ ap (taken n) (ap (drop (digit_count q)) (sym w) ∙ drop-drop (digit_count q) (at + 1) l))
      test false false b q w = (0, refl)

      by : (q : List ℕ) → drop at l ≡ q → (n : ℕ) × (number q ≡ left_by l n (number_at at q))
      by [] e = (0, refl)
      by (b ∷ q) e = test (eqb b 48) (is_digit b) b q (rw (add-one at) (drop_byte l at b q e))

  blank_left : (n : ℕ) (g : Got) → blank (left_by l n g) ≡ left_by l n (on_good l (test_at (is_sign 32)) g)
  blank_left n (Err p) = refl
  blank_left n (Ok m) = by (drop m l) refl
    where
      test : (c : Bool) (q : List ℕ) → drop (m + 1) l ≡ q → cond c (taken n q) none ≡ left_by l n (cond c (Ok (m + 1)) (Err m))
      test true q w = ap (taken n) (sym w)
      test false q w = refl

      by : (q : List ℕ) → drop m l ≡ q → blank (taken n q) ≡ left_by l n (test_at (is_sign 32) m q)
      by [] e = refl
      by (b ∷ q) e = test (eqb b 32) q (rw (add-one m) (drop_byte l m b q e))

  item_left : (at : ℕ) → (n : ℕ) × (blank (number (drop at l)) ≡ left_by l n (on_good l (test_at (is_sign 32)) (number_at at (drop at l))))
  item_left at = let (n, e) = number_left at in (n, ap blank e ∙ blank_left n (number_at at (drop at l)))

  -- no number, or no blank after it
  module _ (at : ℕ) where
    none_left : {p : ℕ} → Err p ≡ on_good l (test_at (is_sign 32)) (number_at at (drop at l)) → none ≡ capped_taken (blank (number (drop at l)))
    none_left w = let (n, f) = item_left at in sym (ap capped_taken (f ∙ ap (left_by l n) (sym w)))

    pub no_number : {p : ℕ} → Err p ≡ number_at at (drop at l) → none ≡ capped_taken (blank (number (drop at l)))
    no_number e = none_left (ap (on_good l (test_at (is_sign 32))) e)

    module _ {end : ℕ} (e : Ok end ≡ number_at at (drop at l)) where
      pub no_blank : {p : ℕ} → Err p ≡ test_at (is_sign 32) end (drop end l) → none ≡ capped_taken (blank (number (drop at l)))
      no_blank f = none_left (f ∙ ap (on_good l (test_at (is_sign 32))) e)

      -- the item's number is what is read from its place on
      pub item_good : {next value : ℕ} → Ok next ≡ test_at (is_sign 32) end (drop end l) → value ≡ number_from 0 (drop at l)
          → taken value (drop next l) ≡ capped_taken (blank (number (drop at l)))
      item_good {next} {value} g v =
          let (n, f) = item_left at in
          let b : blank (number (drop at l)) ≡ taken n (drop next l) = f ∙ ap (left_by l n) (sym (g ∙ ap (on_good l (test_at (is_sign 32))) e)) in
          let d = item_is (drop at l) n (drop next l) b in
          let u : value ≡ capped n = v ∙ ap (number_from 0) d ∙ read_number n (32 ∷ drop next l) refl in
          ap (λ (m : ℕ). taken m (drop next l)) u ∙ sym (ap capped_taken b)

-- ---- the text

-- the last byte from a place on is the last of all
module _ (l : List ℕ) (c k at : ℕ) where
  module _ (h : at < length l) where
    last_at : get_or (drop at l) (length (drop at l) - 1) 0 ≡ get_or l (length l - 1) 0
    last_at = let e : at + (length (drop at l) - 1) ≡ length l - 1 = omega (arith, length-drop at l) in get_or-drop at l (length (drop at l) - 1) 0 ∙ ap (λ (n : ℕ). get_or l n 0) e

    pub text_good : get_or l (length l - 1) 0 ≡ 10 → line c k (take (length l - 1 - at) (drop at l)) ≡ text_last c k (drop at l)
    text_good e =
        let n : length (drop at l) - 1 ≡ length l - 1 - at = omega (arith, length-drop at l) in
        sym (rw (eq-eqb (get_or (drop at l) (length (drop at l) - 1) 0) 10 (last_at ∙ e), n))

    pub text_no_feed : (get_or l (length l - 1) 0 ≡ 10 → ⊥) → other ≡ text_last c k (drop at l)
    text_no_feed e = sym (rw (ne_eqb (get_or (drop at l) (length (drop at l) - 1) 0) 10 (λ w. e (sym last_at ∙ w))))

  pub text_end : length l ≤ at → other ≡ text_last c k (drop at l)
  text_end h = rw (drop_of_length-le l h)

-- ---- the line

limited_text : (C k : ℕ) (q : List ℕ) → text_last (capped C) (capped k) q ≡ capped_line (text_last C k q)
limited_text C k q = by (eqb (get_or q (length q - 1) 0) 10)
  where
    by : (c : Bool) → cond c (line (capped C) (capped k) (take (length q - 1) q)) other ≡ capped_line (cond c (line C k (take (length q - 1) q)) other)
    by true = refl
    by false = refl

limited_steps : (C : ℕ) (x : Taken) → steps_next (capped C) (capped_taken x) ≡ capped_line (steps_next C x)
limited_steps C (taken k q) = limited_text C k q
limited_steps C none = refl

module _ (l : List ℕ) where
  pub line_good : (v : ℕ) (q : List ℕ) → taken v q ≡ capped_taken (blank (number l)) → steps_next v (capped_taken (blank (number q))) ≡ capped_line (read_line l)
  unfolding read_line
  line_good v q = by (blank (number l))
    where
      by : (x : Taken) → taken v q ≡ capped_taken x → steps_next v (capped_taken (blank (number q))) ≡ capped_line (channels_first x)
      by none e = absurd (false≢true cc)
      by (taken C r) e = let a : v ≡ capped C = cc in let b : q ≡ r = cc in rw (a, b) (limited_steps C (blank (number r)))

  pub line_bad : none ≡ capped_taken (blank (number l)) → other ≡ capped_line (read_line l)
  unfolding read_line
  line_bad = by (blank (number l))
    where
      by : (x : Taken) → none ≡ capped_taken x → other ≡ capped_line (channels_first x)
      by none e = refl
      by (taken C r) e = absurd (false≢true cc)
