-- A scan from i on is what the byte at i answers and the scan from i + 1 on; a number from i on likewise, capped on the way or at the end.
-- So each loop keeps: what is left to scan answers as the whole does.
use mathlib.Core.Path.{◌≡◌, refl, sym, ap, ◌∙◌}
use mathlib.Core.Bool.{Bool, true, false, cond}
use mathlib.Core.List.{List, [], ◌∷◌, ◌++◌}
use Prim.Native.Nat.{ℕ, suc, ◌+◌, ◌*◌, ◌-◌, ◌≤◌, ◌<◌}
use native.Mathlib.Omega.{arith}
use native.Mathlib.Numerals.{add-one}
use lib.Dec.{leb}
use lib.ListN.{length, get_or, take, drop, drop_of_length-le}
use lib.Seq.{drop-nil}
use borrow.Author.Tests.{le-leb, lt-leb, leb-false}
use Rattle.paper_grammar.specs.Reader.{is_digit}
use Rattle.formula_reader.specs.Parts.{value_from}
use Rattle.formula_reader.proofs.Parts.{at_byte}
use Rattle.formula_scan.specs.Scans.{scan, capped_at, found_in, answers_at}
use Rattle.formula_scan.specs.declared.Ask.{Ask}

-- a scan from a place on
module _ (h : ℕ → ℕ → List ℕ) (t : List ℕ) (i : ℕ) where
  scan_at : i < length t → scan h (drop i t) i ≡ h (get_or t i 0) i ++ scan h (drop (i + 1) t) (i + 1)
  unfolding scan
  scan_at k = ap (λ q. scan h q i) (at_byte t i k) ∙ rw (add-one i)

  scan_end : length t ≤ i → scan h (drop i t) i ≡ []
  unfolding scan
  scan_end k = ap (λ q. scan h q i) (drop_of_length-le t k)

module _ (t : List ℕ) (a : Ask) (skip : ℕ) where
  -- from i on, and after so many finds, as from the beginning
  pub record Left (left i : ℕ) : Type 0 where
    pub within : i ≤ length t
    pub same : drop left (scan (answers_at a t) (drop i t) i) ≡ drop skip (found_in a t)

  pub left_begun : Left skip 0
  unfolding found_in
  left_begun = record { within = omega arith; same = refl }

  module _ {left i : ℕ} (w : Left left i) where
    left_whole : length t ≤ i → drop skip (found_in a t) ≡ []
    left_whole k = sym w.same ∙ ap (drop left) (scan_end (answers_at a t) t i k) ∙ drop-nil left

    pub left_none : length t ≤ i → [] ≡ take 1 (drop skip (found_in a t))
    left_none k = sym (ap (take 1) (left_whole k))

    module _ (k : i < length t) where
      step : {l : List ℕ} → l ≡ answers_at a t (get_or t i 0) i → drop left (l ++ scan (answers_at a t) (drop (i + 1) t) (i + 1)) ≡ drop skip (found_in a t)
      step {l} e = ap (drop left) (ap (λ l. l ++ scan (answers_at a t) (drop (i + 1) t) (i + 1)) e ∙ sym (scan_at (answers_at a t) t i k)) ∙ w.same

      pub left_on : [] ≡ answers_at a t (get_or t i 0) i → Left left (i + 1)
      left_on e = record { within = omega arith; same = step e }

      module _ {p : ℕ} (e : p ∷ [] ≡ answers_at a t (get_or t i 0) i) where
        pub left_less : (left ≡ 0 → ⊥) → Left (left - 1) (i + 1)
        left_less n = let s : left ≡ suc (left - 1) = omega arith in record { within = omega arith; same = rw s at (step e) }

        pub left_found : left ≡ 0 → p ∷ [] ≡ take 1 (drop skip (found_in a t))
        left_found z = ap (take 1) (rw z at (step e))

-- ---- numbers

module _ (most : ℕ) where
  pub limited_in : (n m : ℕ) → n ≡ m → n ≤ most → n ≡ capped_at most m
  limited_in n m e h = rw (le-leb m most (omega arith)) e

  pub limited_out : (n m : ℕ) → n ≡ m → most < n → suc most ≡ capped_at most m
  limited_out n m e h = rw (lt-leb m most (omega arith))

  -- what has passed the most stays beyond it
  both_beyond : (c : Bool) {n m : ℕ} → most < n → most < m → most < cond c n m
  both_beyond true h k = h
  both_beyond false h k = k

  stays : (v : ℕ) (q : List ℕ) → most < v → most < value_from v q
  stays v [] h = h
  stays v (b ∷ q) h = both_beyond (is_digit b) (stays (v * 10 + (b - 48)) q (omega arith)) h

  -- so a value may be capped on the way
  on_the_way : (v : ℕ) (q : List ℕ) → capped_at most (value_from (capped_at most v) q) ≡ capped_at most (value_from v q)
  on_the_way v q = go (leb v most) refl
    where
      go : (b : Bool) → leb v most ≡ b → capped_at most (value_from (capped_at most v) q) ≡ capped_at most (value_from v q)
      go true e = rw e
      go false e =
          let h = leb-false v most e in
          ap (λ (n : ℕ). capped_at most (value_from n q)) (sym (limited_out v v refl h)) ∙ sym (limited_out _ _ refl (stays (suc most) q (omega arith))) ∙ limited_out _ _ refl (stays v q h)

  module _ (t : List ℕ) (i v : ℕ) where
    pub number_more : i < length t → is_digit (get_or t i 0) ≡ true →
        capped_at most (value_from (capped_at most (v * 10 + (get_or t i 0 - 48))) (drop (i + 1) t)) ≡ capped_at most (value_from v (drop i t))
    number_more k e = on_the_way (v * 10 + (get_or t i 0 - 48)) (drop (i + 1) t) ∙ sym (ap (λ q. capped_at most (value_from v q)) (at_byte t i k) ∙ rw e)
