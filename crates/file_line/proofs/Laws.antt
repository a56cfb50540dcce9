-- An item reads back and so does the text before the last byte; and what was read is what is written.
-- Both by the two items in turn.
use mathlib.Core.Path.{◌≡◌, refl, ap, ◌∙◌}
use mathlib.Core.Bool.{false≢true}
use mathlib.Core.List.{List, [], ◌∷◌, ◌++◌}
use Prim.Native.Nat.{ℕ, suc, ◌-◌, ◌≤◌, ◌<◌}
use native.Mathlib.Omega.{arith}
use lib.Dec.{eqb}
use lib.ListN.{length, get_or, take, length-append, drop_of_length-le}
use lib.Seq.{take_at, get_or_at, split_at}
use borrow.Author.Tests.{eqb-true}
use Rattle.paper_grammar.specs.Trees.{decimal}
use Rattle.lists.proofs.Tests.{cond_elim}
use Rattle.file_line.specs.Line.{line_of, Line, line, Taken, taken, none, number, blank, text_last, steps_next, channels_first, read_line}
use Rattle.file_line.proofs.Items.{item_reads, item_is}

-- ---- the text

-- all but the last byte, and the last
last_split : (q : List ℕ) → 0 < length q → q ≡ take (length q - 1) q ++ get_or q (length q - 1) 0 ∷ []
last_split q h =
    let n = length q - 1 in
    let m : length q ≤ suc n = omega arith in
    split_at q n 0 (omega arith) ∙ ap (λ (r : List ℕ). take n q ++ get_or q n 0 ∷ r) (drop_of_length-le q m)

module _ (C k : ℕ) where
  text_reads : (t : List ℕ) → text_last C k (t ++ 10 ∷ []) ≡ line C k t
  text_reads t =
      let n : length t ≡ length (t ++ 10 ∷ []) - 1 = omega (arith, length-append t (10 ∷ [])) in
      rw (get_or_at t 10 [] 0 _ n, take_at t (10 ∷ []) _ n)

  text_is : (q : List ℕ) (D j : ℕ) (t : List ℕ) → text_last C k q ≡ line D j t → (C ≡ D) × (k ≡ j) × (q ≡ t ++ 10 ∷ [])
  text_is [] D j t e = absurd (false≢true cc)
  text_is (b ∷ q) D j t e =
      let l = b ∷ q in
      cond_elim (λ (x : Line). x ≡ line D j t → (C ≡ D) × (k ≡ j) × (l ≡ t ++ 10 ∷ [])) (eqb (get_or l (length l - 1) 0) 10)
      (λ z e. let w = eqb-true (get_or l (length l - 1) 0) 10 z in
      let g : take (length l - 1) l ≡ t = cc in (cc, cc, last_split l (omega arith) ∙ rw (w, g)))
      (λ z e. absurd (false≢true cc)) e

-- ---- the line

-- the reader reads back every line
pub line_reads_back : (C k : ℕ) (t : List ℕ) → read_line (line_of C k t) ≡ line C k t
unfolding line_of read_line
line_reads_back C k t = ap channels_first (item_reads C (decimal k ++ 32 ∷ (t ++ 10 ∷ []))) ∙ ap (steps_next C) (item_reads k (t ++ 10 ∷ [])) ∙ text_reads C k t

-- and what it reads is a line
pub line_is : (l : List ℕ) (C k : ℕ) (t : List ℕ) → read_line l ≡ line C k t → l ≡ line_of C k t
unfolding line_of read_line
line_is l C k t = channels (blank (number l)) refl
  where
    steps : (D : ℕ) (q : List ℕ) (x : Taken) → blank (number q) ≡ x → steps_next D x ≡ line C k t → (D ≡ C) × (q ≡ decimal k ++ 32 ∷ (t ++ 10 ∷ []))
    steps D q none i e = absurd (false≢true cc)
    steps D q (taken j r) i e = let (a, b, g) = text_is D j r C k t e in (a, item_is q j r i ∙ rw (b, g))

    channels : (x : Taken) → blank (number l) ≡ x → channels_first x ≡ line C k t → l ≡ decimal C ++ 32 ∷ (decimal k ++ 32 ∷ (t ++ 10 ∷ []))
    channels none i e = absurd (false≢true cc)
    channels (taken D q) i e = let (a, g) = steps D q (blank (number q)) refl e in item_is l D q i ∙ rw (a, g)
