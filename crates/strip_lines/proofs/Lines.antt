-- A line is two bytes, its columns, a blank, its count and a line feed, stored one after another in a part that is as long as all of them:
-- so nothing of what stood there is left.
use mathlib.Core.Path.{◌≡◌, refl, sym, ap, ◌∙◌}
use mathlib.Core.Bool.{Bool, cond}
use mathlib.Core.List.{List, [], ◌∷◌, ◌++◌, append-nil, append_assoc}
use Prim.Native.Nat.{ℕ, ◌+◌, ◌<◌}
use native.Mathlib.Omega.{arith}
use lib.ListN.{length, get_or, drop_of_length-le, length-append}
use lib.Seq.{sets, length-sets}
use borrow.Author.Tests.{lt-ltb}
use borrow.Rule.Slice.PartMut.{put_mid}
use Rattle.lists.specs.Listing.{tab}
use Rattle.lists.proofs.Listing.{length_tab}
use Rattle.lists.proofs.Stored.{sets_append, stored_before, part_stored, stored_over}
use Rattle.interval.specs.Limits.{max_steps}
use Rattle.strip.specs.Strip.{blank, line_feed, letter_of, glyph_of, column_of, count_of, line_of, line_bytes}
use Rattle.strip.specs.declared.Line.{Line}

-- a column of an instant shows the line's glyph
pub column_below : (k : ℕ) (recording : List ℕ) (t : ℕ) {l m : Line} {x : ℕ} → t < k → l ≡ m → x ≡ glyph_of recording m t → x ≡ column_of k recording l t
column_below k recording t {l} {m} h e g =
    g ∙ sym (ap (λ (b : Bool). cond b (glyph_of recording m t) blank) (lt-ltb t k h)) ∙ ap (λ (l : Line). column_of k recording l t) (sym e)

-- ---- a line, stored

-- a list as long as the part that it is stored in
whole_stored : (p W : List ℕ) → length W ≡ length p → sets p 0 W ≡ W
whole_stored p W e =
    stored_over W p refl (omega (arith, e)) ∙ ap (λ (l : List ℕ). W ++ l) (drop_of_length-le p {i = length W} (omega (arith, e))) ∙ append-nil W

three : (l : List ℕ) → length l ≡ 3 → get_or l 0 0 ∷ get_or l 1 0 ∷ get_or l 2 0 ∷ [] ≡ l
three (a ∷ b ∷ c ∷ []) e = refl
three [] e = absurd (omega (arith, e))
three (a ∷ []) e = absurd (omega (arith, e))
three (a ∷ b ∷ []) e = absurd (omega (arith, e))
three (a ∷ b ∷ c ∷ d ∷ l) e = absurd (omega (arith, e))

-- what stands around the columns
abbrev pub around : List ℕ → ℕ → List ℕ → List ℕ
around p letter count = sets (sets p 0 (letter ∷ blank ∷ [])) (2 + max_steps) (blank ∷ get_or count 0 0 ∷ get_or count 1 0 ∷ get_or count 2 0 ∷ line_feed ∷ [])

pub line_stored : (k : ℕ) (recording : List ℕ) (l : Line) (p : List ℕ) {letter n : ℕ} {count columns : List ℕ} → length p ≡ line_bytes → letter ≡ letter_of l
    → count ≡ count_of k recording l → length count ≡ 3 → n ≡ max_steps → columns ≡ tab n (column_of k recording l)
    → put_mid 2 max_steps (around p letter count) columns ≡ line_of k recording l
unfolding line_of
line_stored k recording l p {letter} {count = count} {columns = columns} h a b c e f =
    let d : columns ≡ tab max_steps (column_of k recording l) = f ∙ ap (λ (n : ℕ). tab n (column_of k recording l)) e in
    let n : length columns ≡ max_steps = ap length d ∙ length_tab max_steps (column_of k recording l) in
    let after : List ℕ = blank ∷ get_or count 0 0 ∷ get_or count 1 0 ∷ get_or count 2 0 ∷ line_feed ∷ [] in
    part_stored 2 max_steps (around p letter count) columns n
    (omega (arith, h, length-sets (sets p 0 (letter ∷ blank ∷ [])) (2 + max_steps) after, length-sets p 0 (letter ∷ blank ∷ [])))
    ∙ stored_before (sets p 0 (letter ∷ blank ∷ [])) columns after 2 (omega (arith, n))
    ∙ sym (sets_append p 0 (letter ∷ blank ∷ []) (columns ++ after))
    ∙ whole_stored p (letter ∷ blank ∷ (columns ++ after)) (omega (arith, h, n, length-append columns after))
    ∙ ap (λ (m : List ℕ). letter ∷ blank ∷ (columns ++ (blank ∷ m ++ line_feed ∷ []))) (three count c)
    ∙ ap (λ (m : List ℕ). letter ∷ blank ∷ m) (sym (append_assoc columns (blank ∷ count) (line_feed ∷ [])))
    ∙ (λ i. a i ∷ blank ∷ d i ++ blank ∷ b i ++ line_feed ∷ [])
