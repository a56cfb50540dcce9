-- A count takes three places, so each line has as many bytes, and the strip's lines stand at known places; a column below k shows whether
-- the channel is high there, so equal strips are of equal channels, and these tell the recording.
use mathlib.Core.Path.{◌≡◌, refl, sym, ap, ap₂, ◌∙◌}
use mathlib.Core.Bool.{Bool, true, false, cond}
use mathlib.Core.List.{List, [], ◌∷◌, ◌++◌}
use Prim.Native.Nat.{ℕ, suc, ◌+◌, ◌*◌, ◌^◌, ◌≤◌, ◌<◌}
use native.Mathlib.Omega.{arith}
use lib.ListN.{length, get_or, length-append, get_or-append}
use lib.Seq.{get_or-append-add}
use borrow.Author.Tests.{lt-ltb}
use Rattle.lists.specs.Listing.{rows, tab, sum}
use Rattle.lists.proofs.Listing.{length_tab, get_or_tab, length_rows, get_or_rows, sum_alike}
use Rattle.refusal.specs.Asked.{AllYes}
use Rattle.refusal.proofs.Laws.{one_yes}
use Rattle.interval.specs.Limits.{max_steps}
use Rattle.interval.proofs.Gives.{steps_yes}
use Rattle.paper_grammar.specs.Limits.{max_channels}
use Rattle.paper_grammar.proofs.Gives.{channels_yes}
use Rattle.paper_meaning.specs.Meaning.{channel_at, highs}
use Rattle.paper_meaning.specs.Recording.{EachBelow}
use Rattle.paper_meaning.proofs.Laws.{highs_le}
use Rattle.paper_meaning.proofs.Recording.{recording_length, below_yes, one_recording}
use Rattle.strip.specs.Strip.{blank, high, low, line_feed, letter_of, column_of, count_of, line_of, strip_of, line_bytes}
use Rattle.strip.specs.Call.{recorded_questions}
use Rattle.strip.specs.declared.Line.{Line}
use Rattle.strip.specs.declared.Line.TheVariants.{Ruler, Channel}
use Rattle.strip.proofs.Aligned.{aligned_places}

-- what 1, 2, 10 and 11 say, answered with yes
pub record Recorded (C k : ℕ) (recording : List ℕ) : Type 0 where
  pub channels : C ≤ max_channels
  pub steps : k ≤ max_steps
  pub bytes : length recording ≡ k
  pub below : EachBelow (2 ^ C) recording

pub recorded : (C k : ℕ) (recording : List ℕ) → AllYes (recorded_questions C k recording) → Recorded C k recording
recorded C k recording y =
    let a = one_yes y in let b = one_yes a.1 in let c = one_yes b.1 in
    record {
      channels = (channels_yes C a.0).1;
      steps = steps_yes k b.0;
      bytes = recording_length k recording c.0;
      below = (below_yes 11 (2 ^ C) recording).0 (one_yes c.1).0;
    }

module _ (k : ℕ) (recording : List ℕ) (h : k ≤ max_steps) where
  pub count_length : (l : Line) → length (count_of k recording l) ≡ 3
  count_length Ruler = refl
  count_length (Channel c) = ap length (aligned_places (highs (channel_at recording c) 0 k) (omega (arith, highs_le (channel_at recording c) 0 k)))

  -- a line without its line feed
  abbrev shown : Line → List ℕ
  shown l = letter_of l ∷ blank ∷ tab max_steps (column_of k recording l) ++ blank ∷ count_of k recording l

  shown_length : (l : Line) → length (shown l) ≡ max_steps + 6
  shown_length l =
      length-append (letter_of l ∷ blank ∷ tab max_steps (column_of k recording l)) (blank ∷ count_of k recording l)
      ∙ ap₂ (λ (m n : ℕ). suc (suc m) + suc n) (length_tab max_steps (column_of k recording l)) (count_length l)

  pub line_length : (l : Line) → length (line_of k recording l) ≡ line_bytes
  unfolding line_of
  line_length l = length-append (shown l) (line_feed ∷ []) ∙ ap (λ (n : ℕ). n + 1) (shown_length l)

  pub lines_length : (C : ℕ) → length (rows C (λ c. line_of k recording (Channel c))) ≡ C * line_bytes
  lines_length C = length_rows (λ c. line_of k recording (Channel c)) (λ c. line_bytes) (λ c. line_length (Channel c)) C ∙ sum_alike line_bytes C

  -- the ruler's line, and C more
  pub strip_length : (C : ℕ) → length (strip_of C k recording) ≡ (C + 1) * line_bytes
  unfolding strip_of
  strip_length C = length-append (line_of k recording Ruler) _ ∙ omega (arith, line_length Ruler, lines_length C)

  -- where a channel's column t stands, and what it shows
  column_at : (C c t : ℕ) → c < C → t < k → get_or (strip_of C k recording) (line_bytes + (sum (λ c. line_bytes) c + suc (suc t))) 0 ≡ cond (channel_at recording c t) high low
  unfolding strip_of line_of
  column_at C c t a b =
      ap (λ (n : ℕ). get_or (strip_of C k recording) (n + (sum (λ c. line_bytes) c + suc (suc t))) 0) (sym (line_length Ruler))
      ∙ get_or-append-add (line_of k recording Ruler) _ (sum (λ c. line_bytes) c + suc (suc t)) 0
      ∙ get_or_rows (λ c. line_of k recording (Channel c)) (λ c. line_bytes) (λ c. line_length (Channel c)) C c (suc (suc t)) 0 a (omega arith)
      ∙ get_or-append (shown (Channel c)) (line_feed ∷ []) 0 (suc (suc t)) (omega (arith, shown_length (Channel c)))
      ∙ get_or-append (letter_of (Channel c) ∷ blank ∷ tab max_steps (column_of k recording (Channel c))) (blank ∷ count_of k recording (Channel c)) 0 (suc (suc t))
      (omega (arith, length_tab max_steps (column_of k recording (Channel c))))
      ∙ get_or_tab max_steps (column_of k recording (Channel c)) t 0 (omega arith) ∙ rw (lt-ltb t k b) refl

glyph_tells : (a b : Bool) → cond a high low ≡ cond b high low → a ≡ b
glyph_tells true true e = refl
glyph_tells true false e = absurd (omega (arith, e))
glyph_tells false true e = absurd (omega (arith, e))
glyph_tells false false e = refl

-- "two recordings of equal C and k with equal strips are equal"
pub one_strip : (C k : ℕ) (r s : List ℕ) → Recorded C k r → Recorded C k s → strip_of C k r ≡ strip_of C k s → r ≡ s
one_strip C k r s v w e =
    one_recording C k r s v.bytes v.below w.bytes w.below (λ t c l m. glyph_tells (channel_at r c t) (channel_at s c t)
    (sym (column_at k r v.steps C c t m l) ∙ ap (λ (S : List ℕ). get_or S (line_bytes + (sum (λ c. line_bytes) c + suc (suc t))) 0) e
    ∙ column_at k s w.steps C c t m l))
