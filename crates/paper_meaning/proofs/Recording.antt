-- Question 10 answers no with number 10, and questions of bytes, 11 and 13, with the number that they are asked with:
-- a test with its number, and the first of the places that fail it. Answered with yes, they say what they ask; and bytes with these
-- channels and nothing beyond are one recording, since a byte below 2^C is its C bits.
use mathlib.Core.Path.{◌≡◌, refl, sym, ap, ◌∙◌}
use mathlib.Core.Logic.{◌↔◌}
use mathlib.Core.Bool.{Bool, true, false, cond, false≢true}
use mathlib.Core.List.{List, [], ◌∷◌, ◌++◌}
use Prim.Native.Nat.{ℕ, suc, ◌^◌, ◌<◌}
use native.Mathlib.Omega.{arith}
use lib.Dec.{eqb, ltb}
use lib.ListN.{length, get_or}
use lib.Seq.{ext_get_or}
use borrow.Author.Tests.{eqb-true, lt-ltb, ltb-true}
use Rattle.lists.proofs.Lists.{all_at}
use Rattle.refusal.specs.Asked.{Gives, ok}
use Rattle.refusal.proofs.Laws.{test_yes}
use Rattle.refusal.proofs.Numbers.{question_gives}
use Rattle.paper_grammar.specs.Questions.{at_first}
use Rattle.paper_grammar.proofs.Gives.{first_gives}
use Rattle.paper_meaning.specs.Meaning.{channel_at}
use Rattle.paper_meaning.specs.Recording.{ask_recording, EachBelow, not_below, ask_below}
use Rattle.paper_meaning.proofs.Words.{packed_only}

pub recording_gives : (k : ℕ) (recording : List ℕ) → Gives 10 (ask_recording k recording)
unfolding ask_recording
recording_gives k recording = question_gives 10 0 (eqb (length recording) k)

pub below_gives : (n most : ℕ) (bytes : List ℕ) → Gives n (ask_below n most bytes)
unfolding ask_below
below_gives n most bytes = first_gives n (not_below most 0 bytes)

-- question 10, answered with yes
pub recording_length : (k : ℕ) (recording : List ℕ) → ask_recording k recording ≡ ok → length recording ≡ k
unfolding ask_recording
recording_length k recording e = eqb-true (length recording) k (test_yes 10 0 _ e)

-- questions 11 and 13, answered with yes
module _ (number n : ℕ) where
  none_not_below : (t : ℕ) (A : List ℕ) → EachBelow n A → not_below n t A ≡ []
  unfolding not_below
  none_not_below t [] h = refl
  none_not_below t (b ∷ A) h = rw (lt-ltb b n h.0) (none_not_below (suc t) A h.1)

  each_below : (t : ℕ) (A : List ℕ) → at_first number (not_below n t A) ≡ ok → EachBelow n A
  unfolding not_below
  each_below t [] e = tt
  each_below t (b ∷ A) e = go (ltb b n) refl e (each_below (suc t) A)
    where
      go : (u : Bool) → ltb b n ≡ u → at_first number (cond u [] (t ∷ []) ++ not_below n (suc t) A) ≡ ok →
          (at_first number (not_below n (suc t) A) ≡ ok → EachBelow n A) → EachBelow n (b ∷ A)
      go true u e ih = (ltb-true b n u, ih e)
      go false u e ih = absurd (false≢true cc)

  pub below_yes : (A : List ℕ) → (ask_below number n A ≡ ok) ↔ EachBelow n A
  unfolding ask_below
  below_yes A = (each_below 0 A, λ h. ap (at_first number) (none_not_below 0 A h))

-- the channels tell the recording
pub one_recording : (C k : ℕ) (r s : List ℕ) → length r ≡ k → EachBelow (2 ^ C) r → length s ≡ k → EachBelow (2 ^ C) s
    → ((t c : ℕ) → t < k → c < C → channel_at r c t ≡ channel_at s c t) → r ≡ s
unfolding channel_at
one_recording C k r s e f g h same =
    ext_get_or 0 r s (e ∙ sym g) (λ t l.
    sym (packed_only _ (get_or r t 0) C (all_at _ r 0 f t l, record { at = λ c m. same t c (omega arith) m }))
    ∙ packed_only _ (get_or s t 0) C (all_at _ s 0 h t (omega arith), record { at = λ c m. refl }))
