-- Whether each byte is below a number, asked from a place on, has the answer of the whole, as long as every byte before it is:
-- such a byte adds no place.
use mathlib.Core.Path.{◌≡◌, refl, sym, ap, ◌∙◌}
use mathlib.Core.Bool.{Bool, true, false, cond}
use mathlib.Core.List.{List, [], ◌∷◌, ◌++◌}
use Prim.Native.Nat.{ℕ, suc, ◌+◌, ◌≤◌, ◌<◌}
use native.Mathlib.Numerals.{add-one}
use lib.Dec.{ltb}
use lib.ListN.{length, get_or, drop, drop_of_length-le}
use lib.Seq.{drop-cons}
use borrow.Author.Tests.{lt-ltb, le-ltb}
use Rattle.std.specs.Prelude.{Err}
use Rattle.refusal.specs.Asked.{ok}
use Rattle.paper_grammar.specs.Questions.{at_first}
use Rattle.paper_meaning.specs.Recording.{not_below, ask_below}

module _ (number most : ℕ) (bytes : List ℕ) where
  pub record AskedFrom (t : ℕ) : Type 0 where
    pub same : at_first number (not_below most t (drop t bytes)) ≡ ask_below number most bytes

  pub asked_first : AskedFrom 0
  unfolding ask_below
  asked_first = record { same = refl }

  -- the byte at t, and those after it
  own_byte : (t : ℕ) → t < length bytes → (b : Bool) → ltb (get_or bytes t 0) most ≡ b
      → at_first number (not_below most t (drop t bytes)) ≡ at_first number (cond b [] (t ∷ []) ++ not_below most (suc t) (drop (suc t) bytes))
  unfolding not_below
  own_byte t h b e =
      ap (λ (l : List ℕ). at_first number (not_below most t l)) (drop-cons bytes t 0 h) ∙ ap (λ (b : Bool). at_first number (cond b [] (t ∷ []) ++ not_below most (suc t) (drop (suc t) bytes))) e

  pub asked_no : (t : ℕ) → t < length bytes → most ≤ get_or bytes t 0 → AskedFrom t → Err (record { number = number; place = t }) ≡ ask_below number most bytes
  asked_no t h g a = sym (own_byte t h false (le-ltb (get_or bytes t 0) most g)) ∙ a.same

  pub asked_next : (t : ℕ) → t < length bytes → get_or bytes t 0 < most → AskedFrom t → AskedFrom (t + 1)
  asked_next t h g a = rw add-one (record { same = sym (own_byte t h true (lt-ltb (get_or bytes t 0) most g)) ∙ a.same })

  pub asked_all : (t : ℕ) → length bytes ≤ t → AskedFrom t → ok ≡ ask_below number most bytes
  unfolding not_below
  asked_all t h a = sym (ap (λ (l : List ℕ). at_first number (not_below most t l)) (drop_of_length-le bytes h)) ∙ a.same
