-- The first no answers: a list of questions either has no no, and then the call gives its answer, or it is some yeses, a no
-- and the rest, and then the call is refused by that no, whatever the rest would say. Both by induction on the list.
use mathlib.Core.Path.{◌≡◌, refl, sym, ap, ◌∙◌}
use mathlib.Core.Bool.{Bool, true, false, false≢true}
use mathlib.Core.List.{List, [], ◌∷◌, ◌++◌}
use Prim.Native.Nat.{ℕ}
use mathlib.Core.Logic.{◌⊎◌, inl, inr, ⊎_elim}
use Rattle.refusal.specs.Asked.{Reply, ok, question, asked, AllYes, none_left, yes_then, FirstNo, here, later}
use Rattle.refusal.specs.declared.Refusal.{Refusal}
use Rattle.std.specs.Prelude.{Ok, Err}

-- either all say yes, or there is a first no
pub all_yes_or_first_no : (questions : List Reply) → AllYes questions ⊎ ((r : Refusal) × FirstNo questions r)
all_yes_or_first_no [] = inl none_left
all_yes_or_first_no (Ok _ ∷ questions) = ⊎_elim (λ h. inl (yes_then h)) (λ f. inr (f.0, later f.1)) (all_yes_or_first_no questions)
all_yes_or_first_no (Err r ∷ questions) = inr (r, here)

module _ {A : Type 0} (refused : Refusal → A) (answer : A) where
  pub all_yes_answers : {questions : List Reply} → AllYes questions → asked questions refused answer ≡ answer
  all_yes_answers none_left = refl
  all_yes_answers (yes_then h) = all_yes_answers h

  pub first_no_answers : {questions : List Reply} {r : Refusal} → FirstNo questions r → asked questions refused answer ≡ refused r
  first_no_answers here = refl
  first_no_answers (later f) = first_no_answers f

  -- a call that begins with another call's questions
  pub asked_append : (first then : List Reply) → asked (first ++ then) refused answer ≡ asked first refused (asked then refused answer)
  asked_append [] then = refl
  asked_append (Ok _ ∷ first) then = asked_append first then
  asked_append (Err r ∷ first) then = refl

  -- the reply to the questions alone tells how every call that asks them ends
  pub replied_yes : (questions : List Reply) → asked questions Err ok ≡ ok → asked questions refused answer ≡ answer
  replied_yes [] e = refl
  replied_yes (Ok _ ∷ q) e = replied_yes q e
  replied_yes (Err r ∷ q) e = absurd (false≢true cc)

  pub replied_no : (questions : List Reply) (r : Refusal) → asked questions Err ok ≡ Err r → asked questions refused answer ≡ refused r
  replied_no [] r e = absurd (false≢true cc)
  replied_no (Ok _ ∷ q) r e = replied_no q r e
  replied_no (Err p ∷ q) r e = let h : p ≡ r = cc in ap refused h

-- and where it is yes, each was
pub all_replied : (questions : List Reply) → asked questions Err ok ≡ ok → AllYes questions
all_replied [] e = none_left
all_replied (Ok _ ∷ q) e = yes_then (all_replied q e)
all_replied (Err r ∷ q) e = absurd (false≢true cc)

pub one_yes : {q : Reply} {Q : List Reply} → AllYes (q ∷ Q) → (q ≡ ok) × AllYes Q
one_yes (yes_then h) = (refl, h)

-- what is made of a call's answer is made of each way that it ends
pub asked_map : {A B : Type 0} (f : A → B) (refused : Refusal → A) (answer : A) (questions : List Reply)
    → f (asked questions refused answer) ≡ asked questions (λ r. f (refused r)) (f answer)
asked_map f refused answer [] = refl
asked_map f refused answer (Ok _ ∷ q) = asked_map f refused answer q
asked_map f refused answer (Err r ∷ q) = refl

-- a call's last question, asked once the others are answered with yes
module _ {A : Type 0} (refused : Refusal → A) (answer : A) (questions : List Reply) (last : Reply) where
  pub earlier_no : {r : Refusal} → asked questions Err ok ≡ Err r → refused r ≡ asked (questions ++ last ∷ []) refused answer
  earlier_no {r} e = sym (asked_append refused answer questions (last ∷ []) ∙ replied_no refused _ questions r e)

  last_asked : asked questions Err ok ≡ ok → asked (questions ++ last ∷ []) refused answer ≡ asked (last ∷ []) refused answer
  last_asked e = asked_append refused answer questions (last ∷ []) ∙ replied_yes refused _ questions e

  pub last_no : asked questions Err ok ≡ ok → {r : Refusal} → last ≡ Err r → refused r ≡ asked (questions ++ last ∷ []) refused answer
  last_no e f = sym (last_asked e ∙ ap (λ (q : Reply). asked (q ∷ []) refused answer) f)

  pub last_yes : asked questions Err ok ≡ ok → last ≡ ok → answer ≡ asked (questions ++ last ∷ []) refused answer
  last_yes e f = sym (last_asked e ∙ ap (λ (q : Reply). asked (q ∷ []) refused answer) f)

-- a question that its test answers with yes
pub test_yes : (n p : ℕ) (c : Bool) → question n p c ≡ ok → c ≡ true
test_yes n p true e = refl
test_yes n p false e = absurd (false≢true cc)
