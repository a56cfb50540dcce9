-- Document 01, "Questions in order": a call asks those that concern it, in this order; the first no gives number and place.
use Rattle.std.specs.Prelude.{◌≡◌, Bool, true, false, List, [], ◌∷◌, ℕ, leb, ⊤, Result, Ok, Err}
use Rattle.refusal.specs.declared.Refusal.{Refusal}

-- the reply to one question: yes, or no by a refusal; and what a call answers that has no more to say than that it is done
abbrev pub Reply : Type 0
Reply = Result ⊤ Refusal

abbrev pub ok : Reply
ok = Ok tt

-- a question by its test, with the number and the place that its no gives
abbrev pub question : ℕ → ℕ → Bool → Reply
question number place true = ok
question number place false = Err (record { number = number; place = place })

-- question 18, of a call's one lent output: has it n places?
unfoldable pub ask_places : ℕ → ℕ → Reply
ask_places n places = question 18 0 (leb n places)

-- a call: its questions in order, what it does when refused, and what it does when every question is answered with yes
abbrev pub asked : {A : Type 0} → List Reply → (Refusal → A) → A → A
asked [] refused answer = answer
asked (Ok _ ∷ questions) refused answer = asked questions refused answer
asked (Err r ∷ questions) refused answer = refused r

-- every question is answered with yes
pub data AllYes : List Reply → Type 0 where
  none_left : AllYes []
  yes_then : {questions : List Reply} → AllYes questions → AllYes (ok ∷ questions)

-- r is the first no
pub data FirstNo : List Reply → Refusal → Type 0 where
  here : {r : Refusal} {questions : List Reply} → FirstNo (Err r ∷ questions) r
  later : {r : Refusal} {questions : List Reply} → FirstNo questions r → FirstNo (ok ∷ questions) r

-- a question's no gives this number
abbrev pub Gives : ℕ → Reply → Type 0
Gives n (Ok _) = Unit
Gives n (Err r) = r.number ≡ n

-- questions with these numbers, in this order
abbrev pub Asks : List ℕ → List Reply → Type 0
Asks [] [] = Unit
Asks [] (q ∷ questions) = ⊥
Asks (n ∷ numbers) [] = ⊥
Asks (n ∷ numbers) (q ∷ questions) = Gives n q × Asks numbers questions
