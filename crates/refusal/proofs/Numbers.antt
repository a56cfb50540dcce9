-- A question's no gives the question's own number, so the first no of a list of questions gives one of the numbers that they have:
-- both lists are gone through side by side.
use mathlib.Core.Path.{refl, sym, subst}
use mathlib.Core.Bool.{Bool, true, false}
use mathlib.Core.Logic.{⊎_elim}
use mathlib.Core.List.{List, [], ◌∷◌, ◌++◌, Memᴰ}
use Prim.Native.Nat.{ℕ}
use lib.Dec.{leb}
use Rattle.refusal.specs.Asked.{Reply, ok, question, ask_places, asked, AllYes, FirstNo, here, later, Gives, Asks}
use Rattle.refusal.specs.declared.Refusal.{Refusal}
use Rattle.std.specs.Prelude.{Ok, Err}
use Rattle.refusal.proofs.Laws.{all_yes_or_first_no, all_yes_answers, first_no_answers}

pub question_gives : (n p : ℕ) (test : Bool) → Gives n (question n p test)
question_gives n p true = tt
question_gives n p false = refl

pub places_gives : (n places : ℕ) → Gives 18 (ask_places n places)
unfolding ask_places
places_gives n places = question_gives 18 0 (leb n places)

-- questions, and then others
pub asks_append : (m n : List ℕ) (p q : List Reply) → Asks m p → Asks n q → Asks (m ++ n) (p ++ q)
asks_append [] n [] q a b = b
asks_append [] n (x ∷ p) q a b = absurd a
asks_append (l ∷ m) n [] q a b = absurd a
asks_append (l ∷ m) n (x ∷ p) q a b = (a.0, asks_append m n p q a.1 b)

-- the first no's number is one of theirs
pub first_no_number : (numbers : List ℕ) (questions : List Reply) → Asks numbers questions → {r : Refusal} → FirstNo questions r
    → Memᴰ r.number numbers
first_no_number [] [] a {r = r} f = elim f [ ]
first_no_number [] (q ∷ questions) a f = absurd a
first_no_number (n ∷ numbers) [] a {r = r} f = elim a [ ]
first_no_number (n ∷ numbers) (Err r ∷ questions) a here = Memᴰ.head a.0
first_no_number (n ∷ numbers) (Ok _ ∷ questions) a (later f) = Memᴰ.tail (first_no_number numbers questions a.1 f)

-- so what holds of each refusal by one of these numbers, and of the answer once every question is answered with yes, holds of the call
pub asked_meets : {A : Type 0} (P : A → Type 0) {refused : Refusal → A} {answer : A} (numbers : List ℕ) (questions : List Reply) → Asks numbers questions
    → ((r : Refusal) → Memᴰ r.number numbers → P (refused r)) → (AllYes questions → P answer) → P (asked questions refused answer)
asked_meets P {refused} {answer} numbers questions a f g =
    ⊎_elim (λ (y : AllYes questions). subst P (sym (all_yes_answers refused answer y)) (g y))
    (λ (n : (r : Refusal) × FirstNo questions r).
    subst P (sym (first_no_answers refused answer n.1)) (f n.0 (first_no_number numbers questions a n.1)))
    (all_yes_or_first_no questions)
