-- Sets of literals as tests: a literal that was added is in the set, whatever was in it stays, and nothing else has come.
-- Two sets with the same literals are the same.
use mathlib.Core.Path.{◌≡◌, refl, sym, fun_ext}
use mathlib.Core.Logic.{◌⊎◌, inl, inr, ⊎_elim}
use mathlib.Core.Bool.{Bool, true, false, ◌||◌, beq, false≢true}
use mathlib.Core.List.Memᴰ
use mathlib.Core.List.{List, [], ◌∷◌, Memᴰ}
use lib.Dec.{eqb}
use borrow.Author.Tests.{eq-eqb, eqb-true}
use Rattle.lists.specs.Listing.{All}
use Rattle.lists.proofs.Tests.{both}
use Rattle.paper_clauses.specs.Clauses.{Literal, literal, Clause}
use Rattle.paper_clauses.proofs.Meets.{beq_exactly}
use Rattle.paper_closure.specs.Closure.{Literals, same_literal, add, opposite, all_opposed}

-- ---- tests

pub either_way {ℓ} : {A : Type ℓ} (b : Bool) → (b ≡ true → A) → (b ≡ false → A) → A
either_way true f g = f refl
either_way false f g = g refl

pub or_cases : (x y : Bool) → x || y ≡ true → (x ≡ true) ⊎ (y ≡ true)
or_cases true y h = inl refl
or_cases false y h = inr h

pub or_left : (x y : Bool) → x ≡ true → x || y ≡ true
or_left true y h = refl
or_left false y h = absurd (false≢true h)

pub or_right : (x y : Bool) → y ≡ true → x || y ≡ true
or_right true y h = refl
or_right false y h = h

same_test : (x y : Bool) → (x ≡ true → y ≡ true) → (y ≡ true → x ≡ true) → x ≡ y
same_test true y f g = sym (f refl)
same_test false true f g = g refl
same_test false false f g = refl

pub all_in : {A : Type 0} (P : A → Type 0) (l : List A) {x : A} → All P l → Memᴰ x l → P x
all_in P [] a m = absurd (Memᴰ.not-nil m)
all_in P (y ∷ l) {x} a m = ⊎_elim (λ (e : x ≡ y). rw e a.0) (λ (t : Memᴰ x l). all_in P l a.1 t) (Memᴰ.cases_cons m)

-- ---- a literal in a set

abbrev pub In : Literals → Literal → Type 0
In S l = S l ≡ true

-- every literal of S is in X
abbrev pub Below : Literals → (Literal → Type 0) → Type 0
Below S X = (l : Literal) → In S l → X l

pub same_set : {S R : Literals} → Below S (In R) → Below R (In S) → S ≡ R
same_set {S} {R} f g = fun_ext (λ l. same_test (S l) (R l) (f l) (g l))

same_self : (l : Literal) → same_literal l l ≡ true
same_self l = rw (eq-eqb l.variable l.variable refl) ((beq_exactly l.sign l.sign).1 refl)

same_is : (l m : Literal) → same_literal l m ≡ true → l ≡ m
same_is l m e =
    let w = both (eqb l.variable m.variable) (beq l.sign m.sign) e in
    (λ i. literal ((beq_exactly l.sign m.sign).0 w.1 i) (eqb-true l.variable m.variable w.0 i))

module _ (l : Literal) (S : Literals) where
  pub added : In (add l S) l
  unfolding add
  added = or_left (same_literal l l) (S l) (same_self l)

  pub kept : Below S (In (add l S))
  unfolding add
  kept m h = or_right (same_literal l m) (S m) h

  pub add_cases : (m : Literal) → In (add l S) m → (l ≡ m) ⊎ In S m
  unfolding add
  add_cases m h = ⊎_elim (λ e. inl (same_is l m e)) (λ e. inr e) (or_cases (same_literal l m) (S m) h)

  -- what has the set and the literal has the set with it added
  pub add_below : (X : Literal → Type 0) → Below S X → X l → Below (add l S) X
  add_below X h x m i = ⊎_elim (λ (e : l ≡ m). rw (← e) x) (h m) (add_cases m i)

-- ---- all opposed

abbrev pub Opposed : (Literal → Type 0) → Clause → Type 0
Opposed X c = All (λ l. X (opposite l)) c

pub opposed_all : (S : Literals) (c : Clause) → all_opposed S c ≡ true → Opposed (In S) c
unfolding all_opposed
opposed_all S [] h = tt
opposed_all S (l ∷ c) h = let w = both (S (opposite l)) (all_opposed S c) h in (w.0, opposed_all S c w.1)

pub all_opposed_lem : (S : Literals) (c : Clause) → Opposed (In S) c → all_opposed S c ≡ true
unfolding all_opposed
all_opposed_lem S [] h = refl
all_opposed_lem S (l ∷ c) h = rw h.0 (all_opposed_lem S c h.1)
