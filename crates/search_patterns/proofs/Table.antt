-- The tables of what is forced first, compared at each gate and each four values with what the clauses force:
-- one computation for each gate.
use mathlib.Core.Path.{◌≡◌, refl, sym, ap, ◌∙◌, subst}
use mathlib.Core.Bool.{Bool, true, false, cond, not, ◌&&◌, ◌||◌}
use mathlib.Core.List.{List, [], ◌∷◌, flat_map}
use Prim.Native.Nat.{ℕ, zero, suc, ◌+◌, ◌*◌, ◌/◌, ◌%◌, ◌^◌, ◌≤◌, ◌<◌}
use native.Mathlib.Omega.{arith}
use native.Mathlib.Nat.{eq-or-lt_of_le}
use mathlib.Core.Logic.{⊎_elim}
use lib.Dec.{eqb, leb}
use lib.ListN.{get_or}
use borrow.Author.Tests.{eqb-true, leb-true}
use Rattle.lists.proofs.Tests.{both}
use Rattle.paper_clauses.specs.Clauses.{clauses_of}
use Rattle.paper_closure.specs.Closure.{all_opposed, members_of, members_in}
use Rattle.paper_closure.specs.Tree.{first_forced}
use Rattle.paper_closure.proofs.Sets.{or_cases}
use Rattle.search_closing.specs.Values.{held_in}
use Rattle.search_patterns.specs.Patterns.{pattern_of, forced_by, Quiets}
use Rattle.search_patterns.specs.declared.Pattern.{Pattern}
use Rattle.search_patterns.specs.declared.Pattern.TheVariants.{Copy, Inverse, Both, Either, Step, Low, High, Raised}

-- the tables of the code
unfoldable pub table_for : Pattern → List ℕ
table_for Copy = 0 ∷ 7 ∷ 6 ∷ 5 ∷ 0 ∷ 5 ∷ 4 ∷ 4 ∷ 0 ∷ 0 ∷ 7 ∷ 6 ∷ 5 ∷ 0 ∷ 5 ∷ 4 ∷ 4 ∷ 0 ∷ 0 ∷ 7 ∷ 6 ∷ 5 ∷ 0 ∷ 5 ∷ 4 ∷ 4 ∷ 0 ∷ []
table_for Inverse = 0 ∷ 6 ∷ 7 ∷ 4 ∷ 4 ∷ 0 ∷ 5 ∷ 0 ∷ 5 ∷ 0 ∷ 6 ∷ 7 ∷ 4 ∷ 4 ∷ 0 ∷ 5 ∷ 0 ∷ 5 ∷ 0 ∷ 6 ∷ 7 ∷ 4 ∷ 4 ∷ 0 ∷ 5 ∷ 0 ∷ 5 ∷ []
table_for Both = 0 ∷ 7 ∷ 0 ∷ 0 ∷ 9 ∷ 8 ∷ 4 ∷ 4 ∷ 0 ∷ 0 ∷ 7 ∷ 6 ∷ 5 ∷ 0 ∷ 5 ∷ 4 ∷ 4 ∷ 0 ∷ 4 ∷ 7 ∷ 0 ∷ 4 ∷ 4 ∷ 0 ∷ 4 ∷ 4 ∷ 0 ∷ []
table_for Either = 0 ∷ 0 ∷ 6 ∷ 5 ∷ 0 ∷ 5 ∷ 0 ∷ 9 ∷ 8 ∷ 5 ∷ 0 ∷ 6 ∷ 5 ∷ 0 ∷ 5 ∷ 5 ∷ 0 ∷ 5 ∷ 0 ∷ 7 ∷ 6 ∷ 5 ∷ 0 ∷ 5 ∷ 4 ∷ 4 ∷ 0 ∷ []
table_for Step =
    0 ∷ 0 ∷ 6 ∷ 5 ∷ 0 ∷ 5 ∷ 0 ∷ 9 ∷ 0 ∷ 0 ∷ 0 ∷ 6 ∷ 5 ∷ 0 ∷ 5 ∷ 0 ∷ 11 ∷ 10 ∷ 0 ∷ 7 ∷ 6 ∷ 5 ∷ 0 ∷ 5 ∷ 4 ∷
    4 ∷ 0 ∷ 0 ∷ 0 ∷ 6 ∷ 5 ∷ 0 ∷ 5 ∷ 0 ∷ 9 ∷ 8 ∷ 5 ∷ 0 ∷ 6 ∷ 5 ∷ 0 ∷ 5 ∷ 5 ∷ 0 ∷ 5 ∷ 0 ∷ 7 ∷ 6 ∷ 5 ∷ 0 ∷
    5 ∷ 4 ∷ 4 ∷ 0 ∷ 0 ∷ 7 ∷ 6 ∷ 5 ∷ 0 ∷ 5 ∷ 4 ∷ 9 ∷ 0 ∷ 0 ∷ 7 ∷ 6 ∷ 5 ∷ 0 ∷ 5 ∷ 4 ∷ 4 ∷ 0 ∷ 0 ∷ 7 ∷
    6 ∷ 5 ∷ 0 ∷ 5 ∷ 4 ∷ 4 ∷ 0 ∷ []
table_for Low = 4 ∷ 4 ∷ 0 ∷ 4 ∷ 4 ∷ 0 ∷ 4 ∷ 4 ∷ 0 ∷ 4 ∷ 4 ∷ 0 ∷ 4 ∷ 4 ∷ 0 ∷ 4 ∷ 4 ∷ 0 ∷ 4 ∷ 4 ∷ 0 ∷ 4 ∷ 4 ∷ 0 ∷ 4 ∷ 4 ∷ 0 ∷ []
table_for High = 5 ∷ 0 ∷ 5 ∷ 5 ∷ 0 ∷ 5 ∷ 5 ∷ 0 ∷ 5 ∷ 5 ∷ 0 ∷ 5 ∷ 5 ∷ 0 ∷ 5 ∷ 5 ∷ 0 ∷ 5 ∷ 5 ∷ 0 ∷ 5 ∷ 5 ∷ 0 ∷ 5 ∷ 5 ∷ 0 ∷ 5 ∷ []
table_for Raised = 0 ∷ 0 ∷ 6 ∷ 5 ∷ 0 ∷ 5 ∷ 0 ∷ 0 ∷ 0 ∷ 0 ∷ 0 ∷ 6 ∷ 5 ∷ 0 ∷ 5 ∷ 0 ∷ 0 ∷ 0 ∷ 0 ∷ 0 ∷ 6 ∷ 5 ∷ 0 ∷ 5 ∷ 0 ∷ 0 ∷ 0 ∷ []

-- a test of 0 to n - 1
abbrev every : ℕ → (ℕ → Bool) → Bool
every zero f = true
every (suc n) f = f n && every n f

at : (n : ℕ) (f : ℕ → Bool) → every n f ≡ true → (i : ℕ) → i < n → f i ≡ true
at zero f e i h = absurd (omega arith)
at (suc n) f e i h =
    let w = both (f n) (every n f) e in
    ⊎_elim (λ (q : suc i ≡ suc n). let p : i ≡ n = omega arith in rw p w.0) (λ (q : suc i < suc n). at n f w.1 i (omega arith))
    (eq-or-lt_of_le h)

-- a test of four values
abbrev fours : (ℕ → ℕ → ℕ → ℕ → Bool) → Bool
fours f = every 3 (λ a. every 3 (λ b. every 3 (λ c. every 3 (λ d. f a b c d))))

at_four : (f : ℕ → ℕ → ℕ → ℕ → Bool) → fours f ≡ true → (a b c d : ℕ) → a ≤ 2 → b ≤ 2 → c ≤ 2 → d ≤ 2 → f a b c d ≡ true
at_four f t a b c d ha hb hc hd =
    at 3 (λ d. f a b c d) (at 3 (λ c. every 3 (λ d. f a b c d)) (at 3 (λ b. every 3 (λ c. every 3 (λ d. f a b c d)))
    (at 3 (λ a. every 3 (λ b. every 3 (λ c. every 3 (λ d. f a b c d)))) t a (omega arith)) b (omega arith)) c (omega arith)) d (omega arith)

-- only a step has a fourth variable
abbrev pub has_fourth : Pattern → Bool
has_fourth Copy = false
has_fourth Inverse = false
has_fourth Both = false
has_fourth Either = false
has_fourth Step = true
has_fourth Low = false
has_fourth High = false
has_fourth Raised = false

abbrev entry_of : Pattern → ℕ → ℕ → ℕ → ℕ → ℕ
entry_of g a b c d = get_or (table_for g) (a + 3 * b + 9 * c + 27 * cond (has_fourth g) d 0) 0

abbrev fair : ℕ → Bool
fair e = leb e 11 && (eqb e 0 || leb 4 e)

abbrev right : Pattern → ℕ → ℕ → ℕ → ℕ → Bool
right g a b c d = eqb (entry_of g a b c d) (forced_by g a b c d) && fair (entry_of g a b c d)

all_right : (g : Pattern) → fours (right g) ≡ true
unfolding table_for forced_by pattern_of clauses_of members_in members_of flat_map first_forced all_opposed held_in
all_right Copy = refl
all_right Inverse = refl
all_right Both = refl
all_right Either = refl
all_right Step = refl
all_right Low = refl
all_right High = refl
all_right Raised = refl

module _ (g : Pattern) (a b c d : ℕ) (ha : a ≤ 2) (hb : b ≤ 2) (hc : c ≤ 2) (hd : d ≤ 2) where
  here : right g a b c d ≡ true
  here = at_four (right g) (all_right g) a b c d ha hb hc hd

  found : (entry_of g a b c d ≡ forced_by g a b c d) × (entry_of g a b c d ≤ 11) × ((entry_of g a b c d ≡ 0 → ⊥) → 4 ≤ entry_of g a b c d)
  found =
      let w = both (eqb (entry_of g a b c d) (forced_by g a b c d)) (fair (entry_of g a b c d)) here in
      let u = both (leb (entry_of g a b c d) 11) (eqb (entry_of g a b c d) 0 || leb 4 (entry_of g a b c d)) w.1 in
      (eqb-true _ _ w.0, leb-true _ _ u.0, λ n. ⊎_elim (λ h. absurd (n (eqb-true _ _ h))) (leb-true _ _) (or_cases (eqb (entry_of g a b c d) 0) (leb 4 (entry_of g a b c d)) u.1))

  -- by the code's gate and place
  abbrev Says : Pattern → ℕ → Type 0
  Says gate x = let e = get_or (table_for g) x 0 in (e ≡ forced_by gate a b c d) × (e ≤ 11) × ((e ≡ 0 → ⊥) → 4 ≤ e)

  pub forced_three : {gate : Pattern} {p q r : ℕ} → gate ≡ g → has_fourth g ≡ false → p ≡ a → q ≡ b → r ≡ c → Says gate (p + 3 * q + 9 * r)
  forced_three {gate} {p} {q} {r} e f i j k =
      let x : a + 3 * b + 9 * c + 27 * cond (has_fourth g) d 0 ≡ p + 3 * q + 9 * r = ap (λ (s : Bool). a + 3 * b + 9 * c + 27 * cond s d 0) f ∙ omega (arith, i, j, k) in
      subst (λ (h : Pattern). Says h (p + 3 * q + 9 * r)) (sym e) (subst (Says g) x found)

  pub forced_four : {gate : Pattern} {p q r s : ℕ} → gate ≡ g → has_fourth g ≡ true → p ≡ a → q ≡ b → r ≡ c → s ≡ d → Says gate (p + 3 * q + 9 * r + 27 * s)
  forced_four {gate} {p} {q} {r} {s} e f i j k l =
      let x : a + 3 * b + 9 * c + 27 * cond (has_fourth g) d 0 ≡ p + 3 * q + 9 * r + 27 * s = ap (λ (s : Bool). a + 3 * b + 9 * c + 27 * cond s d 0) f ∙ omega (arith, i, j, k, l) in
      subst (λ (h : Pattern). Says h (p + 3 * q + 9 * r + 27 * s)) (sym e) (subst (Says g) x found)

-- ---- where nothing is forced, by the bits

abbrev quiet : ℕ → ℕ → Bool
quiet m i = eqb (m / 2 ^ i % 2) 1

-- a bit says so only where it is so
abbrev honest : ℕ → ℕ → ℕ → Bool
honest m i e = not (quiet m i) || eqb e 0

by_honest : (m i e : ℕ) → honest m i e ≡ true → quiet m i ≡ true → e ≡ 0
by_honest m i e h q = eqb-true e 0 (sym (ap (λ (b : Bool). not b || eqb e 0) q) ∙ h)

-- bits for a gate, or for each value of its fourth variable: tried at each four values
abbrev tried : (ℕ → ℕ) → Pattern → Bool
tried f g = fours (λ a b c d. honest (f d) (a + 3 * b + 9 * c) (forced_by g a b c d))

by_tried : (f : ℕ → ℕ) (g : Pattern) → tried f g ≡ true → (a b c d : ℕ) → a ≤ 2 → b ≤ 2 → c ≤ 2 → d ≤ 2 →
    quiet (f d) (a + 3 * b + 9 * c) ≡ true → forced_by g a b c d ≡ 0
by_tried f g t a b c d ha hb hc hd =
    by_honest (f d) (a + 3 * b + 9 * c) (forced_by g a b c d) (at_four (λ a b c d. honest (f d) (a + 3 * b + 9 * c) (forced_by g a b c d)) t a b c d ha hb hc hd)

abbrev pub bits_of : Pattern → ℕ
bits_of Copy = 71705361
bits_of Inverse = 42287777
bits_of Both = 76686093
bits_of Either = 71640147
bits_of Step = 71573521
bits_of Low = 76695844
bits_of High = 38347922
bits_of Raised = 122660819

all_honest : (g : Pattern) → tried (λ d. bits_of g) g ≡ true
unfolding forced_by pattern_of clauses_of members_in members_of flat_map first_forced all_opposed held_in
all_honest Copy = refl
all_honest Inverse = refl
all_honest Both = refl
all_honest Either = refl
all_honest Step = refl
all_honest Low = refl
all_honest High = refl
all_honest Raised = refl

pub gate_quiets : (g : Pattern) {gate : Pattern} {m : ℕ} → gate ≡ g → m ≡ bits_of g → Quiets gate m
gate_quiets g e f = rw (e, f) (by_tried (λ d. bits_of g) g (all_honest g))

abbrev pub step_mask : ℕ → ℕ
step_mask d = get_or (71608147 ∷ 71640147 ∷ 71705361 ∷ []) d 0

step_honest : tried step_mask Step ≡ true
unfolding forced_by pattern_of clauses_of members_in members_of flat_map first_forced all_opposed held_in
step_honest = refl

pub step_bit : (a b c : ℕ) → a ≤ 2 → b ≤ 2 → c ≤ 2 → (d : ℕ) → d ≤ 2 → {p q r m : ℕ} → p ≡ a → q ≡ b → r ≡ c →
    m ≡ step_mask d → quiet m (p + 3 * q + 9 * r) ≡ true → forced_by Step a b c d ≡ 0
step_bit a b c ha hb hc d hd i j k l q = by_tried step_mask Step step_honest a b c d ha hb hc hd (rw (i, j, k, l) at q)
