-- Where the fellows of a clause's member are all opposed, nothing else of the clause is free. So with two free literals no member is forced,
-- with one free literal that one is, and with none each is, while it is opposed too.
use mathlib.Core.Path.{◌≡◌, refl, sym, ◌∙◌}
use mathlib.Core.Bool.{false}
use mathlib.Core.List.{List, [], ◌∷◌}
use Prim.Native.Nat.{ℕ, ◌≤◌, ◌<◌}
use native.Mathlib.Omega.{arith}
use lib.ListN.{length}
use Rattle.lists.specs.Listing.{All}
use Rattle.lists.proofs.Lists.{all_map, all_mapped, unmapped}
use Rattle.paper_clauses.specs.Clauses.{Literal, Clause}
use Rattle.paper_closure.specs.Closure.{Literals, opposite, members_of}
use Rattle.paper_closure.proofs.Sets.{either_way, In, Below, Opposed}
use Rattle.paper_closure.proofs.Closure.{Keeps}
use Rattle.search_closing.specs.Free.{free_of}

-- ---- the literals that are free

filled : {l : Literal} {F : List Literal} → l ∷ F ≡ [] → ⊥
filled e = let z : ◌≡◌ {A = ℕ} 0 1 = cc in omega arith

module _ (S : Literals) where
  none_free : (c : Clause) → free_of S c ≡ [] → Opposed (In S) c
  unfolding free_of
  none_free [] e = tt
  none_free (l ∷ c) e = either_way (S (opposite l)) (λ o. (o, none_free c (rw o at e))) (λ o. absurd (filled (rw o at e)))

  opposed_none : (c : Clause) → Opposed (In S) c → free_of S c ≡ []
  unfolding free_of
  opposed_none [] o = refl
  opposed_none (l ∷ c) o = rw o.0 (opposed_none c o.1)

  pub first_free : (c : Clause) (l : Literal) {F : List Literal} → free_of S c ≡ l ∷ F → S (opposite l) ≡ false
  unfolding free_of
  first_free [] l e = absurd (filled (sym e))
  first_free (m ∷ c) l e =
      either_way (S (opposite m)) (λ o. first_free c l (rw o at e)) (λ o. let f = rw o at e in let s : m ≡ l = cc in rw (← s) o)

  -- nothing else is free
  alone : (c : Clause) → All (λ m. Opposed (In S) m.fellows → free_of S c ≡ free_of S (m.self ∷ [])) (members_of c)
  unfolding members_of free_of
  alone [] = tt
  alone (l ∷ c) = (λ o. rw (opposed_none c o), all_mapped _ _ _ (members_of c) (λ m h o. rw o.0 (h o.1)) (alone c))

  pub two_kept : (c : Clause) → 2 ≤ length (free_of S c) → All (Keeps (In S)) (members_of c)
  unfolding free_of
  two_kept c h = all_map _ _ (λ m f o. absurd (few m.self (rw (f o) at h))) (members_of c) (alone c)
    where
      few : (l : Literal) → 2 ≤ length (free_of S (l ∷ [])) → ⊥
      few l h = either_way (S (opposite l)) (λ e. let g = rw e at h in omega arith) (λ e. let g = rw e at h in omega arith)

  pub one_kept : (c : Clause) (l : Literal) → free_of S c ≡ l ∷ [] → In S l → All (Keeps (In S)) (members_of c)
  unfolding free_of
  one_kept c l e i = all_map _ _ (λ m f o. only m.self (sym (f o) ∙ e)) (members_of c) (alone c)
    where
      only : (k : Literal) → free_of S (k ∷ []) ≡ l ∷ [] → In S k
      only k f = either_way (S (opposite k)) (λ o. absurd (filled (sym (rw o at f)))) (λ o. let g = rw o at f in let s : k ≡ l = cc in rw s i)

  module _ (X : Literal → Type 0) (h : Below S X) where
    opposed_in : (c : Clause) → free_of S c ≡ [] → Opposed X c
    opposed_in c e = all_map _ _ (λ l o. h _ o) c (none_free c e)

    pub one_forced : (c : Clause) (l : Literal) → free_of S c ≡ l ∷ [] → All (Keeps X) (members_of c) → X l
    unfolding members_of free_of
    one_forced [] l e a = absurd (filled (sym e))
    one_forced (m ∷ c) l e a =
        either_way (S (opposite m)) (λ o. one_forced c l (rw o at e) (unmapped _ _ _ (λ k f p. f (h _ o, p)) (members_of c) a.1))
        (λ o. let f = rw o at e in let s : m ≡ l = cc in let g : free_of S c ≡ [] = cc in rw (← s) (a.0 (opposed_in c g)))

    pub all_forced : (c : Clause) → 0 < length c → free_of S c ≡ [] → All (Keeps X) (members_of c) → (l : Literal) × In S (opposite l) × X l
    unfolding members_of
    all_forced [] n e a = absurd (omega arith)
    all_forced (l ∷ c) n e a = let o = none_free (l ∷ c) e in (l, o.0, a.0 (all_map _ _ (λ m i. h _ i) c o.1))
