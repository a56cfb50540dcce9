-- A part of a table, and parts one after another: what grew by literals of a part's closure grew by literals of the whole's; a clause that
-- was closed stays so until one of its literals is newly opposed; and where nothing is new, all are closed.
use mathlib.Core.Path.{◌≡◌, refl, sym, ap₂, ◌∙◌, subst}
use mathlib.Core.Logic.{◌⊎◌, inl, inr, ⊎_elim}
use mathlib.Core.Bool.{Bool, true, false, ◌&&◌, true≢false, false≢true}
use mathlib.Core.List.{List, [], ◌∷◌, ◌++◌, flat_map}
use Prim.Native.Nat.{ℕ, zero, suc, ◌-◌}
use lib.ListN.{length, get_or, set}
use Rattle.lists.proofs.Tests.{both}
use Rattle.paper_meaning.proofs.Laws.{some_one}
use Rattle.lists.specs.Listing.{All}
use Rattle.lists.proofs.Lists.{all_append, flat_append, all_mapped}
use Rattle.paper_clauses.specs.Clauses.{Literal, Clause, plain, negated}
use Rattle.paper_closure.specs.Closure.{Literals, opposite, Member, members_of, members_in}
use Rattle.paper_closure.specs.Tree.{closure}
use Rattle.paper_closure.specs.Runs.{clashes}
use Rattle.paper_closure.proofs.Sets.{either_way, In, Below, Opposed, same_set}
use Rattle.paper_closure.proofs.Closure.{Keeps, Closed, closed_parts, closed_whole, closure_contains, closure_closed, closure_least, closed_same}
use Rattle.paper_closure.proofs.Gates.{closed_split}
use Rattle.search_closing.specs.Values.{held_in, undone, Trailing, Grown, value_for, held}
use Rattle.search_closing.specs.declared.Closed.{Closed as Ended}
use Rattle.search_closing.proofs.Trail.{grown_none, grown_length, grown_more}
use lib.Dec.{eqb}
use Rattle.search_patterns.specs.Patterns.{Settled}
use Rattle.search_visits.specs.Visits.{Touched, Due, Visited}

-- ---- parts

abbrev pub Part : List Clause → List Clause → Type 0
Part P T = (S : Literals) → Closed T (In S) → Closed P (In S)

pub part_first : (P Q : List Clause) → Part P (P ++ Q)
part_first P Q S c = (closed_split (In S) P Q c).0

pub part_next : (P Q : List Clause) → Part Q (P ++ Q)
part_next P Q S c = (closed_split (In S) P Q c).1

pub closed_join : (X : Literal → Type 0) (P Q : List Clause) → Closed P X → Closed Q X → Closed (P ++ Q) X
unfolding members_in
closed_join X P Q a b = rw (flat_append members_of P Q) (all_append (Keeps X) (members_in P) (members_in Q) a b)

clash_more : (n : ℕ) (S R : Literals) → Below S (In R) → clashes n S ≡ true → clashes n R ≡ true
unfolding clashes
clash_more n S R b e =
    let o = (some_one (λ v. S (plain v) && S (negated v)) 1 n).0 e in
    let w = both (S (plain o.0)) (S (negated o.0)) o.3 in
    (some_one (λ v. R (plain v) && R (negated v)) 1 n).1 (o.0, o.1, o.2, rw (b (plain o.0) w.0, b (negated o.0) w.1))

module _ (P T : List Clause) (part : Part P T) where
  part_below : (S : Literals) → Below (closure P S) (In (closure T S))
  part_below S = closure_least P S (In (closure T S)) (part (closure T S) (closure_closed T S)) (closure_contains T S)

  pub part_same : (R S : Literals) → closure P R ≡ closure P S → closure T R ≡ closure T S
  part_same R S e =
      same_set (closure_least T R (In (closure T S)) (closure_closed T S) (λ l i. part_below S l (subst (λ (K : Literals). In K l) e (closure_contains P R l i))))
      (closure_least T S (In (closure T R)) (closure_closed T R) (λ l i. part_below R l (subst (λ (K : Literals). In K l) (sym e) (closure_contains P S l i))))

  pub part_clash : (n : ℕ) (S : Literals) → clashes n (closure P S) ≡ true → clashes n (closure T S) ≡ true
  part_clash n S e = clash_more n (closure P S) (closure T S) (part_below S) e

-- ---- what is due

closed_one : (S : Literals) (c : Clause) → S ≡ closure (c ∷ []) S → All (Keeps (In S)) (members_of c)
closed_one S c e = subst (λ (K : Literals). All (Keeps (In K)) (members_of c)) (sym e) (closed_parts (In (closure (c ∷ []) S)) c [] (closure_closed (c ∷ []) S)).0

pub one_closed : (S : Literals) (c : Clause) → All (Keeps (In S)) (members_of c) → S ≡ closure (c ∷ []) S
unfolding members_in flat_map
one_closed S c a = closed_same (c ∷ []) S (closed_whole (In S) c [] a tt)

pub due_closed : (R S : Literals) (T : List Clause) → Closed T (In S) → Due R S T
due_closed R S [] a = tt
due_closed R S (c ∷ T) a = let w = closed_parts (In S) c T a in (inl (one_closed S c w.0), due_closed R S T w.1)

touched_none : (S : Literals) (c : Clause) → Touched S S c → ⊥
touched_none S [] t = t
touched_none S (l ∷ c) (inl w) = true≢false (sym w.0 ∙ w.1)
touched_none S (l ∷ c) (inr t) = touched_none S c t

pub due_none : (S : Literals) (T : List Clause) → Due S S T → Closed T (In S)
unfolding members_in flat_map
due_none S [] d = tt
due_none S (c ∷ T) d = closed_whole (In S) c T (⊎_elim (λ e. closed_one S c e) (λ t. absurd (touched_none S c t)) d.0) (due_none S T d.1)

pub due_join : (R S : Literals) (P Q : List Clause) → Due R S P → Due R S Q → Due R S (P ++ Q)
due_join R S [] Q d e = e
due_join R S (c ∷ P) Q d e = (d.0, due_join R S P Q d.1 e)

-- a clause, once the set has grown from R to S
module _ (R S : Literals) (b : Below R (In S)) where
  -- no literal of it is newly opposed, or one is
  pub calm_or_touched : (c : Clause) → All (λ l. In S (opposite l) → In R (opposite l)) c ⊎ Touched R S c
  calm_or_touched [] = inl tt
  calm_or_touched (l ∷ c) = go (calm_or_touched c)
    where
      go : All (λ l. In S (opposite l) → In R (opposite l)) c ⊎ Touched R S c → All (λ l. In S (opposite l) → In R (opposite l)) (l ∷ c) ⊎ Touched R S (l ∷ c)
      go (inr t) = inr (inr t)
      go (inl a) = either_way (S (opposite l))
          (λ e. either_way (R (opposite l)) (λ f. inl ((λ _. f), a)) (λ f. inr (inl (e, f)))) (λ e. inl ((λ g. absurd (true≢false (sym g ∙ e))), a))

  -- then what held of each member still holds
  abbrev Calm : Literal → Type 0
  Calm l = In S (opposite l) → In R (opposite l)

  fellows_calm : (c : Clause) → All Calm c → All (λ m. All Calm m.fellows) (members_of c)
  unfolding members_of
  fellows_calm [] a = tt
  fellows_calm (l ∷ c) a = (a.1, all_mapped _ _ _ (members_of c) (λ m h. (a.0, h)) (fellows_calm c a.1))

  opposed_back : (c : Clause) → All Calm c → Opposed (In S) c → Opposed (In R) c
  opposed_back [] a o = tt
  opposed_back (l ∷ c) a o = (a.0 o.0, opposed_back c a.1 o.1)

  zipped : (ms : List Member) → All (λ m. All Calm m.fellows) ms → All (Keeps (In R)) ms → All (Keeps (In S)) ms
  zipped [] a k = tt
  zipped (m ∷ ms) a k = ((λ o. b m.self (k.0 (opposed_back m.fellows a.0 o))), zipped ms a.1 k.1)

  still_closed : (c : Clause) → R ≡ closure (c ∷ []) R → (S ≡ closure (c ∷ []) S) ⊎ Touched R S c
  still_closed c e = ⊎_elim (λ a. inl (one_closed S c (zipped (members_of c) (fellows_calm c a) (closed_one R c e)))) inr (calm_or_touched c)

-- grown from Q over R to S
module _ (Q R S : Literals) (a : Below Q (In R)) (b : Below R (In S)) where
  touched_still : (c : Clause) → Touched Q R c → Touched Q S c
  touched_still [] t = t
  touched_still (l ∷ c) (inl w) = inl (b (opposite l) w.0, w.1)
  touched_still (l ∷ c) (inr t) = inr (touched_still c t)

  pub touched_before : (c : Clause) → Touched R S c → Touched Q S c
  touched_before [] t = t
  touched_before (l ∷ c) (inl w) = inl (w.0, either_way (Q (opposite l)) (λ e. absurd (true≢false (sym (a (opposite l) e) ∙ w.1))) (λ e. e))
  touched_before (l ∷ c) (inr t) = inr (touched_before c t)

  pub due_still : (T : List Clause) → Due Q R T → Due Q S T
  due_still [] d = tt
  due_still (c ∷ T) d = (⊎_elim (λ e. ⊎_elim inl (λ t. inr (touched_before c t)) (still_closed R S b c e)) (λ t. inr (touched_still c t)) d.0, due_still T d.1)

  pub due_before : (T : List Clause) → Due R S T → Due Q S T
  due_before [] d = tt
  due_before (c ∷ T) d = (⊎_elim inl (λ t. inr (touched_before c t)) d.0, due_before T d.1)

-- ---- values that have grown

set_either : (vs : List ℕ) (x y : ℕ) → (get_or (set vs x 0) y 0 ≡ 0) ⊎ (get_or (set vs x 0) y 0 ≡ get_or vs y 0)
set_either [] x y = inr refl
set_either (z ∷ vs) zero zero = inl refl
set_either (z ∷ vs) zero (suc y) = inr refl
set_either (z ∷ vs) (suc x) zero = inr refl
set_either (z ∷ vs) (suc x) (suc y) = set_either vs x y

set_below : (vs : List ℕ) (x : ℕ) → Below (held_in (set vs x 0)) (In (held_in vs))
unfolding held_in
set_below vs x l i = go l.variable l.sign i
  where
    nothing_there : (u : Bool) → eqb 0 (value_for u) ≡ true → ⊥
    nothing_there true e = false≢true e
    nothing_there false e = false≢true e

    go : (v : ℕ) (u : Bool) → held (set vs x 0) u v ≡ true → held vs u v ≡ true
    go zero u h = h
    go (suc y) u h = ⊎_elim (λ e. absurd (nothing_there u (rw e at h))) (λ e. rw (← e) h) (set_either vs x y)

undone_below : (trail : List ℕ) (at n : ℕ) (values : List ℕ) → Below (held_in (undone trail at n values)) (In (held_in values))
unfolding undone
undone_below trail at zero values l i = i
undone_below trail at (suc n) values l i = undone_below trail (suc at) n values l (set_below (undone trail (suc at) n values) (get_or trail at 0 - 1) l i)

pub grown_below : {v₀ t₀ values trail : List ℕ} {top₀ top : ℕ} → Grown v₀ t₀ top₀ values trail top → Below (held_in v₀) (In (held_in values))
grown_below {values = values} {trail} {top₀} {top} g l i = undone_below trail top₀ (top - top₀) values l (subst (λ (v : List ℕ). In (held_in v) l) (sym g.back) i)

-- ---- visits

pub visited_none : {values trail : List ℕ} {top : ℕ} → Trailing values trail top → Visited [] values trail top values trail (record { clash = false; top = top })
visited_none t = record { grown = grown_none t; same = refl; due = λ _. tt; clashing = λ e. absurd (false≢true e) }

module _ {T : List Clause} {v₀ t₀ values trail : List ℕ} {top₀ : ℕ} {r : Ended} where
  pub settled_visited : Settled T v₀ t₀ top₀ values trail r → Visited T v₀ t₀ top₀ values trail r
  settled_visited s = record {
    grown = s.grown;
    same = s.same;
    due = λ e. due_closed (held_in v₀) (held_in values) T (subst (λ (K : Literals). Closed T (In K)) (sym (s.calm e)) (closure_closed T (held_in values)));
    clashing = s.clashing;
  }

  pub visited_named : {P : List Clause} → T ≡ P → Visited T v₀ t₀ top₀ values trail r → Visited P v₀ t₀ top₀ values trail r
  visited_named e w = subst (λ (P : List Clause). Visited P v₀ t₀ top₀ values trail r) e w

module _ {P : List Clause} {v₀ t₀ v₁ t₁ : List ℕ} {top₀ : ℕ} {r : Ended} (w : Visited P v₀ t₀ top₀ v₁ t₁ r) (Q : List Clause) where
  pub visited_stop : r.clash ≡ true → Visited (P ++ Q) v₀ t₀ top₀ v₁ t₁ r
  visited_stop e = record {
    grown = w.grown;
    same = part_same P (P ++ Q) (part_first P Q) _ _ w.same;
    due = λ f. absurd (true≢false (sym e ∙ f));
    clashing = λ f. part_clash P (P ++ Q) (part_first P Q) _ _ (w.clashing f);
  }

  pub visited_then : {v₂ t₂ : List ℕ} {s : Ended} → r.clash ≡ false → Visited Q v₁ t₁ r.top v₂ t₂ s → Visited (P ++ Q) v₀ t₀ top₀ v₂ t₂ s
  visited_then {v₂} e u = record {
    grown = grown_more w.grown u.grown;
    same = part_same Q (P ++ Q) (part_next P Q) _ _ u.same ∙ part_same P (P ++ Q) (part_first P Q) _ _ w.same;
    due = λ f. due_join (held_in v₀) (held_in v₂) P Q
        (due_still (held_in v₀) (held_in v₁) (held_in v₂) (grown_below w.grown) (grown_below u.grown) P (w.due e))
        (due_before (held_in v₀) (held_in v₁) (held_in v₂) (grown_below w.grown) (grown_below u.grown) Q (u.due f));
    clashing = λ f. ap₂ clashes (sym (grown_length w.grown)) (sym (part_same P (P ++ Q) (part_first P Q) _ _ w.same))
        ∙ part_clash Q (P ++ Q) (part_next P Q) (length v₁) (held_in v₁) (u.clashing f);
  }
