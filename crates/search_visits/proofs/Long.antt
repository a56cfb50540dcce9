-- The long clause: its literals that are not opposed are counted up to two.
-- With two none is forced, with one that one is, with none it clashes.
use mathlib.Core.Path.{◌≡◌, refl, sym, ap, ap₂, ◌∙◌, subst}
use mathlib.Core.Bool.{true, false, true≢false, false≢true}
use mathlib.Core.List.{List, [], ◌∷◌, ◌++◌, append-nil, map, map-append, flat_map}
use Prim.Native.Nat.{ℕ, ◌+◌, ◌≤◌, ◌<◌}
use native.Mathlib.Numerals.{add-one}
use native.Mathlib.Omega.{arith}
use lib.ListN.{length}
use Rattle.lists.specs.Listing.{rows, tab, All}
use Rattle.lists.proofs.Listing.{rows_rest}
use Rattle.paper_clauses.specs.Clauses.{Literal, Clause, plain, negated}
use Rattle.paper_closure.specs.Closure.{Literals, opposite, members_in, add, members_of}
use Rattle.paper_closure.specs.Tree.{closure}
use Rattle.paper_closure.proofs.Sets.{either_way, In, added, Below, kept}
use Rattle.paper_closure.proofs.Closure.{closed_parts, closure_contains, closure_closed, closure_add, Keeps}
use Rattle.paper_closure.proofs.Open.{both_clash}
use Rattle.search_closing.specs.Values.{held_in, Trailing, Added}
use Rattle.search_closing.specs.Free.{free_of, Tally}
use Rattle.search_closing.proofs.Trail.{grown_none}
use Rattle.search_closing.proofs.Held.{held_within}
use Rattle.search_closing.proofs.Free.{first_free, two_kept, one_kept, one_forced, all_forced}
use Rattle.search_visits.specs.Visits.{Touched, Visited, long_by}
use mathlib.Core.Logic.{◌⊎◌, inl, inr, ⊎_elim}
use lib.Arith.{lt_of_le-ne}
use Rattle.paper_clauses.specs.Entries.{entry, literal_of}
use Rattle.table_gates.specs.Mentioned.{Variable}
use Rattle.search_visits.proofs.Parts.{one_closed, calm_or_touched}

-- ---- the free literals of a clause

free_join : (S : Literals) (c d : Clause) → free_of S (c ++ d) ≡ free_of S c ++ free_of S d
unfolding free_of
free_join S [] d = refl
free_join S (l ∷ c) d = either_way (S (opposite l)) (λ e. rw (e, free_join S c d)) (λ e. rw (e, free_join S c d))

module _ (R S : Literals) (b : Below R (In S)) where
  free_same : (c : Clause) → All (λ l. In S (opposite l) → In R (opposite l)) c → free_of S c ≡ free_of R c
  unfolding free_of
  free_same [] a = refl
  free_same (l ∷ c) a = either_way (R (opposite l)) (λ e. rw (e, b (opposite l) e, free_same c a.1))
      (λ e. either_way (S (opposite l)) (λ f. absurd (true≢false (sym (a.0 f) ∙ e))) (λ f. rw (e, f, free_same c a.1)))

-- ---- a clause, once they are counted

module _ {values trail : List ℕ} {top : ℕ} (t : Trailing values trail top) (c : Clause) {free : ℕ} {l : Literal} (T : Tally (free_of (held_in values) c) free l) where
  abbrev S : Literals
  S = held_in values

  abbrev X : Literal → Type 0
  X = In (closure (c ∷ []) (held_in values))

  sound : Below S X
  sound = closure_contains (c ∷ []) S

  parts : All (Keeps X) (members_of c)
  parts = (closed_parts X c [] (closure_closed (c ∷ []) S)).0

  pub tallied_clash : 0 < length c → free ≡ 0 → Visited (c ∷ []) values trail top values trail (record { clash = true; top = top })
  tallied_clash n z = record {
    grown = grown_none t;
    same = refl;
    due = λ e. absurd (true≢false e);
    clashing = λ _.
        let w = all_forced S X sound c n (T.none z) parts in
        let b = held_within values (opposite w.0) w.1 in
        both_clash (length values) _ w.0 b.0 b.1 w.2 (sound _ w.1);
  }

  pub tallied_more : (free ≡ 0 → ⊥) → (free ≡ 1 → ⊥) → Visited (c ∷ []) values trail top values trail (record { clash = false; top = top })
  unfolding members_in flat_map
  tallied_more a b = record {
    grown = grown_none t;
    same = refl;
    due = λ _. (inl (one_closed S c (two_kept S c (T.more a b))), tt);
    clashing = λ e. absurd (false≢true e);
  }

  pub tallied_one : free ≡ 1 → {v u : List ℕ} {n : ℕ} → Added l values trail top v u n → Visited (c ∷ []) values trail top v u (record { clash = false; top = n })
  tallied_one o {v} {u} {n} a = record {
    grown = a.grown;
    same = ap (closure (c ∷ [])) a.added ∙ closure_add (c ∷ []) S l (one_forced S X sound c l (T.one o) parts);
    due = λ _. (subst (λ (K : Literals). (K ≡ closure (c ∷ []) K) ⊎ Touched S K c) (sym a.added) now, tt);
    clashing = λ e. absurd (false≢true e);
  }
    where
      now : (add l S ≡ closure (c ∷ []) (add l S)) ⊎ Touched S (add l S) c
      now = ⊎_elim (λ q. inl (one_closed (add l S) c (one_kept (add l S) c l (free_same S (add l S) (kept l S) c q ∙ T.one o) (added l S)))) inr (calm_or_touched S (add l S) (kept l S) c)

-- ---- the long clause of v and n variables from w on, its first e read

long_more : (v w e : ℕ) → long_by v w e ++ plain (w + e) ∷ [] ≡ long_by v w (e + 1)
unfolding rows
long_more v w e = ap (λ (c : Clause). negated v ∷ c) (sym (rw (add-one e) (map-append plain (tab e (λ e. w + e)) ((w + e) ∷ []))))

long_rest : (v w n e : ℕ) → e ≤ n → (R : Clause) × (long_by v w e ++ R ≡ long_by v w n)
long_rest v w n e h =
    let q = rows_rest (λ (i : ℕ). (w + i) ∷ []) n e h in
    (map plain q.0, ap (λ (c : Clause). negated v ∷ c) (sym (map-append plain (tab e (λ e. w + e)) q.0) ∙ ap (map plain) q.1))

pub record Reading (values : List ℕ) (v w e free last mark : ℕ) : Type 0 where
  pub tally : Tally (free_of (held_in values) (long_by v w e)) free (literal_of (entry last mark))
  pub few : free ≤ 1
  pub within : Variable (length values) last

pub reading_none : {values : List ℕ} {v w f : ℕ} → Variable (length values) v →
    ((f ≡ 0) × (held_in values (opposite (negated v)) ≡ true)) ⊎ ((f ≡ 1) × (held_in values (opposite (negated v)) ≡ false))
    → Reading values v w 0 f v 0
unfolding free_of rows
reading_none i (inl (z, o)) = record { tally = rw (z, o) (record { none = λ _. refl; one = λ e. absurd (omega arith); more = λ a b. absurd (a refl) }); few = omega arith; within = i }
reading_none i (inr (z, o)) = record { tally = rw (z, o) (record { none = λ e. absurd (omega arith); one = λ _. refl; more = λ a b. absurd (b refl) }); few = omega arith; within = i }

free_next : (K : Literals) (v w e : ℕ) → free_of K (long_by v w (e + 1)) ≡ free_of K (long_by v w e) ++ free_of K (plain (w + e) ∷ [])
free_next K v w e = ap (free_of K) (sym (long_more v w e)) ∙ free_join K (long_by v w e) (plain (w + e) ∷ [])

one_opposed : (K : Literals) (l : Literal) → K (opposite l) ≡ true → free_of K (l ∷ []) ≡ []
unfolding free_of
one_opposed K l o = rw o

one_left : (K : Literals) (l : Literal) → K (opposite l) ≡ false → free_of K (l ∷ []) ≡ l ∷ []
unfolding free_of
one_left K l o = rw o

two : {l m : Literal} (F : List Literal) {G : List Literal} → G ≡ ((l ∷ []) ++ (m ∷ [])) ++ F → Tally G 2 l
two F e = record { none = λ e. absurd (omega arith); one = λ e. absurd (omega arith); more = λ a b. rw e (omega arith) }

only : {l : Literal} {F : List Literal} → F ≡ l ∷ [] → Tally F 1 l
only e = record { none = λ e. absurd (omega arith); one = λ _. e; more = λ a b. absurd (b refl) }

module _ {values : List ℕ} {v w e free last mark : ℕ} (r : Reading values v w e free last mark) where
  abbrev K : Literals
  K = held_in values

  pub reading_same : K (opposite (plain (w + e))) ≡ true → Reading values v w (e + 1) free last mark
  reading_same o = record {
    tally = subst (λ (F : List Literal). Tally F free (literal_of (entry last mark)))
        (sym (free_next K v w e ∙ ap (λ (F : List Literal). free_of K (long_by v w e) ++ F) (one_opposed K (plain (w + e)) o) ∙ append-nil _)) r.tally;
    few = r.few;
    within = r.within;
  }

  module _ (o : K (opposite (plain (w + e))) ≡ false) where
    pub reading_first : (free ≡ 1 → ⊥) → Variable (length values) (w + e) → Reading values v w (e + 1) 1 (w + e) 1
    reading_first z i = record {
      tally = only (free_next K v w e ∙ ap₂ ◌++◌ (r.tally.none (lt_one r.few z)) (one_left K (plain (w + e)) o));
      few = omega arith;
      within = i;
    }
      where
        lt_one : free ≤ 1 → (free ≡ 1 → ⊥) → free ≡ 0
        lt_one h z = omega (arith, lt_of_le-ne h z)

    pub reading_two : free ≡ 1 → (n : ℕ) → e < n → Tally (free_of K (long_by v w n)) 2 (literal_of (entry last mark))
    reading_two z n h =
        let q = long_rest v w n (e + 1) (omega arith) in
        two {m = plain (w + e)} (free_of K q.0) (ap (free_of K) (sym q.1) ∙ free_join K (long_by v w (e + 1)) q.0
        ∙ ap (λ (F : List Literal). F ++ free_of K q.0) (free_next K v w e ∙ ap₂ ◌++◌ (r.tally.one z) (one_left K (plain (w + e)) o)))

pub reading_all : {values : List ℕ} {v w e free last mark : ℕ} (n : ℕ) → e ≤ n → n ≤ e → Reading values v w e free last mark → Reading values v w n free last mark
reading_all {values} {v} {w} {e} {free} {last} {mark} n h k r = let q : e ≡ n = omega arith in subst (λ (m : ℕ). Reading values v w m free last mark) q r

pub reading_free : {values : List ℕ} {v w e free last mark : ℕ} → Reading values v w e free last mark → free ≡ 1 → held_in values (opposite (literal_of (entry last mark))) ≡ false
reading_free {values} {v} {w} {e} r o = first_free (held_in values) (long_by v w e) _ (r.tally.one o)

pub reading_moved : {values : List ℕ} {v w e free last mark f l m : ℕ} → f ≡ free → l ≡ last → m ≡ mark → Reading values v w e free last mark → Reading values v w e f l m
reading_moved {values} {v} {w} {e} p q s r = rw (p, q, s) r
