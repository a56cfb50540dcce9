-- A search ends in one of three ways, by N and the limit and then by the tree's outcome; each way fixes the answer, its count and what is
-- written, and no answer belongs to two of them.
use mathlib.Core.Path.{◌≡◌, refl, sym, subst}
use mathlib.Core.Logic.{◌↔◌, ◌≢◌}
use mathlib.Core.Bool.{Bool, true, false, cond}
use mathlib.Core.List.{List}
use Prim.Native.Nat.{ℕ, ◌≤◌, ◌<◌, min}
use native.Mathlib.Nat.{min-eq_left, min-eq_right}
use native.Mathlib.Omega.{arith}
use lib.Dec.{leb}
use borrow.Author.Tests.{leb-true, leb-false}
use Rattle.std.specs.Prelude.{Result, Ok, Err}
use Rattle.refusal.specs.declared.Refusal.{Refusal}
use Rattle.paper_grammar.specs.Trees.{Tree, Letters}
use Rattle.paper_grammar.specs.declared.Sort.TheVariants.{Formula}
use Rattle.moments.specs.Moments.{over}
use Rattle.paper_assignments.specs.Extension.{recording_by}
use Rattle.paper_closure.specs.Closure.{Literals}
use Rattle.paper_closure.specs.Runs.{Outcome, dead, found, high_in}
use Rattle.paper_closure.specs.Tree.{Trial}
use Rattle.paper_search.specs.Search.{tree_of, Searched, unwritten, ended, limited, Satisfies, Earliest, count_in}
use Rattle.paper_search.specs.declared.Answer.{Answer}
use Rattle.paper_search.specs.declared.Answer.TheVariants.{Found, None, Spent}
use Rattle.paper_search.proofs.Outcome.{dead_none, found_satisfies, found_earliest}

none≢found : {n m : ℕ} → ◌≢◌ {A = Result Answer Refusal} (Ok (None n)) (Ok (Found m))
none≢found e = let z : ◌≡◌ {A = ℕ} 0 1 = cc in absurd (omega arith)

spent≢found : {n m : ℕ} → ◌≢◌ {A = Result Answer Refusal} (Ok (Spent n)) (Ok (Found m))
spent≢found e = let z : ◌≡◌ {A = ℕ} 0 1 = cc in absurd (omega arith)

none≢spent : {n m : ℕ} → ◌≢◌ {A = Result Answer Refusal} (Ok (None n)) (Ok (Spent m))
none≢spent e = let z : ◌≡◌ {A = ℕ} 0 1 = cc in absurd (omega arith)

pub data End (C k B : ℕ) (recording : List ℕ) (t : Trial) : Searched → Type 0 where
  finds : (S : Literals) → t.outcome ≡ found S → t.tries ≤ B
      → End C k B recording t (record { answer = Ok (Found t.tries); recording = over (recording_by C k (high_in S)) recording })
  lacks : t.outcome ≡ dead → t.tries ≤ B → End C k B recording t (unwritten recording (Ok (None t.tries)))
  spends : B < t.tries → End C k B recording t (unwritten recording (Ok (Spent B)))

pub end : (C k B : ℕ) (recording : List ℕ) (t : Trial) → End C k B recording t (limited C k B recording t)
unfolding limited
end C k B recording t = go (leb t.tries B) refl
  where
    by : t.tries ≤ B → (o : Outcome) → t.outcome ≡ o → End C k B recording t (elim o [
      | found S ↦ record { answer = Ok (Found t.tries); recording = over (recording_by C k (high_in S)) recording }
      | dead ↦ unwritten recording (Ok (None t.tries))
    ])
    by l (found S) e = finds S e l
    by l dead e = lacks e l

    go : (b : Bool) → leb t.tries B ≡ b → End C k B recording t (cond b (ended C k recording t) (unwritten recording (Ok (Spent B))))
    go true e = by (leb-true t.tries B e) t.outcome refl
    go false e = spends (leb-false t.tries B e)

module _ (C k B : ℕ) (recording : List ℕ) (f : Tree Formula) (L : Letters C f) where
  abbrev N : ℕ
  N = (tree_of C k f).tries

  abbrev Ends : Searched → Type 0
  Ends = End C k B recording (tree_of C k f)

  -- found: the recording drawn
  pub found_first : {x : Searched} → Ends x → {n : ℕ} → x.answer ≡ Ok (Found n) → (r : List ℕ) × (x.recording ≡ over r recording) × Earliest C k f r
  found_first (finds S e l) a = (recording_by C k (high_in S), refl, record { satisfies = found_satisfies C k f L S e; others_later = found_earliest C k f L S e })
  found_first (lacks e l) a = absurd (none≢found a)
  found_first (spends l) a = absurd (spent≢found a)

  -- which of the three it is
  pub found_within : {x : Searched} → Ends x → ((n : ℕ) × (x.answer ≡ Ok (Found n))) ↔ (((r : List ℕ) × Satisfies C k f r) × (N ≤ B))
  found_within (finds S e l) = (λ a. ((recording_by C k (high_in S), found_satisfies C k f L S e), l), λ w. (N, refl))
  found_within (lacks e l) = (λ a. absurd (none≢found a.1), λ w. absurd (dead_none C k f L e w.0.0 w.0.1))
  found_within (spends l) = (λ a. absurd (spent≢found a.1), λ w. absurd (omega (arith, w.1)))

  pub none_within : {x : Searched} → Ends x → ((n : ℕ) × (x.answer ≡ Ok (None n))) ↔ (((r : List ℕ) → Satisfies C k f r → ⊥) × (N ≤ B))
  none_within (finds S e l) = (λ a. absurd (none≢found (sym a.1)), λ w. absurd (w.0 _ (found_satisfies C k f L S e)))
  none_within (lacks e l) = (λ a. (dead_none C k f L e, l), λ w. (N, refl))
  none_within (spends l) = (λ a. absurd (none≢spent (sym a.1)), λ w. absurd (omega (arith, w.1)))

  pub spent_beyond : {x : Searched} → Ends x → ((n : ℕ) × (x.answer ≡ Ok (Spent n))) ↔ (B < N)
  spent_beyond (finds S e l) = (λ a. absurd (spent≢found (sym a.1)), λ g. absurd (omega arith))
  spent_beyond (lacks e l) = (λ a. absurd (none≢spent a.1), λ g. absurd (omega arith))
  spent_beyond (spends l) = (λ a. l, λ g. (B, refl))

  pub count_least : {x : Searched} → Ends x → count_in x.answer ≡ min N B
  count_least (finds S e l) = sym (min-eq_left l)
  count_least (lacks e l) = sym (min-eq_left l)
  count_least (spends l) = sym (min-eq_right (omega arith))

  pub only_found_writes : {x : Searched} → Ends x → ((n : ℕ) → x.answer ≢ Ok (Found n)) → x.recording ≡ recording
  only_found_writes (finds S e l) n = absurd (n N refl)
  only_found_writes (lacks e l) n = refl
  only_found_writes (spends l) n = refl

-- a search that was made is not refused
never_refused : {C k B : ℕ} {recording : List ℕ} {t : Trial} {x : Searched} → End C k B recording t x → (r : Refusal) → x.answer ≢ Err r
never_refused (finds S e l) r q = let z : ◌≡◌ {A = ℕ} 0 1 = cc in absurd (omega arith)
never_refused (lacks e l) r q = let z : ◌≡◌ {A = ℕ} 0 1 = cc in absurd (omega arith)
never_refused (spends l) r q = let z : ◌≡◌ {A = ℕ} 0 1 = cc in absurd (omega arith)

module _ (C k B : ℕ) (recording : List ℕ) (t : Trial) {x : Searched} (d : x ≡ limited C k B recording t) where
  pub ended_by : End C k B recording t x
  ended_by = subst (End C k B recording t) (sym d) (end C k B recording t)

  pub unrefused : (r : Refusal) → x.answer ≢ Err r
  unrefused = never_refused ended_by
