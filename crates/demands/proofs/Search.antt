-- Demand 3 leaves one answer to a search: N is one number, since a set has one closure and one run; found, none and spent exclude each
-- other, the count is told, and of two recordings that are each the earliest neither comes later. Ours is the one.
use mathlib.Core.Path.{◌≡◌, refl, sym, ap, ap₂, ◌∙◌, subst}
use mathlib.Core.Bool.{true≢false}
use mathlib.Core.List.{List, [], ◌∷◌, List-discrete}
use Prim.Native.Nat.{ℕ, ◌*◌, ◌≤◌}
use native.Mathlib.Nat.{min-eq_left, min-eq_right}
use native.Mathlib.Decide.{ℕ_discrete}
use native.Mathlib.Omega.{arith}
use lib.ListN.{length}
use Rattle.std.specs.Prelude.{Result, Ok, Err}
use Rattle.refusal.specs.Asked.{Reply}
use Rattle.refusal.specs.declared.Refusal.{Refusal}
use Rattle.paper_grammar.specs.Trees.{Tree, Letters}
use Rattle.paper_grammar.specs.Reader.{Read, parsed, stopped, read, on_tree}
use Rattle.paper_grammar.specs.declared.Sort.TheVariants.{Formula}
use Rattle.paper_grammar.specs.Nodes.{Node, nodes_of, nodes_in}
use Rattle.formula_text.proofs.Laws.{nodes_read_lem}
use Rattle.paper_circuit.specs.Circuit.{variables_of}
use Rattle.paper_clauses.specs.Clauses.{clause_table}
use Rattle.paper_clauses.specs.Entries.{flat, places_in}
use Rattle.moments.specs.Moments.{over}
use Rattle.paper_assignments.specs.Extension.{recording_by}
use Rattle.paper_closure.specs.Closure.{Literals, nothing}
use Rattle.paper_closure.specs.Runs.{dead, Run, high_in}
use Rattle.paper_closure.specs.Tree.{closure, Trial, trial}
use Rattle.paper_closure.proofs.Closure.{closure_is, closure_one}
use Rattle.paper_closure.proofs.Runs.{tree_runs, tree_run}
use Rattle.paper_search.specs.Search.{Arrays, lent_of, ask_lent, tree_of, tree_in, Searched, unwritten, limited, searched, Unchanged, Earliest, count_in}
use Rattle.paper_search.specs.declared.Lent.{Lent}
use Rattle.paper_search.specs.declared.Answer.{Answer}
use Rattle.paper_search.specs.declared.Answer.TheVariants.{Found, None, Spent}
use Rattle.paper_search.proofs.Order.{order_one_way}
use Rattle.paper_search.proofs.Outcome.{dead_none, found_satisfies, found_earliest}
use Rattle.paper_search.proofs.Ends.{End, finds, lacks, spends, end, found_first, found_within, none_within, spent_beyond, count_least, only_found_writes}
use Rattle.demands.specs.Calls.{IsText, formula_replies, Obeys}
use Rattle.demands.specs.Demand3.{Trials, Draws, Search, Searches}
use Rattle.demands.proofs.Obeyed.{yes_both, reads_as, letters_in, asked_obeys, obeys_two, obeys_through}

-- ---- N

module _ (C k : ℕ) (f : Tree Formula) where
  abbrev pub T : ℕ
  T = (tree_of C k f).tries

  pub trials_are : Trials C k f T
  unfolding tree_of
  trials_are = record {
    start = closure (clause_table C k f) nothing;
    closed = closure_is (clause_table C k f) nothing;
    outcome = (tree_of C k f).outcome;
    run = tree_runs (clause_table C k f) (variables_of C k (nodes_of f 0)) (k * C);
  }

  pub trials_one : (N : ℕ) → Trials C k f N → N ≡ T
  unfolding tree_of
  trials_one N w =
      let c = clause_table C k f in
      let v = variables_of C k (nodes_of f 0) in
      let r = subst (λ (S : Literals). Run c v (k * C) S w.outcome N) (closure_one c nothing w.start w.closed) w.run in
      sym (ap (λ (t : Trial). t.tries) (tree_run c v (k * C) r))

-- ---- the earliest

one_earliest : (C k : ℕ) (f : Tree Formula) (r s : List ℕ) → Earliest C k f r → Earliest C k f s → r ≡ s
one_earliest C k f r s v w = go (List-discrete ℕ_discrete r s)
  where
    go : Dec (r ≡ s) → r ≡ s
    go (yes e) = e
    go (no n) = absurd (true≢false (sym (w.others_later r v.satisfies n) ∙ order_one_way C k r s (v.others_later s w.satisfies (λ e. n (sym e)))))

-- ---- what is drawn

module _ (C k B : ℕ) (before : List ℕ) (f : Tree Formula) (L : Letters C f) where
  abbrev N : ℕ
  N = (tree_of C k f).tries

  pub ended_draws : {x : Searched} → End C k B before (tree_of C k f) x → Draws C k f B N before x.answer x.recording
  ended_draws w = record {
    found_exactly = found_within C k B before f L w;
    drawn = λ n e. found_first C k B before f L w e;
    none_exactly = none_within C k B before f L w;
    spent_exactly = spent_beyond C k B before f L w;
    count = count_least C k B before f L w;
    kept = only_found_writes C k B before f L w;
  }

  pub draws_ended : {x : Searched} → End C k B before (tree_of C k f) x → {a : Result Answer Refusal} {after : List ℕ} → Draws C k f B N before a after
      → (a ≡ x.answer) × (after ≡ x.recording)
  draws_ended (finds S e l) d =
      let r = recording_by C k (high_in S) in
      let w : Earliest C k f r = record { satisfies = found_satisfies C k f L S e; others_later = found_earliest C k f L S e } in
      let p = d.found_exactly.1 ((r, w.satisfies), l) in
      let m : p.0 ≡ N = sym (ap count_in p.1) ∙ d.count ∙ min-eq_left l in
      let o = d.drawn p.0 p.1 in
      (p.1 ∙ ap (λ (n : ℕ). Ok (Found n)) m, o.1 ∙ ap (λ (s : List ℕ). over s before) (one_earliest C k f o.0 r o.2 w))
  draws_ended (lacks e l) d =
      let p = d.none_exactly.1 (dead_none C k f L e, l) in
      let m : p.0 ≡ N = sym (ap count_in p.1) ∙ d.count ∙ min-eq_left l in
      (p.1 ∙ ap (λ (n : ℕ). Ok (None n)) m, d.kept (λ n q. let z : ◌≡◌ {A = ℕ} 0 1 = cc (p.1, q) in absurd (omega arith)))
  draws_ended (spends l) d =
      let p = d.spent_exactly.1 l in
      let g : B ≤ N = omega arith in
      let m : p.0 ≡ B = sym (ap count_in p.1) ∙ d.count ∙ min-eq_right g in
      (p.1 ∙ ap (λ (n : ℕ). Ok (Spent n)) m, d.kept (λ n q. let z : ◌≡◌ {A = ℕ} 0 1 = cc (p.1, q) in absurd (omega arith)))

pub never_refused : {C k B : ℕ} {before : List ℕ} {t : Trial} {x : Searched} → End C k B before t x → (r : Refusal) → x.answer ≡ Err r → ⊥
never_refused (finds S e l) r q = let z : ◌≡◌ {A = ℕ} 0 1 = cc in omega arith
never_refused (lacks e l) r q = let z : ◌≡◌ {A = ℕ} 0 1 = cc in omega arith
never_refused (spends l) r q = let z : ◌≡◌ {A = ℕ} 0 1 = cc in omega arith

-- ---- the call

-- the lengths of the lent arrays
abbrev pub lengths : Arrays → Lent
lengths x = lent_of x.variables x.marks x.values x.trail x.recording

-- two searches: one answer, one recording, and where it is refused every array
pub record Alike (x y : Search) : Type 0 where
  pub answer : x.answer ≡ y.answer
  pub recording : x.arrays.recording ≡ y.arrays.recording
  pub refused : (r : Refusal) → x.answer ≡ Err r → x.arrays ≡ y.arrays

module _ (C k : ℕ) (t : List ℕ) (B : ℕ) (before : Arrays) where
  abbrev pub ours : Searched
  ours = searched C k t B (lengths before) before.recording

  -- the search's contract (`tuv_search`): what is answered, the recording's array, and the work arrays where it is refused
  pub record Contract (x : Search) : Type 0 where
    pub answer : x.answer ≡ ours.answer
    pub recording : x.arrays.recording ≡ ours.recording
    pub variables : Unchanged ours.answer before.variables x.arrays.variables
    pub marks : Unchanged ours.answer before.marks x.arrays.marks
    pub values : Unchanged ours.answer before.values x.arrays.values
    pub trail : Unchanged ours.answer before.trail x.arrays.trail

  -- 18, and what a search of the formula should say
  abbrev pub own : Tree Formula → List Reply
  own f = ask_lent (length (flat (clause_table C k f))) (variables_of C k (nodes_of f 0)) k (lengths before) ∷ []

  abbrev pub Says : Tree Formula → Result Answer Refusal → List ℕ → Type 0
  Says f a after = (N : ℕ) → Trials C k f N → Draws C k f B N before.recording a after

  pub ours_obeys : Obeys C k t own (λ r. unwritten before.recording (Err r)) (λ f x. Says f x.answer x.recording) ours
  unfolding searched tree_in places_in
  ours_obeys =
      asked_obeys C k t _ _ _ (ask_lent (length (places_in C k t)) (variables_of C k (nodes_in t)) k (lengths before) ∷ []) _
      (λ f w. ap₂ (λ (o : Read Formula) (l : List Node). ask_lent (length (on_tree (λ f. flat (clause_table C k f)) o)) (variables_of C k l) k
      (lengths before) ∷ []) (reads_as t f w) (nodes_read_lem t f (reads_as t f w)))
      (λ f w y N n. drawn f (letters_in C k t f w (yes_both (formula_replies C k t f) (own f) y).0) (read t) (reads_as t f w) N n)
    where
      drawn : (f : Tree Formula) → Letters C f → (o : Read Formula) → o ≡ parsed f → (N : ℕ) → Trials C k f N
          → Draws C k f B N before.recording (limited C k B before.recording (elim o [ parsed g ↦ tree_of C k g | stopped p ↦ trial dead 0 ])).answer
          (limited C k B before.recording (elim o [ parsed g ↦ tree_of C k g | stopped p ↦ trial dead 0 ])).recording
      drawn f L o e N n = rw (e, trials_one C k f N n) (ended_draws C k B before.recording f L (end C k B before.recording (tree_of C k f)))

  -- whatever the contract allows fulfils the demand
  pub contract_searches : (x : Search) → Contract x → Searches C k t B before x
  contract_searches x w = obeys_through C k t own no right ours_obeys
    where
      no : (r : Refusal) → ours ≡ unwritten before.recording (Err r) → x ≡ record { answer = Err r; arrays = before }
      no r e =
          let h : ours.answer ≡ Err r = ap (λ (s : Searched). s.answer) e in
          let g : x.arrays.recording ≡ before.recording = w.recording ∙ ap (λ (s : Searched). s.recording) e in
          λ i. record {
            answer = (w.answer ∙ h) i;
            arrays = record { variables = w.variables r h i; marks = w.marks r h i; values = w.values r h i; trail = w.trail r h i; recording = g i };
          }

      right : (f : Tree Formula) → IsText t f → Says f ours.answer ours.recording → Says f x.answer x.arrays.recording
      right f i d N n = rw (w.answer, w.recording) (d N n)

  -- two that fulfil it are alike
  pub searches_alike : {x y : Search} → Searches C k t B before x → Searches C k t B before y → Alike x y
  searches_alike {x} {y} =
      obeys_two C k t own _ _ Alike (λ r. record { answer = refl; recording = refl; refused = λ s e. refl })
      (λ f w h p q. both f (letters_in C k t f w (yes_both (formula_replies C k t f) (own f) h).0) (p _ (trials_are C k f)) (q _ (trials_are C k f)))
    where
      both : (f : Tree Formula) → Letters C f → Draws C k f B (tree_of C k f).tries before.recording x.answer x.arrays.recording
          → Draws C k f B (tree_of C k f).tries before.recording y.answer y.arrays.recording → Alike x y
      both f L p q =
          let e = end C k B before.recording (tree_of C k f) in
          let a = draws_ended C k B before.recording f L e p in
          let b = draws_ended C k B before.recording f L e q in
          record { answer = a.0 ∙ sym b.0; recording = a.1 ∙ sym b.1; refused = λ r h. absurd (never_refused e r (sym a.0 ∙ h)) }

  -- ours, the work arrays as they were
  abbrev left : Search
  left = record { answer = ours.answer; arrays = record { variables = before.variables; marks = before.marks; values = before.values; trail = before.trail; recording = ours.recording } }

  left_contract : Contract left
  left_contract = record { answer = refl; recording = refl; variables = λ r e. refl; marks = λ r e. refl; values = λ r e. refl; trail = λ r e. refl }

  -- whatever fulfils the demand does what the contract says
  pub searches_contract : (x : Search) → Searches C k t B before x → Contract x
  searches_contract x p =
      let s = searches_alike p (contract_searches left left_contract) in
      let kept : (r : Refusal) → ours.answer ≡ Err r → x.arrays ≡ left.arrays = λ r e. s.refused r (s.answer ∙ e) in
      record {
        answer = s.answer;
        recording = s.recording;
        variables = λ r e. ap (λ (a : Arrays). a.variables) (kept r e);
        marks = λ r e. ap (λ (a : Arrays). a.marks) (kept r e);
        values = λ r e. ap (λ (a : Arrays). a.values) (kept r e);
        trail = λ r e. ap (λ (a : Arrays). a.trail) (kept r e);
      }
