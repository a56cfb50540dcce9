-- What the extension's call writes meets every clause but perhaps the last, so the check goes through 12, 13 and all of 14 but its last
-- clause, and that one turns on the formula; and what the check accepts is the extension of the recording that it hands out.
use mathlib.Core.Path.{◌≡◌, refl, sym, ap, ◌∙◌, subst}
use mathlib.Core.Logic.{◌↔◌, ⊎_elim}
use mathlib.Core.Bool.{Bool, true, false, cond, ◌&&◌, false≢true}
use mathlib.Core.List.{List, [], ◌∷◌, ◌++◌}
use Prim.Native.Nat.{ℕ, suc, ◌+◌, ◌-◌, ◌^◌, ◌≤◌}
use native.Mathlib.Omega.{arith}
use lib.ListN.{length, length-append}
use borrow.Author.Tests.{eq-eqb, eqb-true, le-leb}
use Rattle.std.specs.Prelude.{Err}
use Rattle.refusal.specs.Asked.{AllYes, none_left, yes_then, FirstNo, here, later, ask_places, Reply, ok}
use Rattle.refusal.specs.declared.Refusal.{Refusal}
use Rattle.refusal.proofs.Laws.{all_yes_or_first_no, test_yes, one_yes}
use Rattle.paper_grammar.specs.Trees.{Tree, Letters}
use Rattle.paper_grammar.specs.declared.Sort.TheVariants.{Formula}
use Rattle.lists.proofs.Tests.{both}
use Rattle.paper_grammar.specs.Nodes.{nodes_of}
use Rattle.paper_meaning.specs.Meaning.{holds}
use Rattle.paper_circuit.specs.Gates.{Assignment}
use Rattle.paper_circuit.specs.Circuit.{variables_of, definitions_of, root_of}
use Rattle.paper_clauses.specs.Clauses.{Clause, plain, clauses_by, clause_table, meets_clause, meets_all}
use Rattle.moments.specs.Moments.{over}
use Rattle.paper_meaning.specs.Recording.{EachBelow}
use Rattle.paper_meaning.proofs.Recording.{below_yes}
use Rattle.paper_assignments.specs.Extension.{value_in, extension_of, recording_of, meets_last}
use Rattle.paper_assignments.specs.Calls.{ask_assignment, ask_values, ask_clauses, Proposed, not_accepted, proposed}
use Rattle.paper_assignments.proofs.Laws.{extension_last, extension_only, holds_meets, accepted_exactly}
use Rattle.demands.specs.Calls.{IsText, formula_replies}
use Rattle.demands.specs.Demand2.{ExtensionOf}
use Rattle.demands.proofs.Obeyed.{yes_both, letters_in}
use Rattle.demands.proofs.Answers.{one_recording, proposed_obeys}

-- ---- replies

yes_append : {p q : List Reply} → AllYes p → AllYes q → AllYes (p ++ q)
yes_append none_left h = h
yes_append (yes_then g) h = yes_then (yes_append g h)

yes_next : {q : Reply} {Q : List Reply} → q ≡ ok → AllYes Q → AllYes (q ∷ Q)
yes_next {q} {Q} e h = subst (λ (q : Reply). AllYes (q ∷ Q)) (sym e) (yes_then h)

no_after : {p q : List Reply} {r : Refusal} → AllYes p → FirstNo q r → FirstNo (p ++ q) r
no_after none_left h = h
no_after (yes_then g) h = later (no_after g h)

no_next : {q : Reply} {Q : List Reply} {r : Refusal} → q ≡ ok → FirstNo Q r → FirstNo (q ∷ Q) r
no_next {q} {Q} {r} e h = subst (λ (q : Reply). FirstNo (q ∷ Q) r) (sym e) (later h)

no_here : {q : Reply} {Q : List Reply} {r : Refusal} → q ≡ Err r → FirstNo (q ∷ Q) r
no_here {q} {Q} {r} e = subst (λ (q : Reply). FirstNo (q ∷ Q) r) (sym e) here

-- ---- question 14

clauses_yes : (a : Assignment) (n : ℕ) (T : List Clause) → (ask_clauses a n T ≡ ok) ↔ (meets_all a T ≡ true)
unfolding meets_all ask_clauses
clauses_yes a n [] = (λ e. refl, λ e. refl)
clauses_yes a n (c ∷ T) = go (meets_clause a c) (clauses_yes a (suc n) T)
  where
    go : (b : Bool) → (ask_clauses a (suc n) T ≡ ok) ↔ (meets_all a T ≡ true)
        → (cond b (ask_clauses a (suc n) T) (Err (record { number = 14; place = n })) ≡ ok) ↔ ((b && meets_all a T) ≡ true)
    go true w = w
    go false w = (λ e. absurd (false≢true cc), λ e. absurd (false≢true e))

-- all are met but the one after them
last_unmet : (a : Assignment) (n : ℕ) (S : List Clause) (c : Clause) → meets_all a S ≡ true → meets_clause a c ≡ false
    → ask_clauses a n (S ++ c ∷ []) ≡ Err (record { number = 14; place = n + length S })
unfolding meets_all ask_clauses
last_unmet a n [] c h e = let z : n ≡ n + 0 = omega arith in rw e (ap (λ (m : ℕ). Err (record { number = 14; place = m })) z)
last_unmet a n (d ∷ S) c h e =
    let w = both (meets_clause a d) (meets_all a S) h in
    let z : suc n + length S ≡ n + suc (length S) = omega arith in
    rw w.0 (last_unmet a (suc n) S c w.1 e ∙ ap (λ (m : ℕ). Err (record { number = 14; place = m })) z)

-- ---- the check of an extension

module _ (C k : ℕ) (t : List ℕ) (f : Tree Formula) (w : IsText t f) (y : AllYes (formula_replies C k t f)) where
  L : Letters C f
  L = letters_in C k t f w y

  -- the call's questions from 12 on
  abbrev questions : List ℕ → List ℕ → List Reply
  questions A out = ask_assignment (variables_of C k (nodes_of f 0)) A ∷ ask_values A ∷ ask_clauses (value_in A) 0 (clause_table C k f) ∷ ask_places k (length out) ∷ []

  length_yes : (A : List ℕ) → length A ≡ variables_of C k (nodes_of f 0) → ask_assignment (variables_of C k (nodes_of f 0)) A ≡ ok
  unfolding ask_assignment
  length_yes A e = rw (eq-eqb (length A) (variables_of C k (nodes_of f 0)) e) refl

  length_is : (A : List ℕ) → ask_assignment (variables_of C k (nodes_of f 0)) A ≡ ok → length A ≡ variables_of C k (nodes_of f 0)
  unfolding ask_assignment
  length_is A e = eqb-true (length A) (variables_of C k (nodes_of f 0)) (test_yes 12 0 _ e)

  places_yes : (out : List ℕ) → k ≤ length out → ask_places k (length out) ≡ ok
  unfolding ask_places
  places_yes out h = rw (le-leb k (length out) h) refl

  module _ (recording A : List ℕ) (e : ExtensionOf C k f recording A) where
    same : A ≡ extension_of C k recording (nodes_of f 0)
    same = extension_only C k f L recording A e.bytes e.bits e.channels e.meets

    -- it meets the last clause exactly when the recording satisfies the formula
    pub last_exactly : meets_last C k f (value_in A) ≡ holds recording f (record { i = 0; j = k })
    last_exactly = subst (λ (B : List ℕ). meets_last C k f (value_in B) ≡ holds recording f (record { i = 0; j = k })) (sym same) (extension_last C k f recording)

    all_met : holds recording f (record { i = 0; j = k }) ≡ true → meets_all (value_in A) (clause_table C k f) ≡ true
    all_met h = subst (λ (B : List ℕ). meets_all (value_in B) (clause_table C k f) ≡ true) (sym same) (holds_meets C k f L recording h)

    pub extension_accepted : (out : List ℕ) → length recording ≡ k → EachBelow (2 ^ C) recording → holds recording f (record { i = 0; j = k }) ≡ true → k ≤ length out
        → proposed C k t A out ≡ record { answer = ok; recording = over recording out }
    extension_accepted out b u h l =
        let q = yes_next (length_yes A e.bytes)
        (yes_next ((below_yes 13 2 A).1 e.bits)
        (yes_next ((clauses_yes (value_in A) 0 (clause_table C k f)).1 (all_met h)) (yes_next (places_yes out l) none_left))) in
        let p = ((proposed_obeys C k t A out).of_formula f w).all_yes (yes_append y q) in
        let r = one_recording C k t A out recording (record { bytes = b; below = u; channels = e.channels }) in
        p.2 ∙ ap (λ (r : List ℕ). record { answer = ok; recording = over r out }) (one_recording C k t A out p.0 p.1 ∙ sym r)

    unmet_last : holds recording f (record { i = 0; j = k }) ≡ false → ask_clauses (value_in A) 0 (clause_table C k f) ≡ Err (record { number = 14; place = length (clause_table C k f) - 1 })
    unfolding clause_table
    unmet_last h =
        let D = clauses_by (definitions_of C k (nodes_of f 0)) in
        let z : 0 + length D ≡ length (D ++ (plain (root_of C k f) ∷ []) ∷ []) - 1 = omega (arith, length-append D ((plain (root_of C k f) ∷ []) ∷ [])) in
        last_unmet (value_in A) 0 D (plain (root_of C k f) ∷ []) e.meets (last_exactly ∙ h) ∙ ap (λ (m : ℕ). Err (record { number = 14; place = m })) z

    pub extension_refused : (out : List ℕ) → holds recording f (record { i = 0; j = k }) ≡ false
        → proposed C k t A out ≡ not_accepted out (record { number = 14; place = length (clause_table C k f) - 1 })
    extension_refused out h =
        ((proposed_obeys C k t A out).of_formula f w).first_no _ (no_after y (no_next (length_yes A e.bytes) (no_next ((below_yes 13 2 A).1 e.bits) (no_here (unmet_last h)))))

  -- an accepted assignment is the extension of the recording handed out, which satisfies the formula
  pub accepted_extends : (A out : List ℕ) → (proposed C k t A out).answer ≡ ok
      → (A ≡ extension_of C k (recording_of C k A) (nodes_of f 0)) × (holds (recording_of C k A) f (record { i = 0; j = k }) ≡ true) ×
      ((proposed C k t A out).recording ≡ over (recording_of C k A) out)
  accepted_extends A out a = ⊎_elim all (λ n. absurd (refused n.0 n.1)) (all_yes_or_first_no (formula_replies C k t f ++ questions A out))
    where
      refused : (r : Refusal) → FirstNo (formula_replies C k t f ++ questions A out) r → ⊥
      refused r n = let p = ap (λ (x : Proposed). x.answer) (((proposed_obeys C k t A out).of_formula f w).first_no r n) in let z : ◌≡◌ {A = ℕ} 0 1 = cc (p, a) in omega arith

      all : AllYes (formula_replies C k t f ++ questions A out)
          → (A ≡ extension_of C k (recording_of C k A) (nodes_of f 0)) × (holds (recording_of C k A) f (record { i = 0; j = k }) ≡ true) ×
          ((proposed C k t A out).recording ≡ over (recording_of C k A) out)
      all g =
          let q = (yes_both (formula_replies C k t f) (questions A out) g).1 in
          let (e, q₁) = one_yes q in
          let (b, q₂) = one_yes q₁ in
          let m = (accepted_exactly C k f L A (length_is A e) ((below_yes 13 2 A).0 b)).0 ((clauses_yes (value_in A) 0 (clause_table C k f)).0 (one_yes q₂).0) in
          let p = ((proposed_obeys C k t A out).of_formula f w).all_yes g in
          (m.0, m.1, ap (λ (x : Proposed). x.recording) p.2 ∙ ap (λ (r : List ℕ). over r out) (one_recording C k t A out p.0 p.1))
