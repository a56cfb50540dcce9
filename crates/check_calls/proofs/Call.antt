-- A call ends as its questions say, in their order: those of the formula, then 12 to 14 and 18, of the table of the tree that the text
-- reads as; then the recording is written over the lent array.
use mathlib.Core.Path.{◌≡◌, refl, sym, ap, ◌∙◌}
use mathlib.Core.List.{List, [], ◌∷◌, ◌++◌}
use Prim.Native.Nat.{ℕ, ◌*◌, ◌≤◌}
use native.Mathlib.Omega.{arith}
use lib.Dec.{eqb, leb}
use lib.ListN.{length, take, drop}
use lib.Seq.{length-take-le}
use borrow.Author.Tests.{eqb-true, leb-true}
use Rattle.std.specs.Prelude.{Ok, Err}
use Rattle.refusal.specs.Asked.{question, asked, ask_places, Reply, ok}
use Rattle.refusal.specs.declared.Refusal.{Refusal}
use Rattle.refusal.proofs.Laws.{replied_yes, replied_no, test_yes}
use Rattle.lists.specs.Listing.{All}
use Rattle.paper_grammar.specs.Trees.{Tree}
use Rattle.paper_grammar.specs.Reader.{Read, on_tree, parsed, read}
use Rattle.paper_grammar.specs.declared.Sort.TheVariants.{Formula}
use Rattle.paper_grammar.specs.Nodes.{nodes_of, nodes_in, nodes_read}
use Rattle.formula_text.proofs.Asked.{asked_one}
use Rattle.formula_text.proofs.Laws.{all_yes}
use Rattle.node_rows.specs.declared.NodeTable.{NodeTable}
use Rattle.node_calls.specs.Calls.{tabled_of}
use Rattle.node_calls.proofs.Called as first
use Rattle.paper_circuit.specs.Circuit.{variables_of}
use Rattle.paper_clauses.specs.Clauses.{clause_table}
use Rattle.moments.specs.Moments.{over}
use Rattle.table_layout.specs.declared.Sizes.{Sizes}
use Rattle.node_calls.specs.Rows.{node_table_of}
use Rattle.table_layout.specs.Rows.{Measured}
use Rattle.paper_assignments.specs.Extension.{value_in, recording_of}
use Rattle.paper_assignments.specs.Calls.{ask_assignment, ask_values, ask_clauses, clauses_in, Proposed, not_accepted, proposed}
use Rattle.paper_assignments.proofs.Recordings.{recording_length}
use Rattle.check_calls.specs.Rows.{clauses_for, check_questions}
use Rattle.table_layout.proofs.Known.{variables_known}
use Rattle.check_calls.proofs.Table.{clauses_known}

-- question 12, answered with yes
pub length_yes : (A : List ℕ) (n : ℕ) → question 12 0 (eqb (length A) n) ≡ ok → length A ≡ n
length_yes A n e = eqb-true (length A) n (test_yes 12 0 _ e)

-- ---- 12 to 14 and 18, of an accepted formula's node table

module _ (C k : ℕ) (f : Tree Formula) {T : NodeTable} (e : T ≡ node_table_of f) {F : List ℕ} {s : Sizes}
    (w : Measured C k T.kinds T.numbers T.count F s) (A : List ℕ) (places : ℕ) where
  abbrev whole : Reply
  whole = asked (check_questions C k f A places) Err ok

  length_known : question 12 0 (eqb (length A) s.variables) ≡ ask_assignment (variables_of C k (nodes_of f 0)) A
  unfolding ask_assignment
  length_known = ap (λ (n : ℕ). question 12 0 (eqb (length A) n)) (variables_known C k f e w)

  clauses_asked : ask_clauses (value_in A) 0 (clauses_for C k T F) ≡ ask_clauses (value_in A) 0 (clause_table C k f)
  clauses_asked = ap (ask_clauses (value_in A) 0) (clauses_known C k f e w)

  -- what the first three come to, as the code has asked them
  in_order : (a b c : Reply) → a ≡ question 12 0 (eqb (length A) s.variables) → b ≡ ask_values A → c ≡ ask_clauses (value_in A) 0 (clauses_for C k T F)
      → asked (a ∷ b ∷ c ∷ ask_places k places ∷ []) Err ok ≡ whole
  in_order a b c p q r =
      (λ i. asked ((p ∙ length_known) i ∷ q i ∷ (r ∙ clauses_asked) i ∷ ask_places k places ∷ []) Err ok)

  pub length_no : {r : Refusal} → Err r ≡ question 12 0 (eqb (length A) s.variables) → Err r ≡ whole
  length_no {r} p = in_order (Err r) _ _ p refl refl

  module _ (p : ok ≡ question 12 0 (eqb (length A) s.variables)) where
    pub values_no : {r : Refusal} → Err r ≡ ask_values A → Err r ≡ whole
    values_no {r} q = in_order ok (Err r) _ p q refl

    module _ (q : ok ≡ ask_values A) where
      pub clauses_no : {r : Refusal} → Err r ≡ ask_clauses (value_in A) 0 (clauses_for C k T F) → Err r ≡ whole
      clauses_no {r} o = in_order ok ok (Err r) p q o

      pub places_last : ok ≡ ask_clauses (value_in A) 0 (clauses_for C k T F) → {a : Reply} → a ≡ question 18 0 (leb k places) → a ≡ whole
      unfolding ask_places
      places_last o z = z ∙ sym (asked_one _) ∙ in_order ok ok ok p q o

-- ---- the whole call

module _ (C k : ℕ) (t A recording : List ℕ) where
  abbrev answer : Proposed
  answer = record { answer = ok; recording = over (recording_of C k A) recording }

  abbrev later : Read Formula → List Reply
  later f = ask_assignment (variables_of C k (nodes_read f)) A ∷ ask_values A ∷ ask_clauses (value_in A) 0 (on_tree (clause_table C k) f) ∷ ask_places k (length recording) ∷ []

  pub refused_first : {r : Refusal} → Err r ≡ tabled_of C k t → not_accepted recording r ≡ proposed C k t A recording
  unfolding proposed nodes_in clauses_in
  refused_first e = first.refused_first C k t e (not_accepted recording) answer (later (read t))

  -- once the formula is accepted, the reply to 12 to 14 and 18 tells the rest
  module _ {T : NodeTable} (e : Ok T ≡ tabled_of C k t) {q : Reply} (g : (f : Tree Formula) → T ≡ node_table_of f → q ≡ asked (check_questions C k f A (length recording)) Err ok) where
    by_reply : {a : Proposed} → ((f : Tree Formula) → q ≡ asked (later (parsed f)) Err ok → a ≡ asked (later (parsed f)) (not_accepted recording) answer) → a ≡ proposed C k t A recording
    unfolding proposed nodes_in clauses_in
    by_reply h = first.called C k t e (not_accepted recording) (λ f. answer) later (λ f n. h f (g f n.is))

    pub refused_later : {r : Refusal} → q ≡ Err r → not_accepted recording r ≡ proposed C k t A recording
    refused_later {r} o = by_reply (λ f p. sym (replied_no (not_accepted recording) answer (later (parsed f)) r (sym p ∙ o)))

    module _ (o : q ≡ ok) where
      -- the yeses
      each_yes : (f : Tree Formula) × All (λ r. r ≡ ok) (later (parsed f))
      each_yes = let n = first.table_for_lem C k t e in (n.0, all_yes (later (parsed n.0)) (sym (g n.0 n.1.is) ∙ o))

      pub room : k ≤ length recording
      unfolding ask_places
      room = leb-true k (length recording) (test_yes 18 0 _ each_yes.1.1.1.1.0)

      -- the part that is lent has a byte an instant, and the assignment every channel's value
      pub recorded_fits : (length (take k recording) ≡ k) × (length (take k recording) * C ≤ length A)
      unfolding ask_assignment variables_of
      recorded_fits =
          let n = length-take-le k recording room in
          let l = length_yes A (variables_of C k (nodes_of each_yes.0 0)) each_yes.1.0 in
          (n, omega (arith, l, ap (λ (n : ℕ). n * C) n))

      pub accepted_last : {out : List ℕ} → out ≡ recording_of C (length (take k recording)) A → record { answer = ok; recording = out ++ drop k recording } ≡ proposed C k t A recording
      accepted_last p =
          ap (λ (l : List ℕ). record { answer = ok; recording = l ++ drop k recording }) (p ∙ ap (λ (n : ℕ). recording_of C n A) recorded_fits.0)
          ∙ ap (λ (n : ℕ). record { answer = ok; recording = recording_of C k A ++ drop n recording }) (sym (recording_length C k (value_in A)))
          ∙ by_reply (λ f p. sym (replied_yes (not_accepted recording) answer (later (parsed f)) (sym p ∙ o)))
