-- Demand 2 leaves one answer to each call: ours obeys it, since it asks the same questions and its answer is right; and what is right is
-- one thing, an equation for most calls, the one extension, the one recording with these channels, the one table of a file for the rest.
use mathlib.Core.Path.{◌≡◌, refl, sym, ap, ap₂, ◌∙◌, subst}
use mathlib.Core.Bool.{Bool, ◌&&◌}
use mathlib.Core.List.{List, [], ◌∷◌, ◌++◌}
use Prim.Native.Nat.{ℕ, ◌-◌}
use lib.Dec.{leb}
use lib.ListN.{length, drop}
use Rattle.std.specs.Prelude.{Err, Result, Ok}
use Rattle.refusal.specs.Asked.{question, AllYes, ask_places, Reply, ok}
use Rattle.refusal.proofs.Laws.{all_yes_answers}
use Rattle.paper_grammar.specs.Trees.{Tree}
use Rattle.paper_grammar.specs.Reader.{Read, on_tree}
use Rattle.paper_grammar.specs.declared.Sort.TheVariants.{Formula}
use Rattle.paper_grammar.specs.Nodes.{Node, nodes_of, nodes_in}
use Rattle.formula_text.proofs.Standing.{text_is}
use Rattle.formula_text.proofs.Laws.{nodes_read_lem}
use Rattle.node_calls.specs.Calls.{ask_node, node_refusal_of, part_place, node_place_of}
use Rattle.node_calls.specs.declared.Span.{Span}
use Rattle.node_calls.proofs.Laws.{chosen}
use Rattle.paper_circuit.specs.Circuit.{variables_of}
use Rattle.paper_clauses.specs.Clauses.{clause_table}
use Rattle.paper_clauses.specs.Entries.{flat, places_in}
use Rattle.table_calls.specs.Table.{sizes_of, sizes_in, ask_room, After, written_table, tabled}
use Rattle.moments.specs.Moments.{over}
use Rattle.paper_meaning.specs.Recording.{ask_recording, ask_bytes}
use Rattle.truth_calls.specs.Evaluation.{recording_questions, read_holds, evaluated}
use Rattle.refusal.specs.declared.Refusal.{Refusal}
use Rattle.paper_assignments.specs.Extension.{value_in, extension_of, recording_of}
use Rattle.paper_assignments.specs.Calls.{ask_assignment, ask_values, ask_clauses, clauses_in, Extended, extended, Proposed, proposed}
use Rattle.paper_assignments.proofs.Values.{extension_length}
use Rattle.paper_assignments.proofs.Recordings.{recording_length, recording_below, recording_channels, recording_only}
use Rattle.paper_assignments.proofs.Laws.{extension_bits, extension_channels, extension_meets, extension_only}
use Rattle.demands.specs.Calls.{IsText, formula_replies}
use Rattle.demands.specs.Demand2.{Evaluates, NodeText, Locates, Tables, ExtensionOf, Extends, RecordingOf, Checks}
use Rattle.demands.proofs.Obeyed.{yes_both, reads_as, formula_asked, letters_in, asked_obeys, obeys_same}

-- ---- evaluation

module _ (C k i j : ℕ) (t recording : List ℕ) where
  pub evaluated_obeys : Evaluates C k i j t recording (evaluated C k i j t recording)
  unfolding evaluated
  evaluated_obeys =
      asked_obeys C k t _ _ _ (recording_questions C k i j recording) _ (λ f w. refl)
      (λ f w y. ap (λ (o : Read Formula). Ok (read_holds recording o (record { i = i; j = j }))) (reads_as t f w))

  pub evaluated_only : (v : Result Bool Refusal) → Evaluates C k i j t recording v → v ≡ evaluated C k i j t recording
  evaluated_only v p = obeys_same C k t _ _ _ (λ f w y a b. a ∙ sym b) p evaluated_obeys

-- ---- a node's text

module _ (C k x : ℕ) (t : List ℕ) where
  node_text : (f : Tree Formula) → IsText t f → node_refusal_of C k x t ≡ ok → NodeText t x f (Ok (part_place (drop (x - 1) (nodes_in t))))
  node_text f w e =
      let c = chosen C k x t e in
      let n = nodes_read_lem t f (reads_as t f w) in
      record {
        node = c.chosen;
        rest = _;
        numbered = ap (drop (x - 1)) (sym n) ∙ c.back;
        part = ap (λ (l : List Node). Ok (part_place l)) c.back;
        prints = text_is t c.chosen.part c.chosen.first c.holds.0;
      }

  one_text : (f : Tree Formula) (l m : Result Span Refusal) → NodeText t x f l → NodeText t x f m → l ≡ m
  one_text f l m v w = v.part ∙ ap (λ (l : List Node). Ok (part_place l)) (sym v.numbered ∙ w.numbered) ∙ sym w.part

  -- question 8, of n nodes
  abbrev asks : ℕ → List Reply
  asks n = question 8 0 (leb 1 x && leb x n) ∷ []

  pub located_obeys : Locates C k x t (node_place_of C k x t)
  unfolding node_place_of node_refusal_of ask_node
  located_obeys =
      let same : (f : Tree Formula) → IsText t f → asks (length (nodes_in t)) ≡ asks (length (nodes_of f 0)) = λ f w. ap (λ (l : List Node). asks (length l)) (nodes_read_lem t f (reads_as t f w)) in
      asked_obeys C k t _ _ _ (asks (length (nodes_in t))) _ same
      (λ f w y. node_text f w (all_yes_answers Err ok (subst AllYes (ap₂ ◌++◌ (sym (formula_asked C k t f w)) (sym (same f w))) y)))

  pub located_only : (l : Result Span Refusal) → Locates C k x t l → l ≡ node_place_of C k x t
  located_only l p = obeys_same C k t _ _ _ (λ f w y a b. one_text f _ _ a b) p located_obeys

-- ---- the table

module _ (C k : ℕ) (t sizes variables marks : List ℕ) where
  pub tabled_obeys : Tables C k t sizes variables marks (tabled C k t sizes variables marks)
  unfolding tabled sizes_in places_in
  tabled_obeys =
      asked_obeys C k t _ _ _ (ask_room (length (places_in C k t)) (length sizes) (length variables) (length marks) ∷ []) _
      (λ f w. ap (λ (o : Read Formula). ask_room (length (on_tree (λ f. flat (clause_table C k f)) o)) (length sizes) (length variables) (length marks) ∷ []) (reads_as t f w))
      (λ f w y. ap (λ (o : Read Formula). written_table (on_tree (sizes_of C k) o) (on_tree (λ f. flat (clause_table C k f)) o) sizes variables marks) (reads_as t f w))

  pub tabled_only : (x : After) → Tables C k t sizes variables marks x → x ≡ tabled C k t sizes variables marks
  tabled_only x p = obeys_same C k t _ _ _ (λ f w y a b. a ∙ sym b) p tabled_obeys

-- ---- the extension

module _ (C k : ℕ) (t recording assignment : List ℕ) where
  pub extension_is : (f : Tree Formula) → IsText t f → AllYes (formula_replies C k t f) → ExtensionOf C k f recording (extension_of C k recording (nodes_of f 0))
  extension_is f w y = record {
    bytes = extension_length C k recording (nodes_of f 0);
    bits = extension_bits C k recording (nodes_of f 0);
    channels = extension_channels C k recording (nodes_of f 0);
    meets = extension_meets C k f (letters_in C k t f w y) recording;
  }

  pub extended_obeys : Extends C k t recording assignment (extended C k t recording assignment)
  unfolding extended
  extended_obeys =
      asked_obeys C k t _ _ _ (ask_recording k recording ∷ ask_bytes C recording ∷ ask_places (variables_of C k (nodes_in t)) (length assignment) ∷ []) _
      (λ f w. ap (λ (l : List Node). ask_recording k recording ∷ ask_bytes C recording ∷ ask_places (variables_of C k l) (length assignment) ∷ []) (nodes_read_lem t f (reads_as t f w)))
      (λ f w y. (
        extension_of C k recording (nodes_of f 0),
        extension_is f w (yes_both (formula_replies C k t f) _ y).0,
        ap (λ (l : List Node). record { answer = ok; assignment = over (extension_of C k recording l) assignment }) (nodes_read_lem t f (reads_as t f w)),
      ))

  pub one_extension : (f : Tree Formula) → IsText t f → AllYes (formula_replies C k t f) → (A : List ℕ) → ExtensionOf C k f recording A → A ≡ extension_of C k recording (nodes_of f 0)
  one_extension f w y A e = extension_only C k f (letters_in C k t f w y) recording A e.bytes e.bits e.channels e.meets

  pub extended_only : (x : Extended) → Extends C k t recording assignment x → x ≡ extended C k t recording assignment
  extended_only x p =
      obeys_same C k t _ _ _ (λ f w y a b. let g = (yes_both (formula_replies C k t f) _ y).0 in
      a.2 ∙ ap (λ (A : List ℕ). record { answer = ok; assignment = over A assignment }) (one_extension f w g a.0 a.1 ∙
      sym (one_extension f w g b.0 b.1)) ∙ sym b.2) p extended_obeys

-- ---- the check

module _ (C k : ℕ) (t A recording : List ℕ) where
  recording_is : RecordingOf C k A (recording_of C k A)
  recording_is = record {
    bytes = recording_length C k (value_in A);
    below = recording_below C k (value_in A);
    channels = λ t c h l. sym (recording_channels C k (value_in A) t c h l);
  }

  pub one_recording : (r : List ℕ) → RecordingOf C k A r → r ≡ recording_of C k A
  one_recording r w = sym (recording_only C k (value_in A) r w.bytes w.below w.channels)

  pub proposed_obeys : Checks C k t A recording (proposed C k t A recording)
  unfolding proposed clauses_in
  proposed_obeys =
      asked_obeys C k t _ _ _ (ask_assignment (variables_of C k (nodes_in t)) A ∷ ask_values A ∷ ask_clauses (value_in A) 0 (clauses_in C k t) ∷ ask_places k (length recording) ∷ []) _
      (λ f w. ap₂ (λ (l : List Node) (o : Read Formula). ask_assignment (variables_of C k l) A ∷ ask_values A ∷
      ask_clauses (value_in A) 0 (on_tree (clause_table C k) o) ∷ ask_places k (length recording) ∷ []) (nodes_read_lem t f (reads_as t f w)) (reads_as t f w))
      (λ f w y. (recording_of C k A, recording_is, refl))

  pub proposed_only : (x : Proposed) → Checks C k t A recording x → x ≡ proposed C k t A recording
  proposed_only x p =
      obeys_same C k t _ _ _ (λ f w y a b. a.2 ∙
      ap (λ (r : List ℕ). record { answer = ok; recording = over r recording }) (one_recording a.0 a.1 ∙
      sym (one_recording b.0 b.1)) ∙ sym b.2) p proposed_obeys
