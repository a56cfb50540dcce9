-- The sizes are the sums along the node table, so question 18 is asked of the true V; then the channels' values and the nodes' are
-- written over the lent assignment. A call ends as its questions say, in their order.
use mathlib.Core.Path.{◌≡◌, refl, sym, ap, ap₂, ◌∙◌}
use mathlib.Core.List.{List, [], ◌∷◌, ◌++◌}
use Prim.Native.Nat.{ℕ, ◌+◌, ◌*◌, ◌≤◌}
use native.Mathlib.Omega.{arith}
use lib.Dec.{leb}
use lib.ListN.{length, drop, length-append, length-drop}
use lib.Seq.{sets}
use borrow.Author.Tests.{leb-true}
use Rattle.std.specs.Prelude.{Ok, Err}
use Rattle.refusal.specs.Asked.{question, asked, ask_places, Reply, ok}
use Rattle.refusal.specs.declared.Refusal.{Refusal}
use Rattle.refusal.proofs.Laws.{test_yes}
use Rattle.paper_grammar.specs.Limits.{max_channels}
use Rattle.paper_grammar.specs.Trees.{Tree}
use Rattle.paper_grammar.specs.Reader.{Read, parsed, read}
use Rattle.paper_grammar.specs.declared.Sort.TheVariants.{Formula}
use Rattle.paper_grammar.specs.Nodes.{nodes_of, nodes_in, nodes_read}
use Rattle.node_rows.specs.declared.NodeTable.{NodeTable}
use Rattle.node_calls.specs.Calls.{tabled_of}
use Rattle.node_calls.specs.Rows.{TableFor}
use Rattle.paper_meaning.specs.Recording.{ask_recording, ask_bytes}
use Rattle.node_calls.proofs.Called as first
use Rattle.paper_circuit.specs.Circuit.{variables_of}
use Rattle.lists.proofs.Stored.{sets_append, stored_over}
use Rattle.moments.specs.Moments.{over}
use Rattle.table_layout.specs.declared.Sizes.{Sizes}
use Rattle.table_layout.specs.Rows.{Measured}
use Rattle.table_layout.proofs.Known.{variables_known}
use Rattle.paper_assignments.specs.Extension.{channel_values, node_values, extension_of}
use Rattle.paper_assignments.specs.Calls.{Extended, not_extended, extended}
use Rattle.paper_assignments.proofs.Values.{channels_length, extension_length}
use Rattle.extend_calls.specs.Rows.{Seated, NodesPut, extended_by, Extends}

-- question 18, answered with yes
pub places_enough : (n places : ℕ) → question 18 0 (leb n places) ≡ ok → n ≤ places
places_enough n places e = leb-true n places (test_yes 18 0 _ e)

-- the sizes tell where the blocks stand
pub seated : {C k : ℕ} {T : NodeTable} {F : List ℕ} {s : Sizes} → Measured C k T.kinds T.numbers T.count F s → Seated C k T F s.variables
seated w = record { first = w.first; ends = w.variables }

-- the channels' variables are among all
pub channels_fit : {C k : ℕ} {kinds numbers : List ℕ} {n : ℕ} {F : List ℕ} {s : Sizes} → Measured C k kinds numbers n F s → (A : List ℕ) →
    question 18 0 (leb s.variables (length A)) ≡ ok → k * C ≤ length A
channels_fit {s = s} w A q = omega (arith, w.variables, places_enough s.variables (length A) q)

-- with the channels' values back in their place it is as long as it was
pub channels_back : (C k : ℕ) (recording A : List ℕ) {out : List ℕ} → out ≡ channel_values C (length recording) recording →
    length recording ≡ k → k * C ≤ length A → length (out ++ drop (k * C) A) ≡ length A
channels_back C k recording A {out} o l h =
    length-append out (drop (k * C) A) ∙ omega (arith, length-drop (k * C) A, ap length o, channels_length C (length recording) recording, ap (λ (k : ℕ). k * C) l)

-- ---- an accepted formula's node table

module _ (C k : ℕ) (f : Tree Formula) {T : NodeTable} (t : TableFor max_channels f T) {F : List ℕ} {s : Sizes} (w : Measured C k T.kinds T.numbers T.count F s)
    (recording A : List ℕ) where
  question_known : question 18 0 (leb s.variables (length A)) ≡ ask_places (variables_of C k (nodes_of f 0)) (length A)
  unfolding ask_places
  question_known = ap (λ (n : ℕ). question 18 0 (leb n (length A))) (variables_known C k f t.is w)

  abbrev done : Extended
  done = record { answer = ok; assignment = over (extension_of C k recording (nodes_of f 0)) A }

  pub refused_known : {r : Refusal} → Err r ≡ question 18 0 (leb s.variables (length A)) → not_extended A r ≡ extended_by C k f recording A
  unfolding extended_by
  refused_known q = ap (λ (a : Reply). asked (a ∷ []) (not_extended A) done) (q ∙ question_known)

  pub written_known : question 18 0 (leb s.variables (length A)) ≡ ok → {out A' A'' : List ℕ} → length recording ≡ k →
      out ≡ channel_values C (length recording) recording → A' ≡ out ++ drop (k * C) A
      → NodesPut k recording T F s.variables A' A'' → record { answer = ok; assignment = A'' } ≡ extended_by C k f recording A
  unfolding extended_by extension_of
  written_known q {out} {A'} {A''} l o p c =
      let channels = channel_values C k recording in
      let nodes = node_values k recording (nodes_of f 0) in
      let n = channels_length C k recording in
      let enough = places_enough s.variables (length A) q in
      let many = extension_length C k recording (nodes_of f 0) in
      let begun : A' ≡ sets A 0 channels =
      p ∙ ap (λ (B : List ℕ). B ++ drop (k * C) A) (o ∙ ap (λ (k : ℕ). channel_values C k recording) l)
      ∙ sym (stored_over channels A refl (omega (arith, n, enough, w.variables)) ∙ ap (λ (i : ℕ). channels ++ drop i A) n) in
      let next : 0 + length channels ≡ k * C = omega (arith, n) in
      let all : A'' ≡ sets A 0 (channels ++ nodes) =
      c C f (seated w) t ∙ ap (λ (B : List ℕ). sets B (k * C) nodes) begun ∙ sym (sets_append A 0 channels nodes ∙ ap (λ (i : ℕ). sets (sets A 0 channels) i nodes) next) in
      ap (λ (B : List ℕ). record { answer = ok; assignment = B }) (stored_over (channels ++ nodes) A all (omega (arith, many, enough, variables_known C k f t.is w)))
      ∙ ap (λ (a : Reply). asked (a ∷ []) (not_extended A) done) (sym q ∙ question_known)

-- ---- the whole call

module _ (C k : ℕ) (t recording A : List ℕ) where
  abbrev answer : Read Formula → Extended
  answer f = record { answer = ok; assignment = over (extension_of C k recording (nodes_read f)) A }

  abbrev later_by : Reply → Reply → Read Formula → List Reply
  later_by p q f = p ∷ q ∷ ask_places (variables_of C k (nodes_read f)) (length A) ∷ []

  pub refused_first : {r : Refusal} → Err r ≡ tabled_of C k t → not_extended A r ≡ extended C k t recording A
  unfolding extended nodes_in
  refused_first e = first.refused_first C k t e (not_extended A) (answer (read t)) (later_by (ask_recording k recording) (ask_bytes C recording) (read t))

  -- once the formula is accepted
  module _ {T : NodeTable} (e : Ok T ≡ tabled_of C k t) where
    recording_asked : {p q : Reply} → p ≡ ask_recording k recording → q ≡ ask_bytes C recording → {a : Extended}
        → ((f : Tree Formula) → TableFor max_channels f T → a ≡ asked (later_by p q (parsed f)) (not_extended A) (answer (parsed f))) → a ≡ extended C k t recording A
    unfolding extended nodes_in
    recording_asked u v g =
        first.called C k t e (not_extended A) answer (later_by (ask_recording k recording) (ask_bytes C recording))
        (λ f n. g f n ∙ ap₂ (λ (p q : Reply). asked (later_by p q (parsed f)) (not_extended A) (answer (parsed f))) u v)

    pub refused_recording : {r : Refusal} → Err r ≡ ask_recording k recording → not_extended A r ≡ extended C k t recording A
    refused_recording p = recording_asked p refl (λ f n. refl)

    module _ (p : ok ≡ ask_recording k recording) where
      pub refused_bytes : {r : Refusal} → Err r ≡ ask_bytes C recording → not_extended A r ≡ extended C k t recording A
      refused_bytes q = recording_asked p q (λ f n. refl)

      pub called : ok ≡ ask_bytes C recording → {a : Extended} → Extends T C k recording A a → a ≡ extended C k t recording A
      unfolding extended_by
      called q g = recording_asked p q g
