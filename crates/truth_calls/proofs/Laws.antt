-- Evaluation ends as its questions say: where one of 1 to 7 says no, or 9, by that refusal; otherwise as 10, 11 and the truth of the tree
-- say that the text reads as, which stands in the node table from its first row on.
use mathlib.Core.Path.{◌≡◌, refl, sym, ap, ◌∙◌, subst}
use mathlib.Core.Bool.{Bool, false≢true}
use mathlib.Core.List.{List, [], ◌∷◌}
use Prim.Native.Nat.{ℕ, ◌≤◌}
use borrow.Author.Tests.{le-leb}
use Rattle.std.specs.Prelude.{Result, Ok, Err}
use Rattle.refusal.specs.Asked.{Reply, ok, asked}
use Rattle.refusal.specs.declared.Refusal.{Refusal}
use Rattle.interval.specs.Limits.{max_steps, ask_steps, ask_interval, made_of, IntervalOf}
use Rattle.interval.specs.declared.Interval.{Interval}
use Rattle.interval.proofs.Laws.{made_good}
use Rattle.paper_grammar.specs.Limits.{max_channels}
use Rattle.paper_grammar.specs.Trees.{Tree}
use Rattle.paper_grammar.specs.Reader.{Read, parsed, read}
use Rattle.paper_grammar.specs.declared.Sort.TheVariants.{Formula}
use Rattle.paper_grammar.specs.Nodes.{nodes_of, node}
use Rattle.paper_grammar.proofs.EachNode.{begins_whole}
use Rattle.node_rows.specs.Table.{table_of}
use Rattle.node_rows.specs.declared.NodeTable.{NodeTable}
use Rattle.node_calls.specs.Calls.{tabled_of}
use Rattle.node_calls.specs.Parts.{Stands}
use Rattle.node_calls.specs.Rows.{node_table_of, TableFor}
use Rattle.node_calls.proofs.Called as first
use Rattle.node_calls.proofs.Standing.{stands}
use Rattle.paper_meaning.specs.Meaning.{holds}
use Rattle.paper_meaning.specs.Recording.{ask_recording, ask_bytes}
use Rattle.truth_calls.specs.Evaluation.{recording_questions, read_holds, evaluated}
use Rattle.truth_calls.specs.Rows.{judged}
use Rattle.truth_rows.specs.Rows.{AtRow}

-- what the constructor of intervals answers tells the reply to question 9, k being within the limit
module _ (i j k : ℕ) (h : k ≤ max_steps) where
  made_is : made_of i j k ≡ asked (ask_interval i j k ∷ []) Err (Ok (record { i = i; j = j }))
  unfolding made_of ask_steps
  made_is = simp (le-leb k max_steps h)

  made_no : (r : Refusal) → made_of i j k ≡ Err r → ask_interval i j k ≡ Err r
  made_no r e = go (ask_interval i j k) (sym made_is ∙ e)
    where
      go : (q : Reply) → asked {A = Result Interval Refusal} (q ∷ []) Err (Ok (record { i = i; j = j })) ≡ Err r → q ≡ Err r
      go (Ok _) m = absurd (false≢true cc)
      go (Err p) m = let z : p ≡ r = cc in ap (λ (r : Refusal). Err r) z

  made_yes : (v : Interval) → made_of i j k ≡ Ok v → (ask_interval i j k ≡ ok) × (record { i = i; j = j } ≡ v)
  made_yes v e = go (ask_interval i j k) (sym made_is ∙ e)
    where
      go : (q : Reply) → asked {A = Result Interval Refusal} (q ∷ []) Err (Ok (record { i = i; j = j })) ≡ Ok v → (q ≡ ok) × (record { i = i; j = j } ≡ v)
      go (Ok _) m = (refl, cc)
      go (Err p) m = absurd (false≢true cc)

-- the formula stands in its node table from the first row on
root_stands : (f : Tree Formula) {T : NodeTable} → T ≡ node_table_of f → Stands T.kinds T.numbers T.sizes 0 f
unfolding table_of
root_stands f e =
    subst (λ (T : NodeTable). Stands T.kinds T.numbers T.sizes 0 f) (sym e) (stands (nodes_of f 0) (node f 0) 0 (begins_whole f 0))

module _ (C k : ℕ) (t : List ℕ) (i j : ℕ) (recording : List ℕ) where
  abbrev ending : Reply → Result Bool Refusal → Result Bool Refusal
  ending q = asked (q ∷ ask_recording k recording ∷ ask_bytes C recording ∷ []) Err

  abbrev answer : Read Formula → Result Bool Refusal
  answer f = Ok (read_holds recording f (record { i = i; j = j }))

  pub refused_first : {r : Refusal} → Err r ≡ tabled_of C k t → Err r ≡ evaluated C k i j t recording
  unfolding evaluated
  refused_first h = first.refused_first C k t h Err (answer (read t)) (recording_questions C k i j recording)

  module _ {T : NodeTable} (e : Ok T ≡ tabled_of C k t) where
    interval_asked : {q : Reply} → ask_interval i j k ≡ q → {b : Result Bool Refusal}
        → ((f : Tree Formula) → TableFor max_channels f T → b ≡ ending q (answer (parsed f))) → b ≡ evaluated C k i j t recording
    unfolding evaluated
    interval_asked h g =
        first.called C k t e Err answer (λ f. recording_questions C k i j recording) (λ f n. g f n ∙ ap (λ (q : Reply). ending q (answer (parsed f))) (sym h))

    pub not_made : {r : Refusal} → Err r ≡ made_of i j k → Err r ≡ evaluated C k i j t recording
    not_made h = interval_asked (made_no i j k (first.limits C k t e).1 _ (sym h)) (λ f n. refl)

    module _ {v : Interval} (h : Ok v ≡ made_of i j k) where
      pub within : (C ≤ max_channels) × (k ≤ max_steps) × IntervalOf k v
      within = let l = first.limits C k t e in (l.0, l.1, (made_good i j k v (sym h)).1)

      pub answered : {b : Result Bool Refusal} → AtRow recording T.kinds T.numbers T.sizes Formula 0 (λ f. b ≡ judged C k recording (f v)) → b ≡ evaluated C k i j t recording
      answered {b} w =
          let m = made_yes i j k (first.limits C k t e).1 v (sym h) in
          interval_asked m.0
          (λ f n. w f n.letters (root_stands f n.is) ∙ ap (λ (v : Interval). judged C k recording (holds recording f v)) (sym m.1))
