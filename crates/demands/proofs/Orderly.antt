-- A call that is refused is refused by the first no, since its other answers are no refusals; one that is not has had every question
-- answered with yes, 18 among them, so what it writes over an array fits there and leaves the rest.
use mathlib.Core.Path.{◌≡◌, refl, sym, ap, ◌∙◌, subst}
use mathlib.Core.Logic.{⊎_elim, ◌≢◌}
use mathlib.Core.Bool.{◌&&◌, Bool, true, false, false≢true}
use mathlib.Core.List.{List, [], ◌∷◌, ◌++◌}
use Prim.Native.Nat.{ℕ, ◌+◌, ◌*◌, ◌≤◌, ◌-◌}
use native.Mathlib.Omega.{arith}
use lib.Dec.{leb}
use lib.ListN.{length, drop, length-append, length-drop, length-map}
use lib.Seq.{drop-append_seam}
use borrow.Author.Tests.{leb-true}
use Rattle.std.specs.Prelude.{Result, Ok, Err}
use Rattle.refusal.specs.Asked.{asked, AllYes, FirstNo, here, later, Asks, ask_places, Reply, ok}
use Rattle.refusal.specs.declared.Refusal.{Refusal}
use Rattle.refusal.proofs.Laws.{all_yes_or_first_no, first_no_answers, all_yes_answers, test_yes, one_yes}
use Rattle.refusal.proofs.Numbers.{first_no_number}
use Rattle.lists.proofs.Tests.{both}
use Rattle.table_calls.specs.Table.{ask_room, sizes_in, five_of, table_questions, After, refused, tabled}
use Rattle.paper_clauses.specs.Entries.{places_in, Entry, variables_in, marks_in}
use Rattle.moments.specs.Moments.{over}
use Rattle.paper_assignments.specs.Calls.{extension_questions, Extended, not_extended, extended, proposal_questions, Proposed, not_accepted, proposed}
use Rattle.paper_assignments.specs.Extension.{recording_by, value_in, extension_of, recording_of}
use Rattle.paper_assignments.proofs.Recordings.{recording_length}
use Rattle.paper_closure.specs.Runs.{high_in}
use Rattle.paper_closure.specs.Tree.{Trial}
use Rattle.paper_search.specs.Search.{ask_lent, Searched, tree_in, unwritten, lent_of, search_questions, searched}
use Rattle.paper_search.specs.declared.Lent.{Lent}
use Rattle.paper_search.proofs.Ends.{End, finds, lacks, spends, end}
use Rattle.paper_grammar.specs.Reader.{read}
use Rattle.paper_grammar.specs.Nodes.{Node, nodes_in}
use Rattle.paper_grammar.specs.Questions.{formula_questions, accept_of}
use Rattle.node_calls.specs.declared.Span.{Span}
use Rattle.node_calls.specs.Calls.{node_questions, part_place, part_of, node_place_of, node_text_of, node_refusal_of}
use Rattle.paper_circuit.specs.Circuit.{variables_of}
use Rattle.table_layout.specs.declared.Sizes.{Sizes}
use Rattle.truth_calls.specs.Evaluation.{recording_questions, read_holds, evaluated}
use Rattle.paper_assignments.proofs.Values.{extension_length}
use Rattle.file_numbers.specs.File.{file_of, file_length, sizes_at, variables_at, marks_at}
use Rattle.file_questions.specs.Questions.{ask_file_room, array_questions, file_questions}
use Rattle.file_calls.specs.Calls.{FileAfter, file_refused, file_written, file_read}
use Rattle.file_questions.proofs.Asking.{length_written, room_written, file_held}
use Rattle.file_numbers.proofs.Stored.{variables_count, marks_count}
use Rattle.file_calls.proofs.Writable.{five_sizes}
use Rattle.strip.specs.Strip.{strip_of, line_bytes}
use Rattle.strip.specs.Call.{recorded_questions, strip_questions, Stripped, not_stripped, stripped}
use Rattle.answers.specs.Numbers.{node_numbers, evaluation_numbers, table_numbers, search_numbers, extension_numbers, proposal_numbers, file_numbers, strip_numbers}
use Rattle.answers.proofs.Asks.{node_asks, evaluation_asks, table_asks, search_asks, extension_asks, proposal_asks, writer_asks, reader_asks, strip_asks}
use Rattle.demands.specs.Demand1.{Kept, Orderly}
use Rattle.demands.proofs.Obeyed.{yes_both}
use Rattle.demands.proofs.Strips.{strip_bytes}
use Rattle.demands.proofs.Search.{never_refused}

-- a call by its questions: its answer is no refusal, and once every question is answered with yes it leaves what it should
module _ {A B : Type 0} (tell : A → B) (refusal : Refusal → B) (same : (s r : Refusal) → refusal s ≡ refusal r → s ≡ r)
    {refused : Refusal → A} (answer : A) (told : (r : Refusal) → tell (refused r) ≡ refusal r) (never : (r : Refusal) → tell answer ≢ refusal r) where
  first_no : (questions : List Reply) {r : Refusal} → tell (asked questions refused answer) ≡ refusal r → FirstNo questions r
  first_no [] {r} e = absurd (never r e)
  first_no (Ok _ ∷ q) e = later (first_no q e)
  first_no (Err s ∷ q) {r} e = subst (FirstNo (Err s ∷ q)) (same s r (sym (told s) ∙ e)) here

  orderly : (numbers : List ℕ) (questions : List Reply) (Left : A → Type 0) → Asks numbers questions → (AllYes questions → Left answer)
      → Orderly tell refusal numbers questions refused Left (asked questions refused answer)
  orderly numbers questions Left a left = record {
    asks = a;
    refusals = λ r e. let f = first_no questions e in (f, first_no_number numbers questions a f, first_no_answers refused answer f);
    writes = λ n. ⊎_elim (λ y. subst Left (sym (all_yes_answers refused answer y)) (left y))
        (λ f. absurd (n f.0 (ap tell (first_no_answers refused answer f.1) ∙ told f.0))) (all_yes_or_first_no questions);
  }

-- ---- what is written over an array

over_keeps : (n : ℕ) (new old : List ℕ) → length new ≡ n → n ≤ length old → Kept n old (over new old)
over_keeps n new old e h = subst (λ (n : ℕ). Kept n old (over new old)) e (record {
  long = omega (arith, e, length-append new (drop (length new) old), length-drop (length new) old);
  beyond = drop-append_seam new (drop (length new) old);
})

same_keeps : (n : ℕ) (old new : List ℕ) → new ≡ old → Kept n old new
same_keeps n old new e = subst (Kept n old) (sym e) (record { long = refl; beyond = refl })

-- question 18 of a table's arrays
room_yes : (L sizes variables marks : ℕ) → ask_room L sizes variables marks ≡ ok → (5 ≤ sizes) × (L ≤ variables) × (L ≤ marks)
unfolding ask_room
room_yes L sizes variables marks e =
    let w = both (leb 5 sizes && leb L variables) (leb L marks) (test_yes 18 0 _ e) in
    let v = both (leb 5 sizes) (leb L variables) w.0 in
    (leb-true 5 sizes v.0, leb-true L variables v.1, leb-true L marks w.1)

-- and of one output
places_yes : (n places : ℕ) → ask_places n places ≡ ok → n ≤ places
unfolding ask_places
places_yes n places e = leb-true n places (test_yes 18 0 _ e)

-- and of the search's recording
lent_yes : (literals variables k : ℕ) (n : Lent) → ask_lent literals variables k n ≡ ok → k ≤ n.recording
unfolding ask_lent
lent_yes literals variables k n e =
    let others = leb literals n.variables && leb literals n.marks && leb variables n.values && leb variables n.trail in
    leb-true k n.recording (both others (leb k n.recording) (test_yes 18 0 _ e)).1

-- a search writes on found alone
ended_keeps : {C k B : ℕ} {recording : List ℕ} {t : Trial} {x : Searched} → End C k B recording t x → k ≤ length recording → Kept k recording x.recording
ended_keeps {C} {k} {B} {recording} (finds S e l) h = over_keeps k (recording_by C k (high_in S)) recording (recording_length C k (high_in S)) h
ended_keeps {C} {k} {B} {recording} (lacks e l) h = same_keeps k recording recording refl
ended_keeps {C} {k} {B} {recording} (spends l) h = same_keeps k recording recording refl

-- ---- the calls

module _ (C k : ℕ) (t : List ℕ) where
  pub evaluation_orderly : (i j : ℕ) (recording : List ℕ)
      → Orderly (λ v. v) Err evaluation_numbers (formula_questions C k t ++ recording_questions C k i j recording) Err (λ v. Unit) (evaluated C k i j t recording)
  unfolding evaluated
  evaluation_orderly i j recording =
      orderly (λ v. v) Err (λ s r q. cc) _ (λ r. refl) (never (read_holds recording (read t) (record { i = i; j = j }))) evaluation_numbers _ _
      (evaluation_asks C k t i j recording) (λ y. tt)
    where
      never : (b : Bool) (r : Refusal) → ◌≢◌ {A = Result Bool Refusal} (Ok b) (Err r)
      never true r q = absurd (false≢true cc)
      never false r q = absurd (false≢true cc)

  pub node_orderly : (x : ℕ) → Orderly (λ l. l) Err node_numbers (node_questions C k x t) Err (λ l. Unit) (node_place_of C k x t)
  unfolding node_place_of
  node_orderly x = orderly (λ l. l) Err (λ s r q. cc) _ (λ r. refl) (never (drop (x - 1) (nodes_in t))) node_numbers _ _ (node_asks C k t x) (λ y. tt)
    where
      never : (l : List Node) (r : Refusal) → ◌≢◌ {A = Result Span Refusal} (Ok (part_place l)) (Err r)
      never [] r q = absurd (false≢true cc)
      never (w ∷ l) r q = absurd (false≢true cc)

  -- where it is refused, a node's text is the empty part, and the second call gives the number and place
  pub node_refused : (x : ℕ) (r : Refusal) → node_place_of C k x t ≡ Err r → (node_text_of C k x t ≡ []) × (node_refusal_of C k x t ≡ Err r)
  unfolding node_text_of node_refusal_of
  node_refused x r e = (ap (part_of t) e, first_no_answers Err ok ((node_orderly x).refusals r e).0)

  pub table_orderly : (sizes variables marks : List ℕ)
      → Orderly (λ (x : After). x.answer) Err table_numbers (table_questions C k t sizes variables marks) (refused sizes variables marks)
      (λ x. Kept 5 sizes x.sizes × Kept (length (places_in C k t)) variables x.variables × Kept (length (places_in C k t)) marks x.marks) (tabled C k t sizes variables marks)
  unfolding tabled accept_of
  table_orderly sizes variables marks =
      let F = places_in C k t in
      orderly (λ (x : After). x.answer) Err (λ s r q. cc) _ (λ r. refl) (λ r q. absurd (false≢true cc)) table_numbers
      (table_questions C k t sizes variables marks) _ (table_asks C k t sizes variables marks)
      (λ y. let w = yes_both (formula_questions C k t) _ y in
      let h = room_yes (length F) (length sizes) (length variables) (length marks) (one_yes w.1).0 in (
        over_keeps 5 (sizes_in C k t) sizes (five_sizes C k t (all_yes_answers Err ok w.0)).0 h.0,
        over_keeps (length F) (variables_in F) variables (length-map F (λ (x : Entry). x.variable)) h.1,
        over_keeps (length F) (marks_in F) marks (length-map F (λ (x : Entry). x.mark)) h.2,
      ))

  pub extension_orderly : (recording assignment : List ℕ)
      → Orderly (λ (x : Extended). x.answer) Err extension_numbers (extension_questions C k t recording assignment) (not_extended assignment)
      (λ x. Kept (variables_of C k (nodes_in t)) assignment x.assignment) (extended C k t recording assignment)
  unfolding extended
  extension_orderly recording assignment =
      orderly (λ (x : Extended). x.answer) Err (λ s r q. cc) _ (λ r. refl) (λ r q. absurd (false≢true cc)) extension_numbers
      (extension_questions C k t recording assignment) _ (extension_asks C k t recording assignment)
      (λ y. over_keeps _ (extension_of C k recording (nodes_in t)) assignment (extension_length C k recording (nodes_in t))
      (places_yes _ _ (one_yes (one_yes (one_yes (yes_both (formula_questions C k t) _ y).1).1).1).0))

  pub check_orderly : (A recording : List ℕ)
      → Orderly (λ (x : Proposed). x.answer) Err proposal_numbers (proposal_questions C k t A recording) (not_accepted recording)
      (λ x. Kept k recording x.recording) (proposed C k t A recording)
  unfolding proposed
  check_orderly A recording =
      orderly (λ (x : Proposed). x.answer) Err (λ s r q. cc) _ (λ r. refl) (λ r q. absurd (false≢true cc)) proposal_numbers
      (proposal_questions C k t A recording) _ (proposal_asks C k t A recording)
      (λ y. over_keeps k (recording_of C k A) recording (recording_length C k (value_in A))
      (places_yes _ _ (one_yes (one_yes (one_yes (one_yes (yes_both (formula_questions C k t) _ y).1).1).1).1).0))

  pub search_orderly : (B : ℕ) (variables marks values trail recording : List ℕ)
      → Orderly (λ (x : Searched). x.answer) Err search_numbers (search_questions C k t (lent_of variables marks values trail recording)) (λ r. unwritten recording (Err r))
      (λ x. Kept k recording x.recording) (searched C k t B (lent_of variables marks values trail recording) recording)
  unfolding searched
  search_orderly B variables marks values trail recording =
      let n = lent_of variables marks values trail recording in
      let e = end C k B recording (tree_in C k t) in
      orderly (λ (x : Searched). x.answer) Err (λ s r q. cc) _ (λ r. refl) (never_refused e) search_numbers (search_questions C k t n) _ (search_asks C k t n)
      (λ y. ended_keeps e (lent_yes (length (places_in C k t)) (variables_of C k (nodes_in t)) k n (one_yes (yes_both (formula_questions C k t) _ y).1).0))

pub writer_orderly : (s : Sizes) (variables marks file : List ℕ)
    → Orderly (λ (x : FileAfter). x.answer) Err file_numbers (array_questions s variables marks ++ ask_file_room s.literals (length file) ∷ []) (file_refused file)
    (λ x. Kept (file_length s.literals) file x.file) (file_written s variables marks file)
unfolding file_written
writer_orderly s variables marks file =
    orderly (λ (x : FileAfter). x.answer) Err (λ s r q. cc) _ (λ r. refl) (λ r q. absurd (false≢true cc)) file_numbers _ _ (writer_asks s variables marks file)
    (λ y. let w = yes_both (array_questions s variables marks) _ y in
    let a = all_yes_answers Err ok w.0 in
    let l = length_written s variables marks a in
    over_keeps _ (file_of (five_of s) variables marks) file l (omega (arith, l, room_written s variables marks a file (one_yes w.1).0)))

pub reader_orderly : (file sizes variables marks : List ℕ)
    → Orderly (λ (x : After). x.answer) Err file_numbers
    (file_questions file ++ ask_room (sizes_at file).literals (length sizes) (length variables) (length marks) ∷ []) (refused sizes variables marks)
    (λ x. Kept 5 sizes x.sizes × Kept (sizes_at file).literals variables x.variables × Kept (sizes_at file).literals marks x.marks) (file_read file sizes variables marks)
unfolding file_read
reader_orderly file sizes variables marks =
    let L = (sizes_at file).literals in
    orderly (λ (x : After). x.answer) Err (λ s r q. cc) _ (λ r. refl) (λ r q. absurd (false≢true cc)) file_numbers _ _ (reader_asks file sizes variables marks)
    (λ y. let w = yes_both (file_questions file) _ y in
    let held = file_held file (one_yes w.0).0 refl in
    let h = room_yes L (length sizes) (length variables) (length marks) (one_yes w.1).0 in (
      over_keeps 5 (five_of (sizes_at file)) sizes refl h.0,
      over_keeps L (variables_at file) variables (sym (variables_count held)) h.1,
      over_keeps L (marks_at file) marks (marks_count held) h.2,
    ))

pub strip_orderly : (C k : ℕ) (recording strip : List ℕ)
    → Orderly (λ (x : Stripped). x.answer) Err strip_numbers (strip_questions C k recording (length strip)) (not_stripped strip)
    (λ x. Kept ((C + 1) * line_bytes) strip x.strip) (stripped C k recording strip)
unfolding stripped
strip_orderly C k recording strip =
    orderly (λ (x : Stripped). x.answer) Err (λ s r q. cc) _ (λ r. refl) (λ r q. absurd (false≢true cc)) strip_numbers _ _
    (strip_asks C k recording (length strip))
    (λ y. let l = strip_bytes C k recording strip y in
    over_keeps _ (strip_of C k recording) strip l (omega (arith, l, places_yes _ _ (one_yes (yes_both (recorded_questions C k recording) _ y).1).0)))
