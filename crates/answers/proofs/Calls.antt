-- The number that a call gives tells its answer: a refusal's number is one of those that document 01 lists for the call, all below 64,
-- and a node's first byte is a place of a text of at most 255 bytes.
use mathlib.Core.Path.{◌≡◌, refl}
use mathlib.Core.Logic.{⊎_elim}
use mathlib.Core.Bool.{Bool, true, ◌&&◌}
use mathlib.Core.List.Memᴰ
use mathlib.Core.List.{List, [], ◌∷◌, ◌++◌, Memᴰ}
use Prim.Native.Nat.{ℕ, ◌-◌, ◌<◌, ◌≤◌}
use native.Mathlib.Omega.{arith}
use lib.Dec.{ltb}
use lib.ListN.{length, drop}
use borrow.Author.Tests.{ltb-true}
use Rattle.std.specs.Prelude.{Ok, Err}
use Rattle.refusal.specs.Asked.{asked, AllYes, Asks, Reply, ok}
use Rattle.refusal.specs.declared.Refusal.{Refusal}
use Rattle.refusal.proofs.Laws.{all_yes_answers}
use Rattle.refusal.proofs.Numbers.{asked_meets}
use Rattle.paper_grammar.specs.Limits.{max_length}
use Rattle.paper_grammar.specs.Trees.{text_of}
use Rattle.paper_grammar.specs.Reader.{read}
use Rattle.lists.proofs.Tests.{both}
use Rattle.paper_grammar.specs.Nodes.{Node, nodes_in}
use Rattle.paper_grammar.specs.Questions.{formula_questions}
use Rattle.formula_text.proofs.Laws.{accepted}
use Rattle.node_calls.specs.Calls.{node_questions, node_refusal_of, part_place, node_place_of}
use Rattle.node_calls.proofs.Laws.{both_yes, part_within}
use Rattle.truth_calls.specs.Evaluation.{recording_questions, read_holds, evaluated}
use Rattle.table_calls.specs.Table.{After, ask_room, table_questions, tabled}
use Rattle.table_layout.specs.declared.Sizes.{Sizes}
use Rattle.paper_assignments.specs.Calls.{extension_questions, Extended, extended, proposal_questions, Proposed, proposed}
use Rattle.file_numbers.specs.File.{sizes_at}
use Rattle.file_questions.specs.Questions.{ask_file_room, array_questions, file_questions}
use Rattle.file_calls.specs.Calls.{FileAfter, file_written, file_read}
use Rattle.paper_search.specs.Search.{search_questions, Searched, tree_in, searched}
use Rattle.paper_search.specs.declared.Lent.{Lent}
use Rattle.paper_search.proofs.Ends.{End, finds, lacks, spends, end}
use Rattle.strip.specs.Strip.{strip_of}
use Rattle.strip.specs.Call.{strip_questions, Stripped, stripped}
use Rattle.answers.specs.Answers.{pack_printed, printed_by}
use Rattle.answers.specs.Answers.{Told, pack_verdict, verdict_by, pack_written, written_by, pack_checked, checked_by, pack_answer, answer_by, pack_located, located_by}
use Rattle.answers.specs.Numbers.{node_numbers, evaluation_numbers, table_numbers, search_numbers, extension_numbers, proposal_numbers, file_numbers, strip_numbers}
use Rattle.answers.proofs.Asks.{node_asks, evaluation_asks, table_asks, search_asks, extension_asks, proposal_asks, writer_asks, reader_asks, strip_asks}
use Rattle.answers.proofs.Told.{verdict_refused, written_refused, checked_refused, answer_refused, located_refused, verdict_told, done_told}
use Rattle.answers.proofs.Told.{printed_refused, bytes_told, accepted_told, found_told, none_told, spent_told, part_told}

-- each number is below 64
abbrev each_below : List ℕ → Bool
each_below [] = true
each_below (n ∷ numbers) = ltb n 64 && each_below numbers

below : (x : ℕ) (numbers : List ℕ) → each_below numbers ≡ true → Memᴰ x numbers → x < 64
below x [] e m = absurd (Memᴰ.not-nil m)
below x (n ∷ numbers) e m =
    let w = both (ltb n 64) (each_below numbers) e in
    ⊎_elim (λ (e : x ≡ n). rw e (ltb-true n 64 w.0)) (λ (t : Memᴰ x numbers). below x numbers w.1 t) (Memᴰ.cases_cons m)

-- any call: what holds of a refusal by a number below 64, and of the answer once every question is answered with yes, holds of the call
call : {A : Type 0} (P : A → Type 0) {refused : Refusal → A} {answer : A} (numbers : List ℕ) (questions : List Reply)
    → Asks numbers questions → each_below numbers ≡ true → ((r : Refusal) → r.number < 64 → P (refused r)) → (AllYes questions → P answer)
    → P (asked questions refused answer)
call P numbers questions a e f g = asked_meets P numbers questions a (λ r m. f r (below r.number numbers e m)) g

module _ (C k : ℕ) (t : List ℕ) where
  pub evaluated_told : (i j : ℕ) (recording : List ℕ) → Told pack_verdict verdict_by (evaluated C k i j t recording)
  unfolding evaluated
  evaluated_told i j recording =
      call (Told pack_verdict verdict_by) evaluation_numbers (formula_questions C k t ++ recording_questions C k i j recording)
      (evaluation_asks C k t i j recording) refl verdict_refused (λ y. verdict_told (read_holds recording (read t) (record { i = i; j = j })))

  pub tabled_told : (sizes variables marks : List ℕ) → Told pack_written written_by (tabled C k t sizes variables marks).answer
  unfolding tabled
  tabled_told sizes variables marks =
      call (λ (x : After). Told pack_written written_by x.answer) table_numbers (table_questions C k t sizes variables marks)
      (table_asks C k t sizes variables marks) refl written_refused (λ y. done_told)

  pub extended_told : (recording assignment : List ℕ) → Told pack_written written_by (extended C k t recording assignment).answer
  unfolding extended
  extended_told recording assignment =
      call (λ (x : Extended). Told pack_written written_by x.answer) extension_numbers (extension_questions C k t recording assignment)
      (extension_asks C k t recording assignment) refl written_refused (λ y. done_told)

  pub proposed_told : (A recording : List ℕ) → Told pack_checked checked_by (proposed C k t A recording).answer
  unfolding proposed
  proposed_told A recording =
      call (λ (x : Proposed). Told pack_checked checked_by x.answer) proposal_numbers (proposal_questions C k t A recording)
      (proposal_asks C k t A recording) refl checked_refused (λ y. accepted_told)

  pub searched_told : (B : ℕ) (n : Lent) (recording : List ℕ) → Told pack_answer answer_by (searched C k t B n recording).answer
  unfolding searched
  searched_told B n recording =
      call (λ (x : Searched). Told pack_answer answer_by x.answer) search_numbers (search_questions C k t n) (search_asks C k t n) refl
      answer_refused (λ y. go (end C k B recording (tree_in C k t)))
    where
      go : {x : Searched} → End C k B recording (tree_in C k t) x → Told pack_answer answer_by x.answer
      go (finds S e l) = found_told (tree_in C k t).tries
      go (lacks e l) = none_told (tree_in C k t).tries
      go (spends l) = spent_told B

  pub located_told : (x : ℕ) → Told pack_located located_by (node_place_of C k x t)
  unfolding node_place_of node_refusal_of
  located_told x =
      call (Told pack_located located_by) node_numbers (node_questions C k x t) (node_asks C k t x) refl
      located_refused (λ y. go (drop (x - 1) (nodes_in t)) (all_yes_answers Err _ y) (short (all_yes_answers Err ok y)))
    where
      short : node_refusal_of C k x t ≡ ok → length t ≤ max_length
      short e = (accepted C k t (both_yes C k x t e).0).bytes.1

      go : (l : List Node) → node_place_of C k x t ≡ Ok (part_place l) → length t ≤ max_length → Told pack_located located_by (Ok (part_place l))
      go [] e h = part_told (part_place []) (omega arith)
      go (w ∷ l) e h = part_told (part_place (w ∷ l)) (omega (arith, part_within C k x t (part_place (w ∷ l)) e))

pub file_written_told : (s : Sizes) (variables marks file : List ℕ) → Told pack_written written_by (file_written s variables marks file).answer
unfolding file_written
file_written_told s variables marks file =
    call (λ (x : FileAfter). Told pack_written written_by x.answer) file_numbers
    (array_questions s variables marks ++ ask_file_room s.literals (length file) ∷ []) (writer_asks s variables marks file) refl written_refused (λ y. done_told)

pub file_read_told : (file sizes variables marks : List ℕ) → Told pack_written written_by (file_read file sizes variables marks).answer
unfolding file_read
file_read_told file sizes variables marks =
    call (λ (x : After). Told pack_written written_by x.answer) file_numbers
    (file_questions file ++ ask_room (sizes_at file).literals (length sizes) (length variables) (length marks) ∷ [])
    (reader_asks file sizes variables marks) refl written_refused (λ y. done_told)

pub stripped_told : (C k : ℕ) (recording strip : List ℕ) → Told pack_printed printed_by (stripped C k recording strip).answer
unfolding stripped
stripped_told C k recording strip =
    call (λ (x : Stripped). Told pack_printed printed_by x.answer) strip_numbers (strip_questions C k recording (length strip))
    (strip_asks C k recording (length strip)) refl printed_refused (λ y. bytes_told (length (strip_of C k recording)))
