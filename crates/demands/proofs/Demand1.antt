-- DEMAND 1, of every call and every input. That no input makes a call read or write outside what it was lent, or fail to end, is the
-- language's: Rattle takes no function of which that is not proved. What is left is said here, each line citing the theorem behind it: a
-- refusal's number is one of those that document 01 lists for the call, the first no in that order, and every lent array is as it was;
-- where a call is not refused, only the places that document 01 names are written (`Orderly`). And the number that C gets tells the answer.
use mathlib.Core.Path.{◌≡◌}
use mathlib.Core.List.{List, [], ◌∷◌, ◌++◌}
use Prim.Native.Nat.{ℕ, ◌+◌, ◌*◌}
use lib.ListN.{length}
use Rattle.std.specs.Prelude.{Err}
use Rattle.refusal.specs.declared.Refusal.{Refusal}
use Rattle.paper_grammar.specs.Nodes.{nodes_in}
use Rattle.paper_grammar.specs.Questions.{formula_questions}
use Rattle.node_calls.specs.Calls.{node_questions, node_place_of, node_text_of, node_refusal_of}
use Rattle.paper_circuit.specs.Circuit.{variables_of}
use Rattle.paper_clauses.specs.Entries.{places_in}
use Rattle.table_calls.specs.Table.{ask_room, table_questions, After, refused, tabled}
use Rattle.table_layout.specs.declared.Sizes.{Sizes}
use Rattle.truth_calls.specs.Evaluation.{recording_questions, evaluated}
use Rattle.paper_assignments.specs.Calls.{extension_questions, Extended, not_extended, extended, proposal_questions, Proposed, not_accepted, proposed}
use Rattle.paper_search.specs.Search.{Searched, unwritten, lent_of, search_questions, searched}
use Rattle.paper_search.specs.declared.Lent.{Lent}
use Rattle.file_numbers.specs.File.{file_length, sizes_at}
use Rattle.file_questions.specs.Questions.{ask_file_room, array_questions, file_questions}
use Rattle.file_calls.specs.Calls.{FileAfter, file_refused, file_written, file_read}
use Rattle.strip.specs.Strip.{line_bytes}
use Rattle.strip.specs.Call.{strip_questions, Stripped, not_stripped, stripped}
use Rattle.answers.specs.Answers.{pack_printed, printed_by}
use Rattle.answers.specs.Answers.{Told, pack_verdict, verdict_by, pack_written, written_by, pack_checked, checked_by, pack_answer, answer_by, pack_located, located_by}
use Rattle.answers.specs.Numbers.{node_numbers, evaluation_numbers, table_numbers, search_numbers, extension_numbers, proposal_numbers, file_numbers, strip_numbers}
use Rattle.answers.proofs.Calls.{evaluated_told, located_told, tabled_told, extended_told, proposed_told, searched_told, file_written_told, file_read_told, stripped_told}
use Rattle.demands.specs.Demand1.{Kept, Orderly}
use Rattle.demands.proofs.Orderly.{evaluation_orderly, node_orderly, node_refused, table_orderly, extension_orderly, check_orderly, search_orderly}
use Rattle.demands.proofs.Orderly.{writer_orderly, reader_orderly, strip_orderly}

module _ (C k : ℕ) (t : List ℕ) where
  -- "evaluation [asks] 1 to 7 and 9 to 11"; it writes nothing
  pub evaluation : (i j : ℕ) (recording : List ℕ)
      → Orderly (λ v. v) Err evaluation_numbers (formula_questions C k t ++ recording_questions C k i j recording) Err (λ v. Unit)
      (evaluated C k i j t recording)
  evaluation = evaluation_orderly C k t

  -- "Node text asks 1 to 8"; refused, it is the empty part, and "a second call on the same values gives the number and place"
  pub node_text : (x : ℕ) → Orderly (λ l. l) Err node_numbers (node_questions C k x t) Err (λ l. Unit) (node_place_of C k x t)
  node_text = node_orderly C k t

  pub node_text_refused : (x : ℕ) (r : Refusal) → node_place_of C k x t ≡ Err r → (node_text_of C k x t ≡ []) × (node_refusal_of C k x t ≡ Err r)
  node_text_refused = node_refused C k t

  -- "the table and the search 1 to 7 and 18"; five sizes and L places of either array
  pub table : (sizes variables marks : List ℕ)
      → Orderly (λ (x : After). x.answer) Err table_numbers (table_questions C k t sizes variables marks) (refused sizes variables marks)
      (λ x. Kept 5 sizes x.sizes × Kept (length (places_in C k t)) variables x.variables × Kept (length (places_in C k t)) marks x.marks)
      (tabled C k t sizes variables marks)
  table = table_orderly C k t

  -- k bytes of the recording, on found alone; what the work arrays hold after a search is free, and refused they are as they were (`Contract`)
  pub search : (B : ℕ) (variables marks values trail recording : List ℕ)
      → Orderly (λ (x : Searched). x.answer) Err search_numbers (search_questions C k t (lent_of variables marks values trail recording))
      (λ r. unwritten recording (Err r)) (λ x. Kept k recording x.recording)
      (searched C k t B (lent_of variables marks values trail recording) recording)
  search = search_orderly C k t

  -- "the extension of a recording 1 to 7, 10, 11 and 18"; V bytes
  pub extension : (recording assignment : List ℕ)
      → Orderly (λ (x : Extended). x.answer) Err extension_numbers (extension_questions C k t recording assignment) (not_extended assignment)
      (λ x. Kept (variables_of C k (nodes_in t)) assignment x.assignment) (extended C k t recording assignment)
  extension = extension_orderly C k t

  -- "a proposed assignment 1 to 7, 12 to 14 and 18"; k bytes
  pub check : (A recording : List ℕ)
      → Orderly (λ (x : Proposed). x.answer) Err proposal_numbers (proposal_questions C k t A recording) (not_accepted recording)
      (λ x. Kept k recording x.recording) (proposed C k t A recording)
  check = check_orderly C k t

-- "the file's reader and its writer 15 to 18"; 20 + 5L bytes
pub file_writer : (s : Sizes) (variables marks file : List ℕ)
    → Orderly (λ (x : FileAfter). x.answer) Err file_numbers (array_questions s variables marks ++ ask_file_room s.literals (length file) ∷ [])
    (file_refused file) (λ x. Kept (file_length s.literals) file x.file) (file_written s variables marks file)
file_writer = writer_orderly

-- five sizes and L places of either array
pub file_reader : (file sizes variables marks : List ℕ)
    → Orderly (λ (x : After). x.answer) Err file_numbers
    (file_questions file ++ ask_room (sizes_at file).literals (length sizes) (length variables) (length marks) ∷ []) (refused sizes variables marks)
    (λ x. Kept 5 sizes x.sizes × Kept (sizes_at file).literals variables x.variables × Kept (sizes_at file).literals marks x.marks)
    (file_read file sizes variables marks)
file_reader = reader_orderly

-- document 02, C-11: "Printing asks 1, 2, 10, 11 and 18."; C + 1 lines
pub strip : (C k : ℕ) (recording lent : List ℕ)
    → Orderly (λ (x : Stripped). x.answer) Err strip_numbers (strip_questions C k recording (length lent)) (not_stripped lent)
    (λ x. Kept ((C + 1) * line_bytes) lent x.strip) (stripped C k recording lent)
strip = strip_orderly

-- ---- the numbers that C gets: what is decoded from a call's number is its answer, so no two answers of a call have one number

pub evaluation_number : (C k : ℕ) (t : List ℕ) (i j : ℕ) (recording : List ℕ) → Told pack_verdict verdict_by (evaluated C k i j t recording)
evaluation_number = evaluated_told

pub node_number : (C k : ℕ) (t : List ℕ) (x : ℕ) → Told pack_located located_by (node_place_of C k x t)
node_number = located_told

pub table_number : (C k : ℕ) (t sizes variables marks : List ℕ) → Told pack_written written_by (tabled C k t sizes variables marks).answer
table_number = tabled_told

pub search_number : (C k : ℕ) (t : List ℕ) (B : ℕ) (n : Lent) (recording : List ℕ) → Told pack_answer answer_by (searched C k t B n recording).answer
search_number = searched_told

pub extension_number : (C k : ℕ) (t recording assignment : List ℕ) → Told pack_written written_by (extended C k t recording assignment).answer
extension_number = extended_told

pub check_number : (C k : ℕ) (t A recording : List ℕ) → Told pack_checked checked_by (proposed C k t A recording).answer
check_number = proposed_told

pub writer_number : (s : Sizes) (variables marks file : List ℕ) → Told pack_written written_by (file_written s variables marks file).answer
writer_number = file_written_told

pub reader_number : (file sizes variables marks : List ℕ) → Told pack_written written_by (file_read file sizes variables marks).answer
reader_number = file_read_told

pub strip_number : (C k : ℕ) (recording lent : List ℕ) → Told pack_printed printed_by (stripped C k recording lent).answer
strip_number = stripped_told
