-- Each call's questions have the numbers that document 01 lists for it, in that order:
-- each question's own law gives its number, and those of the formula stand first.
use mathlib.Core.List.{List, [], ◌∷◌, ◌++◌}
use Prim.Native.Nat.{ℕ, ◌^◌}
use lib.ListN.{length}
use Rattle.refusal.specs.Asked.{Asks, ask_places, Reply}
use Rattle.refusal.proofs.Numbers.{asks_append, places_gives}
use Rattle.interval.proofs.Gives.{steps_gives, interval_gives}
use Rattle.paper_grammar.specs.Nodes.{nodes_in}
use Rattle.paper_grammar.specs.Questions.{formula_questions}
use Rattle.paper_grammar.proofs.Gives.{channels_gives, formula_asks}
use Rattle.node_calls.specs.Calls.{ask_node, node_questions}
use Rattle.node_calls.proofs.Gives.{node_gives}
use Rattle.paper_circuit.specs.Circuit.{variables_of}
use Rattle.paper_meaning.specs.Recording.{ask_recording, ask_bytes}
use Rattle.truth_calls.specs.Evaluation.{recording_questions}
use Rattle.paper_meaning.proofs.Recording.{recording_gives, below_gives}
use Rattle.paper_clauses.specs.Entries.{places_in}
use Rattle.table_calls.specs.Table.{ask_room, table_questions}
use Rattle.table_layout.specs.declared.Sizes.{Sizes}
use Rattle.table_calls.proofs.Gives.{room_gives}
use Rattle.paper_assignments.specs.Extension.{value_in}
use Rattle.paper_assignments.specs.Calls.{ask_assignment, ask_values, ask_clauses, clauses_in, extension_questions, proposal_questions}
use Rattle.paper_assignments.proofs.Gives.{assignment_gives, clauses_gives}
use Rattle.file_numbers.specs.File.{sizes_at, variables_at, marks_at}
use Rattle.file_questions.specs.Questions.{ask_file_room, array_questions, file_questions}
use Rattle.file_questions.proofs.Gives.{file_gives, arrays_gives, entries_gives, closed_gives, bytes_gives}
use Rattle.paper_search.specs.Search.{ask_lent, search_questions}
use Rattle.paper_search.specs.declared.Lent.{Lent}
use Rattle.paper_search.proofs.Gives.{lent_gives}
use Rattle.strip.specs.Strip.{strip_of}
use Rattle.strip.specs.Call.{strip_questions}
use Rattle.answers.specs.Numbers.{formula_numbers, node_numbers, evaluation_numbers, table_numbers, search_numbers, extension_numbers, proposal_numbers, file_numbers, strip_numbers}

module _ (C k : ℕ) (t : List ℕ) where
  then_asks : (numbers : List ℕ) (questions : List Reply) → Asks numbers questions → Asks (formula_numbers ++ numbers) (formula_questions C k t ++ questions)
  then_asks numbers questions a = asks_append formula_numbers numbers (formula_questions C k t) questions (formula_asks C k t) a

  pub node_asks : (x : ℕ) → Asks node_numbers (node_questions C k x t)
  node_asks x = then_asks (8 ∷ []) (ask_node x t ∷ []) (node_gives x t, tt)

  pub evaluation_asks : (i j : ℕ) (recording : List ℕ) → Asks evaluation_numbers (formula_questions C k t ++ recording_questions C k i j recording)
  evaluation_asks i j recording =
      then_asks (9 ∷ 10 ∷ 11 ∷ []) (recording_questions C k i j recording)
      (interval_gives i j k, (recording_gives k recording, (below_gives 11 (2 ^ C) recording, tt)))

  pub table_asks : (sizes variables marks : List ℕ) → Asks table_numbers (table_questions C k t sizes variables marks)
  table_asks sizes variables marks =
      then_asks (18 ∷ []) (ask_room (length (places_in C k t)) (length sizes) (length variables) (length marks) ∷ [])
      (room_gives (length (places_in C k t)) (length sizes) (length variables) (length marks), tt)

  pub search_asks : (n : Lent) → Asks search_numbers (search_questions C k t n)
  search_asks n =
      then_asks (18 ∷ []) (ask_lent (length (places_in C k t)) (variables_of C k (nodes_in t)) k n ∷ [])
      (lent_gives (length (places_in C k t)) (variables_of C k (nodes_in t)) k n, tt)

  pub extension_asks : (recording assignment : List ℕ) → Asks extension_numbers (extension_questions C k t recording assignment)
  extension_asks recording assignment =
      then_asks (10 ∷ 11 ∷ 18 ∷ []) (ask_recording k recording ∷ ask_bytes C recording ∷ ask_places (variables_of C k (nodes_in t)) (length assignment) ∷ [])
      (recording_gives k recording, (below_gives 11 (2 ^ C) recording, (places_gives (variables_of C k (nodes_in t)) (length assignment), tt)))

  pub proposal_asks : (A recording : List ℕ) → Asks proposal_numbers (proposal_questions C k t A recording)
  proposal_asks A recording =
      then_asks (12 ∷ 13 ∷ 14 ∷ 18 ∷ [])
      (ask_assignment (variables_of C k (nodes_in t)) A ∷ ask_values A ∷ ask_clauses (value_in A) 0 (clauses_in C k t) ∷ ask_places k (length recording) ∷ []) (
        assignment_gives (variables_of C k (nodes_in t)) A,
        (below_gives 13 2 A, (clauses_gives (value_in A) 0 (clauses_in C k t), (places_gives k (length recording), tt))),
      )

pub writer_asks : (s : Sizes) (variables marks file : List ℕ)
    → Asks file_numbers (array_questions s variables marks ++ ask_file_room s.literals (length file) ∷ [])
writer_asks s variables marks file = (
  arrays_gives s.literals (length variables) (length marks),
  (entries_gives s variables marks, (closed_gives s.clauses marks, (bytes_gives s.literals (length file), tt))),
)

pub reader_asks : (file sizes variables marks : List ℕ)
    → Asks file_numbers (file_questions file ++ ask_room (sizes_at file).literals (length sizes) (length variables) (length marks) ∷ [])
reader_asks file sizes variables marks = (
  file_gives file,
  (
    entries_gives (sizes_at file) (variables_at file) (marks_at file),
    (closed_gives (sizes_at file).clauses (marks_at file), (room_gives (sizes_at file).literals (length sizes) (length variables) (length marks), tt)),
  ),
)

pub strip_asks : (C k : ℕ) (recording : List ℕ) (room : ℕ) → Asks strip_numbers (strip_questions C k recording room)
strip_asks C k recording room = (
  channels_gives C,
  (steps_gives k, (recording_gives k recording, (below_gives 11 (2 ^ C) recording, (places_gives (length (strip_of C k recording)) room, tt)))),
)
