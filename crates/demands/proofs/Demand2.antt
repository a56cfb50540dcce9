-- DEMAND 2, of every text, C, k, recording, assignment, table, file and strip: what our calls' answers say. Each line cites the theorem behind it.
-- The calls are proved to answer by these definitions (`evaluated`, `tabled`, ..), so whatever is said of a definition holds of the call.
use mathlib.Core.Path.{◌≡◌, refl}
use mathlib.Core.Bool.{true, false, ◌&&◌}
use mathlib.Core.List.{List, [], ◌∷◌, ◌++◌}
use Prim.Native.Nat.{ℕ, ◌+◌, ◌-◌, ◌*◌, ◌^◌, ◌≤◌}
use lib.Dec.{leb}
use lib.ListN.{length, take}
use Rattle.std.specs.Prelude.{Err, Ok}
use Rattle.refusal.specs.Asked.{question, asked, AllYes, FirstNo, ask_places, ok}
use Rattle.refusal.specs.declared.Refusal.{Refusal}
use Rattle.interval.specs.Limits.{ask_interval}
use Rattle.paper_grammar.specs.Trees.{Tree}
use Rattle.paper_grammar.specs.declared.Sort.TheVariants.{Formula}
use Rattle.paper_grammar.specs.Nodes.{nodes_of}
use Rattle.paper_grammar.specs.Questions.{accept_of}
use Rattle.node_calls.specs.Calls.{node_place_of}
use Rattle.paper_meaning.specs.Meaning.{holds}
use Rattle.paper_circuit.specs.Circuit.{variables_of}
use Rattle.paper_clauses.specs.Clauses.{clause_table}
use Rattle.paper_clauses.specs.Entries.{flat, variables_in, marks_in, places_in}
use Rattle.table_calls.specs.Table.{sizes_of, sizes_in, five_of, ask_room, refused, written, written_table, tabled}
use Rattle.moments.specs.Moments.{over}
use Rattle.table_layout.specs.declared.Sizes.{Sizes}
use Rattle.paper_meaning.specs.Recording.{ask_recording, ask_bytes, EachBelow}
use Rattle.truth_calls.specs.Evaluation.{evaluated}
use Rattle.paper_assignments.specs.Extension.{value_in, extension_of, recording_of, meets_last}
use Rattle.paper_assignments.specs.Calls.{extended, not_accepted, proposed}
use Rattle.file_numbers.specs.File.{file_of, file_length, sizes_by, sizes_at, variables_at, marks_at, Words, Octets}
use Rattle.file_questions.specs.Questions.{ask_file_room, array_questions, file_questions}
use Rattle.file_calls.specs.Calls.{file_refused, file_written, file_read}
use Rattle.file_calls.proofs.Laws.{read_written, write_read}
use Rattle.file_calls.proofs.Writable.{table_written}
use Rattle.file_line.specs.Line.{line_of}
use Rattle.file_line.specs.Output.{ask_literals, output_of}
use Rattle.strip.specs.Strip.{strip_of, line_bytes}
use Rattle.strip.specs.Call.{strip_questions, printed, stripped}
use Rattle.demands.specs.Calls.{IsText, formula_replies}
use Rattle.demands.specs.Demand2.{NodeText, ExtensionOf}
use Rattle.demands.proofs.Answers as answers
use Rattle.demands.proofs.Answers.{evaluated_obeys, located_obeys, tabled_obeys, extended_obeys}
use Rattle.demands.proofs.Files.{output_obeys}
use Rattle.demands.proofs.Strips.{stripped_follows, strip_bytes, strips_tell}
use Rattle.demands.proofs.Checked as checked

-- of a text that is the formula's
module _ (C k : ℕ) (t : List ℕ) (f : Tree Formula) (is : IsText t f) where
  -- evaluation is the meaning, on any [i, j]
  pub evaluation_is_meaning : (i j : ℕ) (recording : List ℕ) → AllYes (formula_replies C k t f ++ ask_interval i j k ∷ ask_recording k recording ∷ ask_bytes C recording ∷ [])
      → evaluated C k i j t recording ≡ Ok (holds recording f (record { i = i; j = j }))
  evaluation_is_meaning i j recording = ((evaluated_obeys C k i j t recording).of_formula f is).all_yes

  -- a node's text is that part of the lent text which the node prints
  pub node_text_is_own : (x : ℕ) → AllYes (formula_replies C k t f ++ question 8 0 (leb 1 x && leb x (length (nodes_of f 0))) ∷ []) → NodeText t x f (node_place_of C k x t)
  node_text_is_own x = ((located_obeys C k x t).of_formula f is).all_yes

  -- the table is the rules'
  pub table_is_rules : (sizes variables marks : List ℕ)
      → AllYes (formula_replies C k t f ++ ask_room (length (flat (clause_table C k f))) (length sizes) (length variables) (length marks) ∷ [])
      → tabled C k t sizes variables marks ≡ written_table (sizes_of C k f) (flat (clause_table C k f)) sizes variables marks
  table_is_rules sizes variables marks = ((tabled_obeys C k t sizes variables marks).of_formula f is).all_yes

  module _ (yes-1-to-7 : AllYes (formula_replies C k t f)) (recording : List ℕ) where
    -- each recording extends to an assignment that meets all clauses but the last,
    pub extension_exists : ExtensionOf C k f recording (extension_of C k recording (nodes_of f 0))
    extension_exists = answers.extension_is C k t recording [] f is yes-1-to-7

    -- and to no other,
    pub extension_unique : (A : List ℕ) → ExtensionOf C k f recording A → A ≡ extension_of C k recording (nodes_of f 0)
    extension_unique = answers.one_extension C k t recording [] f is yes-1-to-7

    -- which meets the last exactly when evaluation on [0, k] says yes;
    pub extension_meets_last : (A : List ℕ) → ExtensionOf C k f recording A → meets_last C k f (value_in A) ≡ holds recording f (record { i = 0; j = k })
    extension_meets_last = checked.last_exactly C k t f is yes-1-to-7 recording

    -- it is what the extension's call writes;
    pub extension_written : (assignment : List ℕ)
        → AllYes (formula_replies C k t f ++ ask_recording k recording ∷ ask_bytes C recording ∷ ask_places (variables_of C k (nodes_of f 0)) (length assignment) ∷ [])
        → (A : List ℕ) × ExtensionOf C k f recording A × (extended C k t recording assignment ≡ record { answer = ok; assignment = over A assignment })
    extension_written assignment = ((extended_obeys C k t recording assignment).of_formula f is).all_yes

    module _ (A : List ℕ) (extension : ExtensionOf C k f recording A) (out : List ℕ) where
      -- and the check accepts it and hands the recording back, where that satisfies the formula,
      pub extension_accepted : length recording ≡ k → EachBelow (2 ^ C) recording → holds recording f (record { i = 0; j = k }) ≡ true → k ≤ length out
          → proposed C k t A out ≡ record { answer = ok; recording = over recording out }
      extension_accepted = checked.extension_accepted C k t f is yes-1-to-7 recording A extension out

      -- or else refuses it at clause M − 1
      pub extension_refused : holds recording f (record { i = 0; j = k }) ≡ false
          → proposed C k t A out ≡ not_accepted out (record { number = 14; place = length (clause_table C k f) - 1 })
      extension_refused = checked.extension_refused C k t f is yes-1-to-7 recording A extension out

  -- an accepted assignment is the extension of the recording handed out, which satisfies the formula
  pub accepted_is_extension : AllYes (formula_replies C k t f) → (A out : List ℕ) → (proposed C k t A out).answer ≡ ok
      → (A ≡ extension_of C k (recording_of C k A) (nodes_of f 0)) × (holds (recording_of C k A) f (record { i = 0; j = k }) ≡ true)
      × ((proposed C k t A out).recording ≡ over (recording_of C k A) out)
  accepted_is_extension = checked.accepted_extends C k t f is

-- a file written is read back equal, wherever there is room,
pub written_read_back : (s : Sizes) (variables marks : List ℕ) → Words (five_of s) → Words variables → asked (array_questions s variables marks) Err ok ≡ ok
    → (sizes' variables' marks' : List ℕ) → file_read (file_of (five_of s) variables marks) sizes' variables' marks'
    ≡ asked (ask_room s.literals (length sizes') (length variables') (length marks') ∷ []) (refused sizes' variables' marks')
    (written (five_of s) variables marks sizes' variables' marks')
written_read_back = read_written

-- and a file that is read is written back equal
pub read_written_back : (file : List ℕ) → Octets file → asked (file_questions file) Err ok ≡ ok
    → (file' : List ℕ) → file_written (sizes_at file) (variables_at file) (marks_at file) file'
    ≡ asked (ask_file_room (sizes_at file).literals (length file') ∷ []) (file_refused file') (record { answer = ok; file = over file file' })
read_written_back = write_read

-- a table that is written is one that the file's writer takes
pub table_is_file : (C k : ℕ) (t : List ℕ) → accept_of C k t ≡ ok → (file : List ℕ) → file_length (length (places_in C k t)) ≤ length file
    → file_written (sizes_by (sizes_in C k t)) (variables_in (places_in C k t)) (marks_in (places_in C k t)) file
    ≡ record { answer = ok; file = over (file_of (sizes_in C k t) (variables_in (places_in C k t)) (marks_in (places_in C k t))) file }
table_is_file = table_written

-- the file program writes the file of the line's table, and no bytes for a line that is refused or any other input
pub program_writes_file : (C k : ℕ) (t : List ℕ) (f : Tree Formula) → IsText t f
    → AllYes (formula_replies C k t f ++ ask_literals (length (flat (clause_table C k f))) ∷ [])
    → output_of (line_of C k t) ≡ (let F = flat (clause_table C k f) in file_of (sizes_of C k f) (variables_in F) (marks_in F))
program_writes_file C k t f is = (((output_obeys (line_of C k t)).of_line C k t refl).of_formula f is).all_yes

pub program_refused : (C k : ℕ) (t : List ℕ) (f : Tree Formula) → IsText t f
    → (r : Refusal) → FirstNo (formula_replies C k t f ++ ask_literals (length (flat (clause_table C k f))) ∷ []) r → output_of (line_of C k t) ≡ []
program_refused C k t f is = (((output_obeys (line_of C k t)).of_line C k t refl).of_formula f is).first_no

pub program_other : (input : List ℕ) → ((C k : ℕ) (t : List ℕ) → line_of C k t ≡ input → ⊥) → output_of input ≡ []
program_other input = (output_obeys input).of_other

-- document 02, C-11: the strip is the recording's, C + 1 lines,
pub strip_is_recordings : (C k : ℕ) (recording lent : List ℕ) → AllYes (strip_questions C k recording (length lent))
    → stripped C k recording lent ≡ printed (strip_of C k recording) lent
strip_is_recordings C k recording lent = (stripped_follows C k recording lent).all_yes

pub strip_has_lines : (C k : ℕ) (recording lent : List ℕ) → AllYes (strip_questions C k recording (length lent))
    → length (strip_of C k recording) ≡ (C + 1) * line_bytes
strip_has_lines = strip_bytes

-- and "two recordings of equal C and k with equal strips are equal": what is written tells the recording
pub strip_tells_recording : (C k : ℕ) (r s lent lent' : List ℕ) → AllYes (strip_questions C k r (length lent)) → AllYes (strip_questions C k s (length lent'))
    → take ((C + 1) * line_bytes) (stripped C k r lent).strip ≡ take ((C + 1) * line_bytes) (stripped C k s lent').strip → r ≡ s
strip_tells_recording = strips_tell
