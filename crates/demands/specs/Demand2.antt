-- DEMAND 2, of any engine: what evaluation, node text, the table, the extension, the check, the file's writer and reader, the file
-- program and the strip answer and leave in each lent array. Each is a predicate on the answer with the arrays after it.
use Rattle.std.specs.Prelude.{◌≡◌, ◌&&◌, List, [], ◌∷◌, ◌++◌, ℕ, ◌-◌, ◌^◌, ◌<◌, leb, length, take, drop, Result, Ok, Err, Bool}
use Rattle.refusal.specs.Asked.{question, AllYes, ask_places, ok}
use Rattle.interval.specs.Limits.{ask_interval}
use Rattle.paper_grammar.specs.Trees.{Tree, text_of}
use Rattle.paper_grammar.specs.declared.Sort.TheVariants.{Formula}
use Rattle.paper_grammar.specs.Nodes.{Node, nodes_of}
use Rattle.node_calls.specs.declared.Span.{Span}
use Rattle.paper_meaning.specs.Meaning.{channel_at, holds}
use Rattle.paper_circuit.specs.Circuit.{channel_of, variables_of}
use Rattle.paper_clauses.specs.Clauses.{clause_table}
use Rattle.paper_clauses.specs.Entries.{flat, variables_in, marks_in}
use Rattle.table_calls.specs.Table.{sizes_of, five_of, ask_room, After, refused, written}
use Rattle.moments.specs.Moments.{over}
use Rattle.table_layout.specs.declared.Sizes.{Sizes}
use Rattle.paper_meaning.specs.Recording.{ask_recording, ask_bytes, EachBelow}
use Rattle.refusal.specs.declared.Refusal.{Refusal}
use Rattle.paper_assignments.specs.Extension.{value_in, MeetsButLast}
use Rattle.paper_assignments.specs.Calls.{ask_assignment, ask_values, ask_clauses, Extended, not_extended, Proposed, not_accepted}
use Rattle.file_numbers.specs.File.{file_of, sizes_at, Words}
use Rattle.file_questions.specs.Questions.{ask_file_room, array_questions, file_questions}
use Rattle.file_calls.specs.Calls.{FileAfter, file_refused}
use Rattle.file_line.specs.Line.{line_of}
use Rattle.file_line.specs.Output.{ask_literals}
use Rattle.strip.specs.Strip.{strip_of}
use Rattle.strip.specs.Call.{strip_questions, Stripped, not_stripped, printed}
use Rattle.demands.specs.Calls.{Follows, Obeys}

-- "A recording is said to satisfy a formula exactly when" the meaning says so, on any [i, j]
abbrev pub Evaluates : ℕ → ℕ → ℕ → ℕ → List ℕ → List ℕ → Result Bool Refusal → Type 0
Evaluates C k i j t recording =
    Obeys C k t (λ f. ask_interval i j k ∷ ask_recording k recording ∷ ask_bytes C recording ∷ []) Err (λ f v. v ≡ Ok (holds recording f (record { i = i; j = j })))

-- "On demand a node's own text is handed back as that part of the lent text": the part prints as node x of the formula
pub record NodeText (t : List ℕ) (x : ℕ) (f : Tree Formula) (l : Result Span Refusal) : Type 0 where
  pub node : Node
  pub rest : List Node
  pub numbered : drop (x - 1) (nodes_of f 0) ≡ node ∷ rest
  pub part : l ≡ Ok (record { first = node.first; length = length (text_of node.part) })
  pub prints : take (length (text_of node.part)) (drop node.first t) ≡ text_of node.part

abbrev pub Locates : ℕ → ℕ → ℕ → List ℕ → Result Span Refusal → Type 0
Locates C k x t = Obeys C k t (λ f. question 8 0 (leb 1 x && leb x (length (nodes_of f 0))) ∷ []) Err (NodeText t x)

-- "The clause table is the one those rules give", in the two arrays, and its sizes
abbrev pub Tables : ℕ → ℕ → List ℕ → List ℕ → List ℕ → List ℕ → After → Type 0
Tables C k t sizes variables marks =
    Obeys C k t (λ f. ask_room (length (flat (clause_table C k f))) (length sizes) (length variables) (length marks) ∷ []) (refused sizes variables marks)
    (λ f x. let F = flat (clause_table C k f) in x ≡ written (sizes_of C k f) (variables_in F) (marks_in F) sizes variables marks)

-- "the one assignment that extends a recording and meets all clauses but the last", V bytes, each 0 or 1
pub record ExtensionOf (C k : ℕ) (f : Tree Formula) (recording A : List ℕ) : Type 0 where
  pub bytes : length A ≡ variables_of C k (nodes_of f 0)
  pub bits : EachBelow 2 A
  pub channels : (t c : ℕ) → t < k → c < C → value_in A (channel_of C t c) ≡ channel_at recording c t
  pub meets : MeetsButLast C k f (value_in A)

abbrev pub Extends : ℕ → ℕ → List ℕ → List ℕ → List ℕ → Extended → Type 0
Extends C k t recording assignment =
    Obeys C k t (λ f. ask_recording k recording ∷ ask_bytes C recording ∷ ask_places (variables_of C k (nodes_of f 0)) (length assignment) ∷ [])
    (not_extended assignment) (λ f x. (A : List ℕ) × ExtensionOf C k f recording A × (x ≡ record { answer = ok; assignment = over A assignment }))

-- "The recording read from its channel variables [..], k bytes": "bits C and above are 0"
pub record RecordingOf (C k : ℕ) (A r : List ℕ) : Type 0 where
  pub bytes : length r ≡ k
  pub below : EachBelow (2 ^ C) r
  pub channels : (t c : ℕ) → t < k → c < C → value_in A (channel_of C t c) ≡ channel_at r c t

-- "A proposed assignment, from anyone, is accepted exactly when it meets every clause" (question 14)
abbrev pub Checks : ℕ → ℕ → List ℕ → List ℕ → List ℕ → Proposed → Type 0
Checks C k t A recording =
    Obeys C k t
    (λ f. ask_assignment (variables_of C k (nodes_of f 0)) A ∷ ask_values A ∷ ask_clauses (value_in A) 0 (clause_table C k f) ∷ ask_places k (length recording) ∷ [])
    (not_accepted recording) (λ f x. (r : List ℕ) × RecordingOf C k A r × (x ≡ record { answer = ok; recording = over r recording }))

-- the file's writer
abbrev pub Writes : Sizes → List ℕ → List ℕ → List ℕ → FileAfter → Type 0
Writes s variables marks file =
    Follows (array_questions s variables marks ++ ask_file_room s.literals (length file) ∷ []) (file_refused file)
    (λ x. x ≡ record { answer = ok; file = over (file_of (five_of s) variables marks) file })

-- a table of 32-bit numbers that the writer takes, and of which this is the file
pub record FileOf (file : List ℕ) (s : Sizes) (variables marks : List ℕ) : Type 0 where
  pub sizes : Words (five_of s)
  pub numbers : Words variables
  pub taken : AllYes (array_questions s variables marks)
  pub is : file_of (five_of s) variables marks ≡ file

-- the file's reader: the table read is the one of which this is the file
abbrev pub Reads : List ℕ → List ℕ → List ℕ → List ℕ → After → Type 0
Reads file sizes variables marks =
    Follows (file_questions file ++ ask_room (sizes_at file).literals (length sizes) (length variables) (length marks) ∷ []) (refused sizes variables marks)
    (λ x. (s : Sizes) × (v : List ℕ) × (m : List ℕ) × FileOf file s v m × (x ≡ written (five_of s) v m sizes variables marks))

-- the file program: the file of the line's table; "For a line that doesn't read so, or is refused, it writes no bytes."
pub record Outputs (input bytes : List ℕ) : Type 0 where
  pub of_line : (C k : ℕ) (t : List ℕ) → line_of C k t ≡ input
      → Obeys C k t (λ f. ask_literals (length (flat (clause_table C k f))) ∷ []) (λ r. [])
      (λ f x. x ≡ (let F = flat (clause_table C k f) in file_of (sizes_of C k f) (variables_in F) (marks_in F))) bytes
  pub of_other : ((C k : ℕ) (t : List ℕ) → line_of C k t ≡ input → ⊥) → bytes ≡ []

-- document 02, C-11: the strip for the lab notebook
abbrev pub Strips : ℕ → ℕ → List ℕ → List ℕ → Stripped → Type 0
Strips C k recording strip =
    Follows (strip_questions C k recording (length strip)) (not_stripped strip) (λ x. x ≡ printed (strip_of C k recording) strip)
