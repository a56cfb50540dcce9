-- Document 01, "Questions in order", 15 to 18: what a file's reader and its writer ask, each on the sizes and arrays it is given.
use Rattle.std.specs.Prelude.{Bool, true, false, ◌&&◌, ◌||◌, List, [], ◌∷◌, ℕ, ◌-◌, eqb, leb, length, get_or}
use Rattle.refusal.specs.Asked.{question, asked, Reply}
use Rattle.interval.specs.Limits.{ask_steps}
use Rattle.paper_grammar.specs.Questions.{ask_channels}
use Rattle.paper_meaning.specs.Meaning.{every, highs}
use Rattle.table_layout.specs.declared.Sizes.{Sizes}
use Rattle.file_numbers.specs.File.{file_length, sizes_at, variables_at, marks_at}

-- a test passes at every entry; at how many
abbrev pub all_pass : (ℕ → Bool) → List ℕ → Bool
all_pass test l = every (λ e. test (get_or l e 0)) 0 (length l)

abbrev pub how_many : (ℕ → Bool) → List ℕ → ℕ
how_many test l = highs (λ e. test (get_or l e 0)) 0 (length l)

-- question 15. "File: 20 bytes or more, and exactly 20 + 5L?"
unfoldable pub ask_file : List ℕ → Reply
ask_file file = question 15 0 (leb 20 (length file) && eqb (length file) (file_length (sizes_at file).literals))

-- "Writer: both arrays exactly L long?"
unfoldable pub ask_arrays : ℕ → ℕ → ℕ → Reply
ask_arrays L variables marks = question 15 0 (eqb variables L && eqb marks L)

-- question 16. "C and k as in 1 and 2, each variable from 1 to V, each mark at most 3?"
unfoldable pub in_limits : Sizes → Bool
in_limits s = asked (ask_channels s.channels ∷ ask_steps s.steps ∷ []) (λ r. false) true

abbrev pub is_variable : ℕ → ℕ → Bool
is_variable most v = leb 1 v && leb v most

abbrev pub is_mark : ℕ → Bool
is_mark m = leb m 3

unfoldable pub ask_entries : Sizes → List ℕ → List ℕ → Reply
ask_entries s variables marks = question 16 0 (in_limits s && all_pass (is_variable s.variables) variables && all_pass is_mark marks)

-- question 17. "Is M the number of closing marks, and the final literal (if L > 0) closing?"
abbrev pub closes : ℕ → Bool
closes m = leb 2 m

abbrev pub ends_closed : List ℕ → Bool
ends_closed marks = eqb (length marks) 0 || closes (get_or marks (length marks - 1) 0)

unfoldable pub ask_closed : ℕ → List ℕ → Reply
ask_closed M marks = question 17 0 (eqb M (how_many closes marks) && ends_closed marks)

-- question 18, of the writer: is the file's array long enough?
unfoldable pub ask_file_room : ℕ → ℕ → Reply
ask_file_room L file = question 18 0 (leb (file_length L) file)

-- "the file's reader and its writer [ask] 15 to 18": 16 and 17 are the same for both, on sizes and arrays
abbrev pub entry_questions : Sizes → List ℕ → List ℕ → List Reply
entry_questions s variables marks = ask_entries s variables marks ∷ ask_closed s.clauses marks ∷ []

-- the writer's 15, 16 and 17
abbrev pub array_questions : Sizes → List ℕ → List ℕ → List Reply
array_questions s variables marks = ask_arrays s.literals (length variables) (length marks) ∷ entry_questions s variables marks

-- the reader's 15, 16 and 17
abbrev pub file_questions : List ℕ → List Reply
file_questions file = ask_file file ∷ entry_questions (sizes_at file) (variables_at file) (marks_at file)
