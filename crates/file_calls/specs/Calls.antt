-- Document 01, "Clause file": what the file's writer and its reader answer, and every lent array after them.
use Rattle.std.specs.Prelude.{List, [], ◌∷◌, ◌++◌, ℕ, length, Err}
use Rattle.refusal.specs.Asked.{asked, Reply, ok}
use Rattle.refusal.specs.declared.Refusal.{Refusal}
use Rattle.table_calls.specs.Table.{After, five_of, ask_room, refused, written}
use Rattle.moments.specs.Moments.{over}
use Rattle.table_layout.specs.declared.Sizes.{Sizes}
use Rattle.file_numbers.specs.File.{file_of, sizes_at, variables_at, marks_at}
use Rattle.file_questions.specs.Questions.{ask_file_room, array_questions, file_questions}

-- the writer's answer, and the file's bytes after it
pub record FileAfter : Type 0 where
  pub answer : Reply
  pub file : List ℕ

abbrev pub file_refused : List ℕ → Refusal → FileAfter
file_refused file r = record { answer = Err r; file = file }

-- the writer's 15, 16 and 17; then 18; then the bytes are written
unfoldable pub file_written : Sizes → List ℕ → List ℕ → List ℕ → FileAfter
file_written s variables marks file =
    asked (array_questions s variables marks ++ ask_file_room s.literals (length file) ∷ []) (file_refused file)
    (record { answer = ok; file = over (file_of (five_of s) variables marks) file })

-- the reader's 15, 16 and 17; then 18; then the sizes and the arrays are written
unfoldable pub file_read : List ℕ → List ℕ → List ℕ → List ℕ → After
file_read file sizes variables marks =
    asked (file_questions file ++ ask_room (sizes_at file).literals (length sizes) (length variables) (length marks) ∷ []) (refused sizes variables marks)
    (written (five_of (sizes_at file)) (variables_at file) (marks_at file) sizes variables marks)
