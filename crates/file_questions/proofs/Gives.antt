-- Questions 15 to 18 answer no with their own numbers, in this order, the reader's (but for its room) and the writer's:
-- each is a test with its number.
use mathlib.Core.Bool.{◌&&◌}
use mathlib.Core.List.{List}
use Prim.Native.Nat.{ℕ}
use lib.Dec.{eqb, leb}
use lib.ListN.{length}
use Rattle.refusal.specs.Asked.{Gives}
use Rattle.refusal.proofs.Numbers.{question_gives}
use Rattle.table_layout.specs.declared.Sizes.{Sizes}
use Rattle.file_numbers.specs.File.{file_length, sizes_at}
use Rattle.file_questions.specs.Questions.{all_pass, how_many, in_limits, is_variable, is_mark, closes, ends_closed, ask_file, ask_arrays, ask_entries, ask_closed, ask_file_room}

pub file_gives : (file : List ℕ) → Gives 15 (ask_file file)
unfolding ask_file
file_gives file = question_gives 15 0 (leb 20 (length file) && eqb (length file) (file_length (sizes_at file).literals))

pub arrays_gives : (L variables marks : ℕ) → Gives 15 (ask_arrays L variables marks)
unfolding ask_arrays
arrays_gives L variables marks = question_gives 15 0 (eqb variables L && eqb marks L)

pub entries_gives : (s : Sizes) (variables marks : List ℕ) → Gives 16 (ask_entries s variables marks)
unfolding ask_entries
entries_gives s variables marks = question_gives 16 0 (in_limits s && all_pass (is_variable s.variables) variables && all_pass is_mark marks)

pub closed_gives : (M : ℕ) (marks : List ℕ) → Gives 17 (ask_closed M marks)
unfolding ask_closed
closed_gives M marks = question_gives 17 0 (eqb M (how_many closes marks) && ends_closed marks)

pub bytes_gives : (L file : ℕ) → Gives 18 (ask_file_room L file)
unfolding ask_file_room
bytes_gives L file = question_gives 18 0 (leb (file_length L) file)
