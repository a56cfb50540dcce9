-- A question answered with yes has all its tests true: so a file is as long as its sizes say, and arrays are as long as the sizes
-- that come with them, which makes the bytes to be written 20 + 5L.
use mathlib.Core.Path.{◌≡◌, refl, sym, ap, ◌∙◌}
use mathlib.Core.Bool.{true, false≢true}
use mathlib.Core.List.{List, ◌∷◌}
use Prim.Native.Nat.{ℕ, ◌≤◌}
use native.Mathlib.Omega.{arith}
use lib.Dec.{eqb, leb}
use lib.ListN.{length}
use borrow.Author.Tests.{leb-true, eqb-true}
use Rattle.std.specs.Prelude.{Err, Ok}
use Rattle.refusal.specs.Asked.{asked, Reply, ok}
use Rattle.lists.proofs.Tests.{both}
use Rattle.refusal.proofs.Laws.{test_yes}
use Rattle.table_calls.specs.Table.{five_of}
use Rattle.table_layout.specs.declared.Sizes.{Sizes}
use Rattle.file_numbers.specs.File.{file_of, file_length, sizes_at, variables_at, marks_at}
use Rattle.file_numbers.specs.Held.{Held}
use Rattle.file_questions.specs.Questions.{ask_file, ask_arrays, ask_file_room, entry_questions, array_questions, file_questions}
use Rattle.file_numbers.proofs.Stored.{length_file}

-- the first of the questions that were all answered with yes
pub first_yes : (q : Reply) (Q : List Reply) → asked (q ∷ Q) Err ok ≡ ok → q ≡ ok
first_yes (Ok _) Q e = refl
first_yes (Err r) Q e = absurd (false≢true cc)

pub rest_yes : (q : Reply) (Q : List Reply) → asked (q ∷ Q) Err ok ≡ ok → asked Q Err ok ≡ ok
rest_yes (Ok _) Q e = e
rest_yes (Err r) Q e = absurd (false≢true cc)

-- question 15 of the reader
module _ (file : List ℕ) (e : ask_file file ≡ ok) where
  file_tests : (leb 20 (length file) ≡ true) × (eqb (length file) (file_length (sizes_at file).literals) ≡ true)
  unfolding ask_file
  file_tests = both (leb 20 (length file)) (eqb (length file) (file_length (sizes_at file).literals)) (test_yes 15 0 _ e)

  pub file_long : 20 ≤ length file
  file_long = leb-true 20 (length file) file_tests.0

  pub file_held : {s : Sizes} → s ≡ sizes_at file → Held file s
  file_held {s} p = record { sizes = p; long = eqb-true (length file) (file_length (sizes_at file).literals) file_tests.1 ∙ ap (λ (s : Sizes). file_length s.literals) (sym p) }

-- the first of the reader's questions, once 15 to 17 are answered with yes
pub asked_file : (file : List ℕ) → asked (file_questions file) Err ok ≡ ok → ask_file file ≡ ok
asked_file file = first_yes (ask_file file) (entry_questions (sizes_at file) (variables_at file) (marks_at file))

module _ (s : Sizes) (variables marks : List ℕ) (e : asked (array_questions s variables marks) Err ok ≡ ok) where
  pub arrays_long : (length variables ≡ s.literals) × (length marks ≡ s.literals)
  unfolding ask_arrays
  arrays_long =
      let t = both (eqb (length variables) s.literals) (eqb (length marks) s.literals)
      (test_yes 15 0 _ (first_yes (ask_arrays s.literals (length variables) (length marks)) (entry_questions s variables marks) e)) in
      (eqb-true (length variables) s.literals t.0, eqb-true (length marks) s.literals t.1)

  -- so the file's bytes are 20 + 5L
  pub length_written : length (file_of (five_of s) variables marks) ≡ file_length s.literals
  length_written = omega (arith, length_file (five_of s) variables marks, arrays_long)

  pub room_written : (file : List ℕ) → ask_file_room s.literals (length file) ≡ ok → length (file_of (five_of s) variables marks) ≤ length file
  unfolding ask_file_room
  room_written file f = omega (arith, length_written, leb-true (file_length s.literals) (length file) (test_yes 18 0 _ f))
