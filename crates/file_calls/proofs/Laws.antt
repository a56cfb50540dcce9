-- Reading what was written, and writing what was read: a file's parts are where the definitions look for them, so each gives the other
-- back, and what the one accepts the other does.
use mathlib.Core.Path.{◌≡◌, refl, sym, ap, ap₂, ◌∙◌}
use mathlib.Core.List.{List, [], ◌∷◌, ◌++◌, append_assoc, flat_map}
use Prim.Native.Nat.{ℕ, ◌+◌, ◌*◌, ◌<◌}
use native.Mathlib.Omega.{arith}
use lib.ListN.{length, get_or, take, drop, length-append, take-append-drop}
use lib.Seq.{drop_at, take-add, ext_get_or}
use borrow.Author.Tests.{le-leb, eq-eqb}
use Rattle.std.specs.Prelude.{Err}
use Rattle.refusal.specs.Asked.{asked, Reply, ok}
use Rattle.refusal.proofs.Laws.{asked_append, replied_yes}
use Rattle.lists.specs.Listing.{rows}
use Rattle.table_calls.specs.Table.{five_of, ask_room, refused, written}
use Rattle.moments.specs.Moments.{over}
use Rattle.table_layout.specs.declared.Sizes.{Sizes}
use Rattle.file_numbers.specs.File.{bytes_of, file_of, file_length, number_at, sizes_at, variables_at, marks_at, Words, Octets}
use Rattle.file_numbers.specs.Held.{Held}
use Rattle.file_questions.specs.Questions.{ask_file, ask_arrays, ask_file_room, entry_questions, array_questions, file_questions}
use Rattle.file_calls.specs.Calls.{file_refused, file_written, file_read}
use Rattle.file_numbers.proofs.Stored.{length_bytes, variables_count, marks_count, variable_at}
use Rattle.file_questions.proofs.Asking.{rest_yes, file_held, asked_file, length_written, arrays_long}
use Rattle.file_numbers.proofs.Bytes.{number_after, numbers_back, all_bytes_back}

-- ---- what was written is read

module _ (s : Sizes) (variables marks : List ℕ) (w : Words (five_of s)) (v : Words variables) (e : asked (array_questions s variables marks) Err ok ≡ ok) where
  abbrev written_file : List ℕ
  written_file = file_of (five_of s) variables marks

  abbrev A : List ℕ
  A = flat_map bytes_of (five_of s)

  abbrev B : List ℕ
  B = flat_map bytes_of variables

  -- the sizes first, then the rest
  parted : written_file ≡ A ++ (B ++ marks)
  unfolding file_of
  parted = append_assoc A B marks

  size_back : (e : ℕ) → e < 5 → number_at written_file (4 * e) ≡ get_or (five_of s) e 0
  size_back e h = ap (λ (f : List ℕ). number_at f (4 * e)) parted ∙ numbers_back (five_of s) (B ++ marks) w e h

  sizes_back : sizes_at written_file ≡ s
  unfolding sizes_at
  sizes_back =
      let c = size_back 0 (omega arith) in
      let k = size_back 1 (omega arith) in
      let v = size_back 2 (omega arith) in
      let m = size_back 3 (omega arith) in
      let l = size_back 4 (omega arith) in
      λ i. record { channels = c i; steps = k i; variables = v i; clauses = m i; literals = l i }

  held : Held written_file s
  held = record { sizes = sym sizes_back; long = length_written s variables marks e }

  variables_back : variables_at written_file ≡ variables
  variables_back =
      let n = (arrays_long s variables marks e).0 in
      ext_get_or 0 (variables_at written_file) variables (sym (variables_count held) ∙ sym n)
      (λ i h. let l : i < s.literals = omega (arith, variables_count held) in sym (variable_at held i l (sym (variable_back i (omega (arith, n))))))
    where
      variable_back : (i : ℕ) → i < length variables → number_at written_file (20 + 4 * i) ≡ get_or variables i 0
      variable_back i h =
          ap (λ (f : List ℕ). number_at f (20 + 4 * i)) parted ∙ number_after A (B ++ marks) (4 * i) (20 + 4 * i) (omega (arith, length_bytes (five_of s))) ∙ numbers_back variables marks v i h

  marks_back : marks_at written_file ≡ marks
  unfolding marks_at file_of
  marks_back =
      ap (λ (t : Sizes). drop (20 + 4 * t.literals) (A ++ B ++ marks)) sizes_back
      ∙ drop_at (A ++ B) marks (20 + 4 * s.literals) (omega (arith, length-append A B, length_bytes (five_of s), length_bytes variables, (arrays_long s variables marks e).0))

  file_yes : ask_file written_file ≡ ok
  unfolding ask_file
  file_yes =
      let n = length_written s variables marks e in
      rw (
        le-leb 20 (length written_file) (omega (arith, n)),
        eq-eqb (length written_file) (file_length (sizes_at written_file).literals) (n ∙ ap (λ (t : Sizes). file_length t.literals) (sym sizes_back)),
      )

  questions_back : asked (file_questions written_file) Err ok ≡ ok
  questions_back =
      ap (λ (q : Reply). asked (q ∷ entry_questions (sizes_at written_file) (variables_at written_file) (marks_at written_file)) Err ok) file_yes
      ∙ (λ i. asked (entry_questions (sizes_back i) (variables_back i) (marks_back i)) Err ok) ∙
      rest_yes (ask_arrays s.literals (length variables) (length marks)) (entry_questions s variables marks) e

  -- reading what was written gives back the sizes and the arrays
  pub read_written : (sizes' variables' marks' : List ℕ)
      → file_read (file_of (five_of s) variables marks) sizes' variables' marks'
      ≡ asked (ask_room s.literals (length sizes') (length variables') (length marks') ∷ []) (refused sizes' variables' marks')
      (written (five_of s) variables marks sizes' variables' marks')
  unfolding file_read
  read_written sizes' variables' marks' =
      let no = refused sizes' variables' marks' in
      asked_append no _ (file_questions written_file) (ask_room (sizes_at written_file).literals (length sizes') (length variables') (length marks') ∷ [])
      ∙ replied_yes no _ (file_questions written_file) questions_back
      ∙ (λ i. asked (ask_room (sizes_back i).literals (length sizes') (length variables') (length marks') ∷ []) no
      (written (five_of (sizes_back i)) (variables_back i) (marks_back i) sizes' variables' marks'))

-- ---- what was read is written

module _ (file : List ℕ) (o : Octets file) (e : asked (file_questions file) Err ok ≡ ok) where
  abbrev s : Sizes
  s = sizes_at file

  read_held : Held file s
  read_held = file_held file (asked_file file e) refl

  sizes_there : flat_map bytes_of (five_of s) ≡ take 20 file
  unfolding sizes_at rows
  sizes_there = all_bytes_back file o 0 5 (omega (arith, read_held.long))

  bytes_back : file_of (five_of s) (variables_at file) (marks_at file) ≡ file
  unfolding file_of variables_at marks_at
  bytes_back =
      let L = s.literals in
      ap₂ (λ (a b : List ℕ). a ++ b ++ drop (20 + 4 * L) file) sizes_there (all_bytes_back file o 20 L (omega (arith, read_held.long)))
      ∙ ap (λ (l : List ℕ). l ++ drop (20 + 4 * L) file) (sym (take-add 20 (4 * L) file)) ∙ take-append-drop (20 + 4 * L) file

  arrays_yes : ask_arrays s.literals (length (variables_at file)) (length (marks_at file)) ≡ ok
  unfolding ask_arrays
  arrays_yes = rw (eq-eqb (length (variables_at file)) s.literals (sym (variables_count read_held)), eq-eqb (length (marks_at file)) s.literals (marks_count read_held))

  array_questions_lem : asked (array_questions s (variables_at file) (marks_at file)) Err ok ≡ ok
  array_questions_lem =
      let Q = entry_questions s (variables_at file) (marks_at file) in ap (λ (q : Reply). asked (q ∷ Q) Err ok) arrays_yes ∙ rest_yes (ask_file file) Q e

  -- writing what was read gives back the bytes
  pub write_read : (file' : List ℕ)
      → file_written (sizes_at file) (variables_at file) (marks_at file) file'
      ≡ asked (ask_file_room (sizes_at file).literals (length file') ∷ []) (file_refused file') (record { answer = ok; file = over file file' })
  unfolding file_written
  write_read file' =
      asked_append (file_refused file') _ (array_questions s (variables_at file) (marks_at file)) (ask_file_room s.literals (length file') ∷ [])
      ∙ replied_yes (file_refused file') _ (array_questions s (variables_at file) (marks_at file)) array_questions_lem
      ∙ ap (λ (f : List ℕ). asked (ask_file_room s.literals (length file') ∷ []) (file_refused file') (record { answer = ok; file = over f file' })) bytes_back
