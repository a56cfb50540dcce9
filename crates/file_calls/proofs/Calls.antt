-- The writer and the reader each end in one of three ways: refused by the first no of 15 to 17, refused by 18, or done; and then what
-- was stored from the first place on stands over what was there.
use mathlib.Core.Path.{◌≡◌, sym, ap, ◌∙◌}
use mathlib.Core.List.{List}
use Prim.Native.Nat.{ℕ, ◌≤◌}
use native.Mathlib.Omega.{arith}
use lib.ListN.{length}
use lib.Seq.{sets}
use Rattle.std.specs.Prelude.{Err}
use Rattle.refusal.specs.Asked.{asked, Reply, ok}
use Rattle.refusal.specs.declared.Refusal.{Refusal}
use Rattle.refusal.proofs.Laws.{earlier_no, last_no, last_yes}
use Rattle.table_calls.specs.Table.{After, five_of, ask_room, refused, written}
use Rattle.moments.specs.Moments.{over}
use Rattle.table_layout.specs.declared.Sizes.{Sizes}
use Rattle.table_calls.proofs.Call.{room_enough}
use Rattle.lists.proofs.Stored.{stored_over}
use Rattle.file_numbers.specs.File.{file_of, sizes_at, variables_at, marks_at}
use Rattle.file_numbers.specs.Held.{Held}
use Rattle.file_questions.specs.Questions.{ask_file_room, array_questions, file_questions}
use Rattle.file_calls.specs.Calls.{FileAfter, file_refused, file_written, file_read}
use Rattle.file_numbers.proofs.Stored.{variables_count, marks_count}
use Rattle.file_questions.proofs.Asking.{file_held, asked_file, room_written}

-- ---- the writer

module _ (s : Sizes) (variables marks file : List ℕ) where
  abbrev bytes : List ℕ
  bytes = file_of (five_of s) variables marks

  abbrev bytes_done : List ℕ → FileAfter
  bytes_done f = record { answer = ok; file = f }

  pub write_refused : {r : Refusal} → Err r ≡ asked (array_questions s variables marks) Err ok → file_refused file r ≡ file_written s variables marks file
  unfolding file_written
  write_refused e = earlier_no (file_refused file) (bytes_done (over bytes file)) (array_questions s variables marks) (ask_file_room s.literals (length file)) (sym e)

  module _ (e : ok ≡ asked (array_questions s variables marks) Err ok) where
    pub write_short : {r : Refusal} → Err r ≡ ask_file_room s.literals (length file) → file_refused file r ≡ file_written s variables marks file
    unfolding file_written
    write_short f = last_no (file_refused file) (bytes_done (over bytes file)) (array_questions s variables marks) (ask_file_room s.literals (length file)) (sym e) (sym f)

    pub write_room : ok ≡ ask_file_room s.literals (length file) → length (file_of (five_of s) variables marks) ≤ length file
    write_room f = room_written s variables marks (sym e) file (sym f)

    pub write_done : ok ≡ ask_file_room s.literals (length file) → {file' : List ℕ} → file' ≡ sets file 0 (file_of (five_of s) variables marks)
        → record { answer = ok; file = file' } ≡ file_written s variables marks file
    unfolding file_written
    write_done f p =
        ap bytes_done (stored_over bytes file p (write_room f))
        ∙ last_yes (file_refused file) (bytes_done (over bytes file)) (array_questions s variables marks) (ask_file_room s.literals (length file)) (sym e) (sym f)

-- ---- the reader

module _ (file sizes variables marks : List ℕ) where
  abbrev room : ℕ → Reply
  room L = ask_room L (length sizes) (length variables) (length marks)

  abbrev table_done : After
  table_done = written (five_of (sizes_at file)) (variables_at file) (marks_at file) sizes variables marks

  pub read_refused : {r : Refusal} → Err r ≡ asked (file_questions file) Err ok → refused sizes variables marks r ≡ file_read file sizes variables marks
  unfolding file_read
  read_refused e = earlier_no (refused sizes variables marks) table_done (file_questions file) (room (sizes_at file).literals) (sym e)

  module _ (e : ok ≡ asked (file_questions file) Err ok) {s : Sizes} (p : s ≡ sizes_at file) where
    same_room : room (sizes_at file).literals ≡ room s.literals
    same_room = ap (λ (s : Sizes). room s.literals) (sym p)

    pub read_short : {r : Refusal} → Err r ≡ ask_room s.literals (length sizes) (length variables) (length marks)
        → refused sizes variables marks r ≡ file_read file sizes variables marks
    unfolding file_read
    read_short f = last_no (refused sizes variables marks) table_done (file_questions file) (room (sizes_at file).literals) (sym e) (same_room ∙ sym f)

    pub held : Held file s
    held = file_held file (asked_file file (sym e)) p

    pub read_done : ok ≡ ask_room s.literals (length sizes) (length variables) (length marks) → {sizes' variables' m marks' : List ℕ} → sizes' ≡ over (five_of s) sizes
        → variables' ≡ sets variables 0 (variables_at file) → m ≡ marks_at file → marks' ≡ sets marks 0 m
        → record { answer = ok; sizes = sizes'; variables = variables'; marks = marks' } ≡ file_read file sizes variables marks
    unfolding file_read
    read_done f {sizes'} {variables'} {m} {marks'} x y z w =
        let g = room_enough s.literals (length sizes) (length variables) (length marks) (sym f) in
        let a : sizes' ≡ over (five_of (sizes_at file)) sizes = x ∙ ap (λ (s : Sizes). over (five_of s) sizes) p in
        let b : variables' ≡ over (variables_at file) variables = stored_over (variables_at file) variables y (omega (arith, g.1, variables_count held)) in
        let c : marks' ≡ over (marks_at file) marks = stored_over (marks_at file) marks (w ∙ ap (sets marks 0) z) (omega (arith, g.2, marks_count held)) in
        (λ i. record { answer = ok; sizes = a i; variables = b i; marks = c i })
        ∙ last_yes (refused sizes variables marks) table_done (file_questions file) (room (sizes_at file).literals) (sym e) (same_room ∙ sym f)
