-- The program's arrays hold as many literals as its question 18 asks for, so the table's questions are the program's; and the file's writer
-- takes every table that was written, its array being as long as the longest file.
use mathlib.Core.Path.{◌≡◌, refl, sym, ap, ◌∙◌}
use mathlib.Core.Bool.{Bool, true, false, ◌&&◌, false≢true}
use mathlib.Core.List.{List, [], ◌∷◌, ◌++◌, append-nil}
use Prim.Native.Nat.{ℕ, ◌≤◌}
use native.Mathlib.Omega.{arith}
use lib.Dec.{leb}
use lib.ListN.{length, get_or, take, drop, length-append, length-take, length-map, replicate, drop_of_length-le}
use lib.Seq.{take_at}
use borrow.Author.Tests.{leb-true}
use Rattle.std.specs.Prelude.{Err, Ok}
use Rattle.refusal.specs.Asked.{question, asked, Reply, ok}
use Rattle.refusal.specs.declared.Refusal.{Refusal}
use Rattle.refusal.proofs.Laws.{replied_yes, replied_no, test_yes}
use Rattle.paper_grammar.specs.Questions.{formula_questions, accept_of}
use Rattle.formula_text.proofs.Asked.{asked_one}
use Rattle.paper_clauses.specs.Entries.{Entry, variables_in, marks_in, places_in}
use Rattle.table_calls.specs.Table.{After, sizes_in, ask_room, refused, written_table, tabled}
use Rattle.moments.specs.Moments.{over}
use Rattle.file_numbers.specs.File.{sizes_by, file_length}
use Rattle.file_calls.specs.Calls.{FileAfter, file_written}
use Rattle.file_numbers.proofs.Stored.{length_file}
use Rattle.file_line.specs.Line.{line}
use Rattle.file_line.specs.Output.{max_literals, max_file, ask_literals, file_in, program_questions, output_for}
use Rattle.file_line.specs.Parts.{file_put}
use Rattle.file_calls.proofs.Writable.{five_sizes, table_written}

-- the program's arrays, as they are lent
abbrev five : List ℕ
five = replicate 5 0

abbrev lent : List ℕ
lent = replicate max_literals 0

room_is : (L : ℕ) → ask_room L (length five) (length lent) (length lent) ≡ ask_literals L
unfolding ask_room
room_is L = by (leb L max_literals)
  where
    by : (b : Bool) → question 18 0 (b && b) ≡ question 18 0 b
    by true = refl
    by false = refl

-- bytes that were written are any others that they equal
pub same_output : {x y : List ℕ} (file : List ℕ) {r : ℕ} {new : List ℕ} → x ≡ y → (r ≡ length x) × (new ≡ over x file) → (r ≡ length y) × (new ≡ over y file)
same_output file e w = (w.0 ∙ ap length e, w.1 ∙ ap (λ (o : List ℕ). over o file) e)

-- and they lie within what they were written over
pub within_file : {x y : List ℕ} (file : List ℕ) {r : ℕ} {new : List ℕ} → x ≡ y → (r ≡ length x) × (new ≡ over x file) →
    (r ≡ length y) × (new ≡ over y file) × (r ≤ length new)
within_file {y = y} file e w = let v = same_output file e w in (v.0, v.1, omega (arith, v.0, ap length v.1, length-append y (drop (length y) file)))

-- questions in two parts
both_yes : (F G : List Reply) → asked (F ++ G) Err ok ≡ ok → (asked F Err ok ≡ ok) × (asked G Err ok ≡ ok)
both_yes [] G e = (refl, e)
both_yes (Ok _ ∷ F) G e = both_yes F G e
both_yes (Err r ∷ F) G e = absurd (false≢true cc)

module _ (C k : ℕ) (t : List ℕ) where
  abbrev L : ℕ
  L = length (places_in C k t)

  -- ---- the sizes and the file of an accepted text

  module _ (y : accept_of C k t ≡ ok) where
    file_bytes : length (file_in C k t) ≡ file_length L
    file_bytes =
        let F = places_in C k t in
        omega (
          arith,
          length_file (sizes_in C k t) (variables_in F) (marks_in F),
          (five_sizes C k t y).0,
          length-map F (λ (w : Entry). w.variable),
          length-map F (λ (w : Entry). w.mark),
        )

  -- ---- the table's call on the program's arrays

  module _ (X : After) (e : X ≡ tabled C k t five lent lent) where
    abbrev answer : After
    answer = written_table (sizes_in C k t) (places_in C k t) five lent lent

    asked_is : X ≡ asked (program_questions C k t) (refused five lent lent) answer
    unfolding tabled
    asked_is = e ∙ ap (λ (q : Reply). asked (formula_questions C k t ++ q ∷ []) (refused five lent lent) answer) (room_is L)

    -- where it is refused, nothing is written
    pub none_refused : (r : Refusal) → X.answer ≡ Err r → output_for (line C k t) ≡ []
    unfolding output_for
    none_refused r f = by (asked (program_questions C k t) Err ok) refl
      where
        by : (x : Reply) → asked (program_questions C k t) Err ok ≡ x → output_for (line C k t) ≡ []
        by (Err q) g = replied_no (λ r. []) (file_in C k t) (program_questions C k t) q g
        by (Ok _) g =
            let z : ok ≡ Err r = ap (λ (x : After). x.answer) (sym (asked_is ∙ replied_yes (refused five lent lent) answer (program_questions C k t) g)) ∙ f in
            absurd (false≢true cc)

    module _ (f : X.answer ≡ ok) where
      all_yes : asked (program_questions C k t) Err ok ≡ ok
      all_yes = by (asked (program_questions C k t) Err ok) refl
        where
          by : (x : Reply) → asked (program_questions C k t) Err ok ≡ x → x ≡ ok
          by (Ok _) g = refl
          by (Err q) g =
              let z : Err q ≡ ok = ap (λ (x : After). x.answer) (sym (asked_is ∙ replied_no (refused five lent lent) answer (program_questions C k t) q g)) ∙ f in
              absurd (false≢true cc)

      accepts : accept_of C k t ≡ ok
      unfolding accept_of
      accepts = (both_yes (formula_questions C k t) (ask_literals L ∷ []) all_yes).0

      few : L ≤ max_literals
      few = leb-true L max_literals (test_yes 18 0 _ (sym (asked_one (ask_literals L)) ∙ (both_yes (formula_questions C k t) (ask_literals L ∷ []) all_yes).1))

      output_is : output_for (line C k t) ≡ file_in C k t
      unfolding output_for
      output_is = replied_yes (λ r. []) (file_in C k t) (program_questions C k t) all_yes

      written : X ≡ answer
      written = asked_is ∙ replied_yes (refused five lent lent) answer (program_questions C k t) all_yes

      sizes_are : X.sizes ≡ sizes_in C k t
      sizes_are =
          let n : length five ≤ length (sizes_in C k t) = omega (arith, (five_sizes C k t accepts).0) in
          ap (λ (x : After). x.sizes) written ∙ ap (λ (q : List ℕ). sizes_in C k t ++ q) (drop_of_length-le five n) ∙ append-nil (sizes_in C k t)

      literals_are : get_or X.sizes 4 0 ≡ L
      literals_are = ap (λ (s : List ℕ). get_or s 4 0) sizes_are ∙ (five_sizes C k t accepts).2

      variables_are : take L X.variables ≡ variables_in (places_in C k t)
      variables_are = ap (λ (x : After). take L x.variables) written ∙ take_at (variables_in (places_in C k t)) _ L (length-map (places_in C k t) (λ (w : Entry). w.variable))

      marks_are : take L X.marks ≡ marks_in (places_in C k t)
      marks_are = ap (λ (x : After). take L x.marks) written ∙ take_at (marks_in (places_in C k t)) _ L (length-map (places_in C k t) (λ (w : Entry). w.mark))

      pub room : (get_or X.sizes 4 0 ≤ length X.variables) × (get_or X.sizes 4 0 ≤ length X.marks)
      room =
          let F = places_in C k t in
          omega (
            arith,
            literals_are,
            ap length variables_are,
            ap length marks_are,
            length-take L X.variables,
            length-take L X.marks,
            length-map F (λ (w : Entry). w.variable),
            length-map F (λ (w : Entry). w.mark),
          )

      file_put_lem : (file : List ℕ) → length file ≡ max_file → file_put X.sizes X.variables X.marks file ≡ record { answer = ok; file = over (file_in C k t) file }
      file_put_lem file h =
          ap (λ (n : ℕ). file_written (sizes_by X.sizes) (take n X.variables) (take n X.marks) file) literals_are
          ∙ (λ i. file_written (sizes_by (sizes_are i)) (variables_are i) (marks_are i) file)
          ∙ table_written C k t accepts file (omega (arith, few))

      pub file_done : {r : ℕ} (file : List ℕ) {new : List ℕ} → length file ≡ max_file → r ≡ file_length (get_or X.sizes 4 0) →
          new ≡ (file_put X.sizes X.variables X.marks file).file
          → (r ≡ length (output_for (line C k t))) × (new ≡ over (output_for (line C k t)) file)
      file_done file h p q =
          same_output file (sym output_is) (p ∙ ap file_length literals_are ∙ sym (file_bytes accepts), q ∙ ap (λ (x : FileAfter). x.file) (file_put_lem file h))
