-- Demand 2 leaves one file to a table and one table to a file: numbers and their bytes give each other back, so what the reader hands
-- out is the one table of which the file is made; and a line has one reading, so the file program has one output.
use mathlib.Core.Path.{◌≡◌, refl, sym, ap, ap₂, ◌∙◌, subst}
use mathlib.Core.Logic.{◌⊎◌, inl, inr, ⊎_elim}
use mathlib.Core.List.{List, [], ◌∷◌, ◌++◌, flat_map}
use Prim.Native.Nat.{ℕ, ◌+◌, ◌*◌, ◌^◌, ◌<◌}
use native.Mathlib.Omega.{arith}
use lib.ListN.{length, drop, take, take-append-drop}
use lib.Seq.{take-add}
use borrow.Author.Tests.{eq-eqb}
use Rattle.std.specs.Prelude.{Err, Ok}
use Rattle.refusal.specs.Asked.{asked, AllYes, yes_then, Reply, ok}
use Rattle.refusal.proofs.Laws.{all_yes_answers, one_yes}
use Rattle.lists.specs.Listing.{rows}
use Rattle.paper_grammar.specs.Reader.{Read, on_tree}
use Rattle.paper_grammar.specs.declared.Sort.TheVariants.{Formula}
use Rattle.lists.proofs.Lists.{all_rows}
use Rattle.paper_clauses.specs.Clauses.{clause_table}
use Rattle.paper_clauses.specs.Entries.{flat, variables_in, marks_in, places_in}
use Rattle.table_calls.specs.Table.{sizes_of, sizes_in, five_of, ask_room, After, refused, written}
use Rattle.table_layout.specs.declared.Sizes.{Sizes}
use Rattle.file_numbers.specs.File.{bytes_of, file_of, number_at, sizes_at, variables_at, marks_at, Words, Octets}
use Rattle.file_questions.specs.Questions.{ask_arrays, entry_questions, file_questions}
use Rattle.file_numbers.specs.Held.{Held}
use Rattle.file_calls.specs.Calls.{FileAfter, file_written, file_read}
use Rattle.file_numbers.proofs.Stored.{variables_count, marks_count}
use Rattle.file_questions.proofs.Asking.{file_held}
use Rattle.file_numbers.proofs.Bytes.{all_bytes_back}
use Rattle.file_calls.proofs.Laws.{read_written}
use Rattle.demands.specs.Calls.{Obeys}
use Rattle.file_line.specs.Line.{Line, line, other, line_of, read_line}
use Rattle.file_line.specs.Output.{ask_literals, output_for, output_of}
use Rattle.file_line.proofs.Laws.{line_reads_back, line_is}
use Rattle.demands.specs.Demand2.{Writes, FileOf, Reads, Outputs}
use Rattle.demands.proofs.Obeyed.{yes_both, asked_follows, follows_two, reads_as, asked_obeys, obeys_same}

-- ---- the file's writer

module _ (s : Sizes) (variables marks file : List ℕ) where
  pub written_follows : Writes s variables marks file (file_written s variables marks file)
  unfolding file_written
  written_follows = asked_follows _ _ _ (λ y. refl)

  pub written_only : (x : FileAfter) → Writes s variables marks file x → x ≡ file_written s variables marks file
  written_only x p = follows_two (λ x y. x ≡ y) (λ r. refl) (λ y a b. a ∙ sym b) p written_follows

-- ---- the file's reader

number_small : (file : List ℕ) → Octets file → (at : ℕ) → number_at file at < 2 ^ 32
unfolding number_at
number_small file o at = omega (arith, o at, o (at + 1), o (at + 2), o (at + 3))

module _ (file : List ℕ) (o : Octets file) (y : AllYes (file_questions file)) where
  abbrev S : Sizes
  S = sizes_at file

  held : Held file S
  held = file_held file (one_yes y).0 refl

  arrays_yes : ask_arrays S.literals (length (variables_at file)) (length (marks_at file)) ≡ ok
  unfolding ask_arrays
  arrays_yes = rw (eq-eqb (length (variables_at file)) S.literals (sym (variables_count held)), eq-eqb (length (marks_at file)) S.literals (marks_count held))

  bytes_back : file_of (five_of S) (variables_at file) (marks_at file) ≡ file
  unfolding file_of variables_at marks_at sizes_at rows
  bytes_back =
      let L = S.literals in
      let five : flat_map bytes_of (five_of S) ≡ take 20 file = all_bytes_back file o 0 5 (omega (arith, held.long)) in
      ap₂ (λ (a b : List ℕ). a ++ b ++ drop (20 + 4 * L) file) five (all_bytes_back file o 20 L (omega (arith, held.long)))
      ∙ ap (λ (l : List ℕ). l ++ drop (20 + 4 * L) file) (sym (take-add 20 (4 * L) file)) ∙ take-append-drop (20 + 4 * L) file

  five_small : Words (five_of S)
  unfolding sizes_at
  five_small = (number_small file o 0, (number_small file o 4, (number_small file o 8, (number_small file o 12, (number_small file o 16, tt)))))

  numbers_small : Words (variables_at file)
  unfolding variables_at
  numbers_small = all_rows _ S.literals _ (λ e h. (number_small file o (20 + 4 * e), tt))

  file_of_lem : FileOf file S (variables_at file) (marks_at file)
  file_of_lem = record {
    sizes = five_small;
    numbers = numbers_small;
    taken = subst (λ (q : Reply). AllYes (q ∷ entry_questions S (variables_at file) (marks_at file))) (sym arrays_yes) (yes_then (one_yes y).1);
    is = bytes_back;
  }

module _ (file sizes variables marks : List ℕ) (o : Octets file) where
  -- the room for a table of L literals
  abbrev room : ℕ → Reply
  room L = ask_room L (length sizes) (length variables) (length marks)

  pub read_follows : Reads file sizes variables marks (file_read file sizes variables marks)
  unfolding file_read
  read_follows = asked_follows _ _ _ (λ y. (sizes_at file, variables_at file, marks_at file, file_of_lem file o (yes_both (file_questions file) _ y).0, refl))

  -- a file has one table
  one_table : (file_read file sizes variables marks).answer ≡ ok → (s : Sizes) (v m : List ℕ) → FileOf file s v m
      → written (five_of s) v m sizes variables marks ≡ file_read file sizes variables marks
  one_table d s v m h =
      go (room s.literals) (subst (λ (f : List ℕ). file_read f sizes variables marks ≡ asked (room s.literals ∷ []) (refused sizes variables marks)
      (written (five_of s) v m sizes variables marks)) h.is
      (read_written s v m h.sizes h.numbers (all_yes_answers Err ok h.taken) sizes variables marks))
    where
      go : (q : Reply) → file_read file sizes variables marks ≡ asked (q ∷ []) (refused sizes variables marks) (written (five_of s) v m sizes variables marks)
          → written (five_of s) v m sizes variables marks ≡ file_read file sizes variables marks
      go (Ok _) e = sym e
      go (Err r) e = let p : Err r ≡ ok = sym (ap (λ (x : After). x.answer) e) ∙ d in let z : ◌≡◌ {A = ℕ} 0 1 = cc in absurd (omega arith)

  pub read_only : (x : After) → Reads file sizes variables marks x → x ≡ file_read file sizes variables marks
  read_only x p = follows_two (λ x y. x ≡ y) (λ r. refl) (λ y a b. a.4 ∙ one_table (ap (λ (z : After). z.answer) b.4) a.0 a.1 a.2 a.3) p read_follows

-- ---- the file program

line≢other : {C k : ℕ} {t : List ℕ} → ◌≡◌ {A = Line} (line C k t) other → ⊥
line≢other e = let z : ◌≡◌ {A = ℕ} 0 1 = ap (λ (l : Line). elim l [ line C k t ↦ 0 | other ↦ 1 ]) e in omega arith

module _ (input : List ℕ) where
  -- of a line, and of any other input
  abbrev file_by : ℕ → ℕ → Read Formula → List ℕ
  file_by C k o = let F = on_tree (λ f. flat (clause_table C k f)) o in file_of (on_tree (sizes_of C k) o) (variables_in F) (marks_in F)

  line_obeys : (C k : ℕ) (t : List ℕ)
      → Obeys C k t (λ f. ask_literals (length (flat (clause_table C k f))) ∷
      []) (λ r. []) (λ f x. x ≡ (let F = flat (clause_table C k f) in file_of (sizes_of C k f) (variables_in F) (marks_in F))) (output_for (line C k t))
  unfolding output_for sizes_in places_in
  line_obeys C k t =
      asked_obeys C k t _ _ _ (ask_literals (length (places_in C k t)) ∷ []) _
      (λ f w. ap (λ (o : Read Formula). ask_literals (length (on_tree (λ f. flat (clause_table C k f)) o)) ∷ []) (reads_as t f w)) (λ f w y. ap (file_by C k) (reads_as t f w))

  line_read : (C k : ℕ) (t : List ℕ) → line_of C k t ≡ input → output_for (line C k t) ≡ output_of input
  unfolding output_of
  line_read C k t e = ap output_for (sym (line_reads_back C k t) ∙ ap read_line e)

  -- an input is a line, or it is none and has no output
  line_or_none : ((C : ℕ) × (k : ℕ) × (t : List ℕ) × (line_of C k t ≡ input)) ⊎ (((C k : ℕ) (t : List ℕ) → line_of C k t ≡ input → ⊥) × (output_of input ≡ []))
  unfolding output_of output_for
  line_or_none = go (read_line input) refl
    where
      go : (l : Line) → read_line input ≡ l →
          ((C : ℕ) × (k : ℕ) × (t : List ℕ) × (line_of C k t ≡ input)) ⊎ (((C k : ℕ) (t : List ℕ) → line_of C k t ≡ input → ⊥) ×
          (output_for (read_line input) ≡ []))
      go (line C k t) e = inl (C, k, t, sym (line_is input C k t e))
      go other e = inr (λ C k t q. line≢other (sym (line_reads_back C k t) ∙ ap read_line q ∙ e), ap output_for e)

  pub output_obeys : Outputs input (output_of input)
  output_obeys = record {
    of_line = λ C k t e. subst (Obeys C k t _ _ _) (line_read C k t e) (line_obeys C k t);
    of_other = λ h. ⊎_elim (λ l. absurd (h l.0 l.1 l.2 l.3)) (λ n. n.1) line_or_none;
  }

  pub output_only : (bytes : List ℕ) → Outputs input bytes → bytes ≡ output_of input
  output_only bytes p =
      ⊎_elim (λ l. obeys_same l.0 l.1 l.2 _ _ _ (λ f w y a b. a ∙ sym b) (p.of_line l.0 l.1 l.2 l.3) (output_obeys.of_line l.0 l.1 l.2 l.3))
      (λ n. p.of_other n.0 ∙ sym n.1) line_or_none
