-- A clause's places name its variables, their marks are 0 or 1, plus 2 on the last alone; so there are as many closing marks as clauses,
-- and the root's place closes the table. Hence the file's writer takes every table of an accepted text.
use mathlib.Core.Path.{◌≡◌, refl, sym, ap, ◌∙◌, subst}
use mathlib.Core.Bool.{Bool, true, false, ◌||◌}
use mathlib.Core.List.{List, [], ◌∷◌, ◌++◌, flat_map}
use Prim.Native.Nat.{ℕ, zero, suc, ◌+◌, ◌-◌, ◌≤◌, ◌<◌}
use native.Mathlib.Nat.{zero-add}
use native.Mathlib.Omega.{arith}
use lib.Dec.{eqb}
use lib.ListN.{length, get_or, length-map, length-append}
use lib.Seq.{get_or_at}
use borrow.Author.Tests.{le-leb, eq-eqb}
use Rattle.std.specs.Prelude.{Err}
use Rattle.refusal.specs.Asked.{asked, ok}
use Rattle.refusal.proofs.Laws.{last_yes}
use Rattle.interval.specs.Limits.{ask_steps}
use Rattle.paper_grammar.specs.Trees.{Tree, Letters}
use Rattle.paper_grammar.specs.Reader.{Read, on_tree}
use Rattle.paper_grammar.specs.declared.Sort.TheVariants.{Formula}
use Rattle.paper_grammar.specs.Nodes.{nodes_of}
use Rattle.paper_grammar.specs.Questions.{ask_channels, formula_questions, accept_of}
use Rattle.lists.specs.Listing.{All}
use Rattle.lists.proofs.Lists.{all_map, all_at, all_mapped}
use Rattle.formula_text.proofs.Laws.{all_yes, accepted}
use Rattle.paper_meaning.specs.Meaning.{bit, every, highs}
use Rattle.paper_meaning.proofs.Laws.{bit_le}
use Rattle.paper_circuit.specs.Circuit.{variables_of}
use Rattle.paper_circuit.proofs.Blocks.{From}
use Rattle.paper_clauses.specs.Clauses.{Literal, Clause, clause_table}
use Rattle.paper_clauses.specs.Entries.{Entry, entries_of, flat, variables_in, marks_in, places_in}
use Rattle.paper_clauses.proofs.Good.{Full, full_table}
use Rattle.table_calls.specs.Table.{five_of, sizes_of, sizes_in}
use Rattle.moments.specs.Moments.{over}
use Rattle.table_layout.specs.declared.Sizes.{Sizes}
use Rattle.paper_clauses.proofs.Named.{table_all, places_named, last_mark}
use Rattle.file_questions.specs.Questions.{all_pass, how_many, ask_arrays, in_limits, is_variable, is_mark, ask_entries, closes, ends_closed, ask_closed, ask_file_room, array_questions}
use Rattle.file_numbers.specs.File.{file_of, sizes_by, file_length}
use Rattle.file_calls.specs.Calls.{FileAfter, file_refused, file_written}

-- ---- lists that are tested

every_true : (f : ℕ → Bool) (n : ℕ) → ((e : ℕ) → e < n → f e ≡ true) → every f 0 n ≡ true
unfolding every
every_true f zero h = refl
every_true f (suc n) h = rw (every_true f n (λ e l. h e (omega arith)), zero-add n, h n (omega arith))

all_pass_lem : (test : ℕ → Bool) (l : List ℕ) → All (λ v. test v ≡ true) l → all_pass test l ≡ true
all_pass_lem test l a = every_true (λ e. test (get_or l e 0)) (length l) (all_at (λ v. test v ≡ true) l 0 a)

highs_first : (f : ℕ → Bool) (n : ℕ) → highs f 0 (suc n) ≡ bit (f 0) + highs (λ e. f (suc e)) 0 n
unfolding highs
highs_first f zero = omega arith
highs_first f (suc n) = omega (arith, highs_first f n, ap (λ (e : ℕ). bit (f e)) (zero-add (suc n)), ap (λ (e : ℕ). bit (f (suc e))) (zero-add n))

count_first : (test : ℕ → Bool) (v : ℕ) (l : List ℕ) → how_many test (v ∷ l) ≡ bit (test v) + how_many test l
count_first test v l = highs_first (λ e. test (get_or (v ∷ l) e 0)) (length l)

-- ---- the places of clauses

clause_marks : (c : Clause) → All (λ (e : Entry). e.mark ≤ 3) (entries_of c)
unfolding entries_of
clause_marks [] = tt
clause_marks (l ∷ []) = (omega (arith, bit_le l.sign), tt)
clause_marks (l ∷ m ∷ c) = (omega (arith, bit_le l.sign), clause_marks (m ∷ c))

closed_last : (b : Bool) → bit (closes (bit b + 2)) ≡ 1
closed_last true = refl
closed_last false = refl

open_other : (b : Bool) → bit (closes (bit b)) ≡ 0
open_other true = refl
open_other false = refl

clause_closes : (l : Literal) (c : Clause) (F : List Entry) → how_many closes (marks_in (entries_of (l ∷ c) ++ F)) ≡ 1 + how_many closes (marks_in F)
unfolding entries_of
clause_closes l [] F = count_first closes _ (marks_in F) ∙ rw (closed_last l.sign)
clause_closes l (m ∷ c) F = count_first closes _ (marks_in (entries_of (m ∷ c) ++ F)) ∙ rw (open_other l.sign) (omega (arith, clause_closes m c F))

table_closes : (T : List Clause) → All Full T → how_many closes (marks_in (flat T)) ≡ length T
unfolding flat flat_map highs
table_closes [] a = refl
table_closes ([] ∷ T) a = absurd a.0
table_closes ((l ∷ c) ∷ T) a = omega (arith, clause_closes l c (flat T), table_closes T a.1)

-- ---- the table of a formula

ends_closed_lem : (l m : List ℕ) → l ≡ m ++ 3 ∷ [] → ends_closed l ≡ true
ends_closed_lem l m e =
    let n : length m ≡ length (m ++ 3 ∷ []) - 1 = omega (arith, length-append m (3 ∷ [])) in
    rw e (rw (get_or_at m 3 [] 0 _ n) (either (eqb (length (m ++ 3 ∷ [])) 0)))
  where
    either : (b : Bool) → b || true ≡ true
    either true = refl
    either false = refl

module _ (C k : ℕ) (f : Tree Formula) where
  abbrev F : List Entry
  F = flat (clause_table C k f)

  abbrev most : ℕ
  most = variables_of C k (nodes_of f 0)

  abbrev InRange : ℕ → Type 0
  InRange v = is_variable most v ≡ true

  variables_pass : Letters C f → all_pass (is_variable most) (variables_in F) ≡ true
  variables_pass L =
      all_pass_lem (is_variable most) (variables_in F) (all_mapped InRange (λ (e : Entry). InRange e.variable) (λ (e : Entry). e.variable) F (λ e w. w)
      (all_map _ _ (λ (e : Entry) w. within e.variable w) F (places_named C k f L)))
    where
      within : (v : ℕ) → From 1 most v → InRange v
      within v w = rw (le-leb 1 v w.0, le-leb v most (omega (arith, w.1)))

  marks_pass : all_pass is_mark (marks_in F) ≡ true
  marks_pass =
      all_pass_lem is_mark (marks_in F) (all_mapped (λ m. is_mark m ≡ true) (λ (e : Entry). is_mark e.mark ≡ true) (λ (e : Entry). e.mark) F (λ e w. w)
      (table_all _ (clause_table C k f) (all_map Full _ (λ c w. all_map _ _ (λ (e : Entry) h. le-leb e.mark 3 h) (entries_of c) (clause_marks c))
      (clause_table C k f) (full_table C k f))))

  ends : ends_closed (marks_in F) ≡ true
  ends = let w = last_mark C k f in ends_closed_lem (marks_in F) w.0 w.1

  module _ (L : Letters C f) (c : ask_channels C ≡ ok) (d : ask_steps k ≡ ok) (s : Sizes) (e : five_of s ≡ sizes_of C k f) where
    at_size : (n : ℕ) → get_or (five_of s) n 0 ≡ get_or (sizes_of C k f) n 0
    at_size n = ap (λ (l : List ℕ). get_or l n 0) e

    arrays_yes : ask_arrays s.literals (length (variables_in F)) (length (marks_in F)) ≡ ok
    unfolding ask_arrays sizes_of
    arrays_yes =
        rw (
          eq-eqb (length (variables_in F)) s.literals (length-map F (λ (e : Entry). e.variable) ∙ sym (at_size 4)),
          eq-eqb (length (marks_in F)) s.literals (length-map F (λ (e : Entry). e.mark) ∙ sym (at_size 4)),
        )

    limits_pass : in_limits s ≡ true
    unfolding in_limits sizes_of
    limits_pass = rw (at_size 0, at_size 1, c, d)

    entries_yes : ask_entries s (variables_in F) (marks_in F) ≡ ok
    unfolding ask_entries sizes_of
    entries_yes = rw (limits_pass, at_size 2, variables_pass L, marks_pass)

    closed_yes : ask_closed s.clauses (marks_in F) ≡ ok
    unfolding ask_closed sizes_of
    closed_yes = rw (eq-eqb s.clauses (how_many closes (marks_in F)) (at_size 3 ∙ sym (table_closes (clause_table C k f) (full_table C k f))), ends)

    tree_writable : asked (array_questions s (variables_in F) (marks_in F)) Err ok ≡ ok
    tree_writable = rw (arrays_yes, entries_yes, closed_yes)

-- the writer answers its 15, 16 and 17 with yes
writable : (C k : ℕ) (t : List ℕ) (s : Sizes) → accept_of C k t ≡ ok → five_of s ≡ sizes_in C k t →
    asked (array_questions s (variables_in (places_in C k t)) (marks_in (places_in C k t))) Err ok ≡ ok
unfolding sizes_in places_in accept_of
writable C k t s y e =
    let a = accepted C k t y in
    let q = all_yes (formula_questions C k t) y in
    let p : places_in C k t ≡ flat (clause_table C k a.root) = ap (on_tree (λ f. flat (clause_table C k f))) a.reads in
    ap (λ (F : List Entry). asked (array_questions s (variables_in F) (marks_in F)) Err ok) p
    ∙ tree_writable C k a.root a.letters q.0 q.1.0 s (e ∙ ap (on_tree (sizes_of C k)) a.reads)

module _ (C k : ℕ) (t : List ℕ) (y : accept_of C k t ≡ ok) where
  abbrev places : List Entry
  places = places_in C k t

  -- the sizes of an accepted text are five, and the last is L
  pub five_sizes : (length (sizes_in C k t) ≡ 5) × (five_of (sizes_by (sizes_in C k t)) ≡ sizes_in C k t) × (get_or (sizes_in C k t) 4 0 ≡ length (places_in C k t))
  unfolding sizes_in places_in sizes_of
  five_sizes =
      let P : List ℕ → ℕ → Type 0 = λ (s : List ℕ) (n : ℕ). (length s ≡ 5) × (five_of (sizes_by s) ≡ s) × (get_or s 4 0 ≡ n) in
      subst (λ (r : Read Formula). P (on_tree (sizes_of C k) r) (length (on_tree (λ f. flat (clause_table C k f)) r))) (sym (accepted C k t y).reads) (refl, refl, refl)

  -- every table that the table's call writes is taken by the file's writer
  pub table_written : (file : List ℕ) → file_length (length (places_in C k t)) ≤ length file
      → file_written (sizes_by (sizes_in C k t)) (variables_in (places_in C k t)) (marks_in (places_in C k t)) file
      ≡ record { answer = ok; file = over (file_of (sizes_in C k t) (variables_in (places_in C k t)) (marks_in (places_in C k t))) file }
  unfolding file_written ask_file_room
  table_written file h =
      let s = sizes_by (sizes_in C k t) in
      let done : List ℕ → FileAfter = λ (five : List ℕ). record { answer = ok; file = over (file_of five (variables_in places) (marks_in places)) file } in
      sym (last_yes (file_refused file) (done (five_of s)) (array_questions s (variables_in places) (marks_in places)) (ask_file_room s.literals (length file))
      (writable C k t s y five_sizes.1) (rw (le-leb (file_length s.literals) (length file) (omega (arith, five_sizes.2)))))
      ∙ ap done five_sizes.1
