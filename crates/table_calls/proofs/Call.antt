-- The sums along the node table are the sizes of the formula's table, so question 18 is asked of the true L; and what is written over the
-- lent arrays is the table's places.
use mathlib.Core.Path.{◌≡◌, sym, ap, ◌∙◌}
use mathlib.Core.Bool.{true, ◌&&◌}
use mathlib.Core.List.{List, [], ◌∷◌}
use Prim.Native.Nat.{ℕ, ◌≤◌}
use native.Mathlib.Omega.{arith}
use lib.Dec.{leb}
use lib.ListN.{length, length-map}
use lib.Seq.{sets}
use borrow.Author.Tests.{leb-true}
use Rattle.std.specs.Prelude.{Ok, Err}
use Rattle.refusal.specs.Asked.{asked, Reply, ok}
use Rattle.refusal.specs.declared.Refusal.{Refusal}
use Rattle.refusal.proofs.Laws.{test_yes}
use Rattle.paper_grammar.specs.Trees.{Tree}
use Rattle.paper_grammar.specs.Reader.{Read, read, on_tree}
use Rattle.paper_grammar.specs.declared.Sort.TheVariants.{Formula}
use Rattle.lists.proofs.Tests.{both}
use Rattle.node_rows.specs.declared.NodeTable.{NodeTable}
use Rattle.node_calls.specs.Calls.{tabled_of as nodeTabled}
use Rattle.node_calls.specs.Rows.{node_table_of}
use Rattle.node_calls.proofs.Called as first
use Rattle.paper_clauses.specs.Clauses.{clause_table}
use Rattle.paper_clauses.specs.Entries.{Entry, flat, variables_in, marks_in, places_in}
use Rattle.table_literals.specs.Written.{Wrote}
use Rattle.table_layout.specs.Rows.{table_places, Measured}
use Rattle.table_layout.specs.declared.Sizes.{Sizes}
use Rattle.table_layout.proofs.Known.{clauses_are, known, variables_known, literals_known, places_known}
use Rattle.table_calls.specs.Table.{After, sizes_of, sizes_in, ask_room, refused, written_table, five_of, tabled}
use Rattle.moments.specs.Moments.{over}
use Rattle.table_calls.specs.Rows.{tabled_by}
use Rattle.lists.proofs.Stored.{stored_over}

-- ---- question 18, answered with yes

module _ (L s v m : ℕ) (e : ask_room L s v m ≡ ok) where
  room_yes : (leb 5 s ≡ true) × (leb L v ≡ true) × (leb L m ≡ true)
  unfolding ask_room
  room_yes = let a = both (leb 5 s && leb L v) (leb L m) (test_yes 18 0 _ e) in let b = both (leb 5 s) (leb L v) a.0 in (b.0, b.1, a.1)

  pub room_enough : (5 ≤ s) × (L ≤ v) × (L ≤ m)
  room_enough = (leb-true 5 s room_yes.0, leb-true L v room_yes.1, leb-true L m room_yes.2)

-- ---- the table of a formula

module _ (C k : ℕ) (f : Tree Formula) where
  abbrev places : List Entry
  places = flat (clause_table C k f)

  module _ {T : NodeTable} (e : T ≡ node_table_of f) {F : List ℕ} {s : Sizes} (w : Measured C k T.kinds T.numbers T.count F s) where
    five_known : five_of s ≡ sizes_of C k f
    unfolding sizes_of
    five_known =
        let n = known C k f e w in
        let m = n.clauses ∙ sym (clauses_are C k f) in
        λ i. n.channels i ∷ n.steps i ∷ variables_known C k f e w i ∷ m i ∷ literals_known C k f e w i ∷ []

    -- the table, once its places are written
    arrays_written : {variables marks variables' marks' : List ℕ} {at : ℕ} → s.literals ≤ length variables → s.literals ≤ length marks
        → Wrote variables marks 0 (table_places C k T F) variables' marks' at
        → (variables' ≡ over (variables_in places) variables) × (marks' ≡ over (marks_in places) marks)
    arrays_written {variables} {marks} g h t = (
      stored_over (variables_in places) variables (t.variables ∙ ap (λ (F : List Entry). sets variables 0 (variables_in F)) (places_known C k f e w))
          (omega (arith, g, literals_known C k f e w, length-map places (λ (e : Entry). e.variable))),
      stored_over (marks_in places) marks (t.marks ∙ ap (λ (F : List Entry). sets marks 0 (marks_in F)) (places_known C k f e w))
          (omega (arith, h, literals_known C k f e w, length-map places (λ (e : Entry). e.mark))),
    )

    module _ (five variables marks : List ℕ) where
      abbrev question : ℕ → Reply
      question L = ask_room L (length five) (length variables) (length marks)

      pub refused_known : {r : Refusal} → Err r ≡ question s.literals → refused five variables marks r ≡ tabled_by C k f five variables marks
      unfolding tabled_by
      refused_known q =
          ap (λ (a : Reply). asked (a ∷ []) (refused five variables marks) (written_table (sizes_of C k f) places five variables marks)) (q ∙ ap question (literals_known C k f e w))

      pub written_known : ok ≡ question s.literals → {five' variables' marks' : List ℕ} {at : ℕ} → five' ≡ over (five_of s) five
          → Wrote variables marks 0 (table_places C k T F) variables' marks' at
          → record { answer = ok; sizes = five'; variables = variables'; marks = marks' } ≡ tabled_by C k f five variables marks
      unfolding tabled_by
      written_known q {five'} {variables'} {marks'} z t =
          let g = room_enough s.literals (length five) (length variables) (length marks) (sym q) in
          let a : five' ≡ over (sizes_of C k f) five = z ∙ ap (λ (l : List ℕ). over l five) five_known in
          let b = arrays_written g.1 g.2 t in
          let d : ok ≡ question (length places) = q ∙ ap question (literals_known C k f e w) in
          (λ i. record { answer = ok; sizes = a i; variables = b.0 i; marks = b.1 i })
          ∙ ap (λ (a : Reply). asked (a ∷ []) (refused five variables marks) (written_table (sizes_of C k f) places five variables marks)) d

-- ---- the whole call

module _ (C k : ℕ) (t five variables marks : List ℕ) where
  abbrev later : Read Formula → List Reply
  later f = ask_room (length (on_tree (λ f. flat (clause_table C k f)) f)) (length five) (length variables) (length marks) ∷ []

  abbrev answer : Read Formula → After
  answer f = written_table (on_tree (sizes_of C k) f) (on_tree (λ f. flat (clause_table C k f)) f) five variables marks

  pub refused_first : {r : Refusal} → Err r ≡ nodeTabled C k t → refused five variables marks r ≡ tabled C k t five variables marks
  unfolding tabled sizes_in places_in
  refused_first e = first.refused_first C k t e (refused five variables marks) (answer (read t)) (later (read t))

  pub called : {T : NodeTable} → Ok T ≡ nodeTabled C k t → {a : After} → ((f : Tree Formula) → T ≡ node_table_of f → a ≡ tabled_by C k f five variables marks)
      → a ≡ tabled C k t five variables marks
  unfolding tabled tabled_by sizes_in places_in
  called e g = first.called C k t e (refused five variables marks) answer later (λ f n. g f n.is)
