-- A call ends as its questions say, in their order: those of the formula, then 18;
-- then as the tree of the formula that the text reads as.
use mathlib.Core.Path.{◌≡◌, sym, ap, ap₂, ◌∙◌}
use mathlib.Core.List.{List, [], ◌∷◌}
use Prim.Native.Nat.{ℕ, ◌≤◌}
use lib.ListN.{length}
use lib.Dec.{leb}
use borrow.Author.Tests.{leb-true}
use Rattle.std.specs.Prelude.{Ok, Err}
use Rattle.refusal.specs.declared.Refusal.{Refusal}
use Rattle.refusal.specs.Asked.{asked, Reply, ok}
use Rattle.paper_grammar.specs.Trees.{Tree}
use Rattle.paper_grammar.specs.Reader.{Read, parsed, stopped, read, on_tree}
use Rattle.paper_grammar.specs.declared.Sort.TheVariants.{Formula}
use Rattle.paper_grammar.specs.Nodes.{nodes_in, nodes_read}
use Rattle.lists.proofs.Tests.{both}
use Rattle.refusal.proofs.Laws.{test_yes}
use Rattle.node_rows.specs.declared.NodeTable.{NodeTable}
use Rattle.node_calls.specs.Calls.{tabled_of}
use Rattle.node_calls.specs.Rows.{node_table_of}
use Rattle.node_calls.proofs.Called as first
use Rattle.paper_circuit.specs.Circuit.{variables_of}
use Rattle.paper_clauses.specs.Clauses.{clause_table}
use Rattle.paper_clauses.specs.Entries.{flat, places_in}
use Rattle.table_layout.specs.Rows.{Measured}
use Rattle.table_layout.specs.declared.Sizes.{Sizes}
use Rattle.table_layout.proofs.Known.{variables_known, literals_known}
use Rattle.paper_closure.specs.Runs.{dead}
use Rattle.paper_closure.specs.Tree.{trial}
use Rattle.paper_search.specs.Search.{tree_of, tree_in, Searched, unwritten, limited, ask_lent, searched}
use Rattle.paper_search.specs.declared.Lent.{Lent}
use Rattle.search_calls.specs.Rows.{searched_by}

-- ---- question 18, answered with yes

pub record Enough (l v k : ℕ) (n : Lent) : Type 0 where
  pub variables : l ≤ n.variables
  pub marks : l ≤ n.marks
  pub values : v ≤ n.values
  pub trail : v ≤ n.trail
  pub recording : k ≤ n.recording

pub lent_enough : (l v k : ℕ) (n : Lent) → ask_lent l v k n ≡ ok → Enough l v k n
unfolding ask_lent
lent_enough l v k n e =
    let a = both _ (leb k n.recording) (test_yes 18 0 _ e) in
    let b = both _ (leb v n.trail) a.0 in
    let c = both _ (leb v n.values) b.0 in
    let d = both (leb l n.variables) (leb l n.marks) c.0 in
    record {
      variables = leb-true l n.variables d.0;
      marks = leb-true l n.marks d.1;
      values = leb-true v n.values c.1;
      trail = leb-true v n.trail b.1;
      recording = leb-true k n.recording a.1;
    }

-- ---- the formula's node table

module _ (C k : ℕ) (f : Tree Formula) {T : NodeTable} (e : T ≡ node_table_of f) {G : List ℕ} {s : Sizes}
    (w : Measured C k T.kinds T.numbers T.count G s) (B : ℕ) (n : Lent) (recording : List ℕ) where
  abbrev ending : Reply → Searched
  ending a = asked (a ∷ []) (λ r. unwritten recording (Err r)) (limited C k B recording (tree_of C k f))

  lent_known : ending (ask_lent s.literals s.variables k n) ≡ searched_by C k f B n recording
  unfolding searched_by
  lent_known = ap₂ (λ (l v : ℕ). ending (ask_lent l v k n)) (literals_known C k f e w) (variables_known C k f e w)

  pub lent_refused : {r : Refusal} → Err r ≡ ask_lent s.literals s.variables k n → unwritten recording (Err r) ≡ searched_by C k f B n recording
  lent_refused q = ap ending q ∙ lent_known

  pub lent_searched : ok ≡ ask_lent s.literals s.variables k n → limited C k B recording (tree_of C k f) ≡ searched_by C k f B n recording
  lent_searched q = ap ending q ∙ lent_known

-- ---- the whole call

module _ (C k : ℕ) (t : List ℕ) (B : ℕ) (n : Lent) (recording : List ℕ) where
  abbrev refused : Refusal → Searched
  refused r = unwritten recording (Err r)

  abbrev answer : Read Formula → Searched
  answer r = limited C k B recording (elim r [ parsed f ↦ tree_of C k f | stopped p ↦ trial dead 0 ])

  abbrev later : Read Formula → List Reply
  later f = ask_lent (length (on_tree (λ f. flat (clause_table C k f)) f)) (variables_of C k (nodes_read f)) k n ∷ []

  pub first_refused : {r : Refusal} → Err r ≡ tabled_of C k t → refused r ≡ searched C k t B n recording
  unfolding searched tree_in places_in nodes_in
  first_refused e = first.refused_first C k t e refused (answer (read t)) (later (read t))

  pub called : {T : NodeTable} → Ok T ≡ tabled_of C k t → {x : Searched} → ((f : Tree Formula) → T ≡ node_table_of f → x ≡ searched_by C k f B n recording) → x ≡ searched C k t B n recording
  unfolding searched searched_by tree_in places_in nodes_in
  called e g = first.called C k t e refused answer later (λ f w. g f w.is)
