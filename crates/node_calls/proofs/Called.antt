-- A call that asks the formula's questions first is refused by the first no among them; otherwise it ends as its later questions say, of
-- the tree that the text reads as, whose node table the code has.
use mathlib.Core.Path.{◌≡◌, sym, ap, ◌∙◌}
use mathlib.Core.Bool.{◌&&◌}
use mathlib.Core.List.{List, [], ◌∷◌, ◌++◌, map}
use Prim.Native.Nat.{ℕ, ◌≤◌}
use native.Mathlib.Omega.{arith}
use lib.Dec.{leb}
use lib.ListN.{length, length-map}
use Rattle.std.specs.Prelude.{Result, Ok, Err}
use Rattle.refusal.specs.Asked.{Reply, ok, question, asked}
use Rattle.refusal.specs.declared.Refusal.{Refusal}
use Rattle.refusal.proofs.Laws.{asked_append, replied_yes, replied_no, asked_map}
use Rattle.interval.specs.Limits.{max_steps}
use Rattle.paper_grammar.specs.Limits.{max_nodes, max_channels}
use Rattle.paper_grammar.specs.Trees.{Tree}
use Rattle.paper_grammar.specs.Reader.{Read, parsed, read}
use Rattle.paper_grammar.specs.declared.Sort.TheVariants.{Formula}
use Rattle.paper_grammar.proofs.Laws.{prints_as_text}
use Rattle.paper_grammar.specs.Nodes.{Node, nodes_in}
use Rattle.paper_grammar.specs.Questions.{formula_questions, accept_of}
use Rattle.formula_text.proofs.Asked.{asked_one}
use Rattle.formula_text.proofs.Laws.{accepted, nodes_read_lem}
use Rattle.node_rows.specs.Table.{row_of, table_of}
use Rattle.node_rows.specs.declared.NodeTable.{NodeTable}
use Rattle.node_rows.proofs.Begun.{nodes_most}
use Rattle.node_calls.specs.Calls.{tabled_of, tabled_with, ask_node, node_questions, node_refusal_of}
use Rattle.node_calls.specs.Rows.{node_table_of, TableFor}

-- what an answer with a table says of the questions alone
abbrev reply_of : Result NodeTable Refusal → Reply
reply_of (Ok n) = ok
reply_of (Err r) = Err r

module _ (C k : ℕ) (t : List ℕ) where
  pub table_refused : (r : Refusal) → accept_of C k t ≡ Err r → tabled_of C k t ≡ Err r
  unfolding tabled_of accept_of
  table_refused r e = replied_no Err _ (formula_questions C k t) r e

  pub table_made : accept_of C k t ≡ ok → tabled_of C k t ≡ Ok (table_of (map row_of (nodes_in t)))
  unfolding tabled_of accept_of
  table_made e = replied_yes Err _ (formula_questions C k t) e

  reply_is : {T : Result NodeTable Refusal} → T ≡ tabled_of C k t → reply_of T ≡ accept_of C k t
  unfolding tabled_of accept_of
  reply_is e = ap reply_of e ∙ asked_map reply_of _ _ (formula_questions C k t)

-- what the answer of the table's call says: a refusal is that of every call that asks these questions first
pub refused_first : (C k : ℕ) (t : List ℕ) {r : Refusal} → Err r ≡ tabled_of C k t → {A : Type 0} (refused : Refusal → A) (answer : A) (later : List Reply)
    → refused r ≡ asked (formula_questions C k t ++ later) refused answer
unfolding accept_of
refused_first C k t {r} e refused answer later =
    sym (asked_append refused answer (formula_questions C k t) later ∙ replied_no refused _ (formula_questions C k t) r (sym (reply_is C k t e)))

-- and a table is that of the formula that the text reads as
module _ (C k : ℕ) (t : List ℕ) {T : NodeTable} (e : Ok T ≡ tabled_of C k t) where
  accepts : accept_of C k t ≡ ok
  accepts = sym (reply_is C k t e)

  pub limits : (C ≤ max_channels) × (k ≤ max_steps)
  limits = let a = accepted C k t accepts in (a.channels.1, a.steps)

  pub table_is : T ≡ table_of (map row_of (nodes_in t))
  table_is = let f = e ∙ table_made C k t accepts in cc

  rows_are : T.count ≡ length (nodes_in t)
  unfolding table_of
  rows_are = ap (λ (N : NodeTable). N.count) table_is ∙ length-map (nodes_in t) row_of

  pub few_rows : T.count ≤ max_nodes
  few_rows = omega (arith, rows_are, nodes_most C k t accepts)

  -- of a formula that the text reads as
  table_read : {f : Tree Formula} → read t ≡ parsed f → T ≡ node_table_of f
  table_read {f} r = table_is ∙ ap (λ (l : List Node). table_of (map row_of l)) (nodes_read_lem t f r)

  pub table_for_lem : (f : Tree Formula) × TableFor C f T
  table_for_lem = let a = accepted C k t accepts in (a.root, record { letters = a.letters; is = table_read a.reads })

  module _ {A : Type 0} (refused : Refusal → A) where
    later_asked : (answer : A) (later : List Reply) → asked later refused answer ≡ asked (formula_questions C k t ++ later) refused answer
    unfolding accept_of
    later_asked answer later = sym (asked_append refused answer (formula_questions C k t) later ∙ replied_yes refused _ (formula_questions C k t) accepts)

    -- what is told of every formula with this node table is told of the text
    pub called : (answer : Read Formula → A) (later : Read Formula → List Reply) {a : A}
        → ((f : Tree Formula) → TableFor max_channels f T → a ≡ asked (later (parsed f)) refused (answer (parsed f)))
        → a ≡ asked (formula_questions C k t ++ later (read t)) refused (answer (read t))
    called answer later g =
        let a = accepted C k t accepts in
        g a.root (record { letters = (prints_as_text t a.root a.reads).0; is = table_read a.reads })
        ∙ ap (λ (r : Read Formula). asked (later r) refused (answer r)) (sym a.reads) ∙ later_asked (answer (read t)) (later (read t))

-- questions 1 to 7, then 8
module _ (C k x : ℕ) (t : List ℕ) where
  pub refused_early : {r : Refusal} → Err r ≡ tabled_of C k t → Err r ≡ tabled_with C k x t
  unfolding tabled_with
  refused_early e = refused_first C k t e Err _ (ask_node x t ∷ [])

  -- question 8, by the count that the table has
  counted : {T : NodeTable} → Ok T ≡ tabled_of C k t → {q : Reply} → q ≡ question 8 0 (leb 1 x && leb x T.count)
      → asked (q ∷ []) Err (Ok (table_of (map row_of (nodes_in t)))) ≡ tabled_with C k x t
  unfolding tabled_with ask_node
  counted e u =
      ap (λ (q : Reply). asked (q ∷ []) Err (Ok (table_of (map row_of (nodes_in t))))) (u ∙ ap (λ (m : ℕ). question 8 0 (leb 1 x && leb x m)) (rows_are C k t e))
      ∙ later_asked C k t e Err _ (ask_node x t ∷ [])

  pub refused_last : {T : NodeTable} → Ok T ≡ tabled_of C k t → {r : Refusal} → Err r ≡ question 8 0 (leb 1 x && leb x T.count) → Err r ≡ tabled_with C k x t
  refused_last e u = counted e u

  pub table_with : {T : NodeTable} → Ok T ≡ tabled_of C k t → ok ≡ question 8 0 (leb 1 x && leb x T.count) → Ok T ≡ tabled_with C k x t
  table_with e u = ap (λ (T : NodeTable). Ok T) (table_is C k t e) ∙ counted e u

  asked_with : {T : Result NodeTable Refusal} → T ≡ tabled_with C k x t → reply_of T ≡ node_refusal_of C k x t
  unfolding tabled_with node_refusal_of
  asked_with e = ap reply_of e ∙ asked_map reply_of _ _ (node_questions C k x t)

  pub refused_with : {r : Refusal} → Err r ≡ tabled_with C k x t → Err r ≡ node_refusal_of C k x t
  refused_with e = asked_with e

  module _ {T : NodeTable} (e : Ok T ≡ tabled_with C k x t) where
    pub allowed_with : ok ≡ node_refusal_of C k x t
    allowed_with = asked_with e

    pub with_is : T ≡ table_of (map row_of (nodes_in t))
    unfolding tabled_with node_refusal_of
    with_is = let f = e ∙ replied_yes Err _ (node_questions C k x t) (sym allowed_with) in cc
