-- The node of a number from 1 to the count stands in the text at its row's first byte, so its own text is that part, and it is what the
-- node prints.
use mathlib.Core.Path.{◌≡◌, refl, sym, ap, ap₂, ◌∙◌}
use mathlib.Core.Bool.{false≢true}
use mathlib.Core.List.{List, [], ◌∷◌, map}
use Prim.Native.Nat.{ℕ, ◌+◌, ◌-◌, ◌≤◌, ◌<◌}
use native.Mathlib.Omega.{arith}
use lib.ListN.{length, get_or, drop}
use Rattle.std.specs.Prelude.{Ok, Err}
use Rattle.refusal.specs.Asked.{Reply, ok, asked}
use Rattle.refusal.specs.declared.Refusal.{Refusal}
use Rattle.refusal.proofs.Laws.{asked_append, replied_yes, replied_no, test_yes}
use Rattle.paper_grammar.specs.Limits.{max_nodes}
use Rattle.paper_grammar.specs.Trees.{text_of}
use Rattle.lists.proofs.Tests.{ranged}
use Rattle.paper_grammar.specs.Nodes.{Node, nodes_in}
use Rattle.paper_grammar.specs.Questions.{formula_questions, accept_of}
use Rattle.paper_grammar.proofs.EachNode.{Chosen}
use Rattle.formula_text.proofs.Standing.{end_within, text_is}
use Rattle.formula_text.proofs.Asked.{asked_one}
use Rattle.node_rows.specs.Table.{row_of, padded, table_of}
use Rattle.node_rows.specs.declared.Row.{Row}
use Rattle.node_rows.specs.declared.NodeTable.{NodeTable}
use Rattle.node_rows.proofs.Steps.{field_at, drop_map}
use Rattle.node_rows.proofs.Begun.{nodes_most}
use Rattle.node_rows.proofs.Found.{Known, node_chosen}
use Rattle.node_calls.specs.Calls.{tabled_with, ask_node, node_questions, node_refusal_of, part_place, node_place_of, part_of, node_text_of}
use Rattle.node_calls.specs.declared.Span.{Span}
use Rattle.node_calls.proofs.Called.{refused_with, allowed_with, with_is}

-- questions 1 to 7, then 8
yes_both : (q : List Reply) (z : Reply) → asked q Err z ≡ ok → (asked q Err ok ≡ ok) × (z ≡ ok)
yes_both [] z e = (refl, e)
yes_both (Ok _ ∷ q) z e = yes_both q z e
yes_both (Err r ∷ q) z e = absurd (false≢true cc)

module _ (C k x : ℕ) (t : List ℕ) where
  refusal_is : node_refusal_of C k x t ≡ asked (formula_questions C k t) Err (ask_node x t)
  unfolding node_refusal_of
  refusal_is = asked_append Err ok (formula_questions C k t) (ask_node x t ∷ []) ∙ ap (asked (formula_questions C k t) Err) (asked_one (ask_node x t))

  pub place_refused : (r : Refusal) → node_refusal_of C k x t ≡ Err r → node_place_of C k x t ≡ Err r
  unfolding node_place_of node_refusal_of
  place_refused r e = replied_no Err _ (node_questions C k x t) r e

-- a field of a node's row
pub field_after : (g : Row → ℕ) (l m : List Node) (i : ℕ) (w : Node) → drop i l ≡ w ∷ m → get_or (padded (map g (map row_of l))) i 0 ≡ g (row_of w)
field_after g l m i w e = field_at g (map row_of l) (map row_of m) i (row_of w) (drop_map row_of i l ∙ ap (map row_of) e)

abbrev spanning : ℕ → ℕ → Span
spanning first length = record { first = first; length = length }

module _ (C k x : ℕ) (t : List ℕ) (e : node_refusal_of C k x t ≡ ok) where
  pub both_yes : (accept_of C k t ≡ ok) × (ask_node x t ≡ ok)
  unfolding accept_of
  both_yes = yes_both (formula_questions C k t) (ask_node x t) (sym (refusal_is C k x t) ∙ e)

  pub numbered : (1 ≤ x) × (x ≤ length (nodes_in t))
  unfolding ask_node
  numbered = ranged 1 (length (nodes_in t)) x (test_yes 8 0 _ both_yes.1)

  -- the node x
  pub chosen : Chosen (Known t) (nodes_in t) (x - 1)
  chosen = node_chosen t C k (x - 1) both_yes.0 (omega (arith, numbered))

  pub index_fits : x - 1 < max_nodes
  index_fits = omega (arith, numbered, nodes_most C k t both_yes.0)

  place_is : node_place_of C k x t ≡ Ok (spanning chosen.chosen.first (length (text_of chosen.chosen.part)))
  unfolding node_place_of node_refusal_of
  place_is =
      replied_yes Err (Ok (part_place (drop (x - 1) (nodes_in t)))) (node_questions C k x t) e ∙ ap (λ (l : List Node). Ok (part_place l)) chosen.back

  -- what the table has of it
  field_is : (g : Row → ℕ) → get_or (padded (map g (map row_of (nodes_in t)))) (x - 1) 0 ≡ g (row_of chosen.chosen)
  field_is g = field_after g (nodes_in t) _ (x - 1) chosen.chosen chosen.back

  pub place_made : (n : NodeTable) → n ≡ table_of (map row_of (nodes_in t))
      → Ok (record { first = get_or n.firsts (x - 1) 0; length = get_or n.lengths (x - 1) 0 }) ≡ node_place_of C k x t
  unfolding table_of
  place_made n f =
      ap (λ (n : NodeTable). Ok (spanning (get_or n.firsts (x - 1) 0) (get_or n.lengths (x - 1) 0))) f
      ∙ ap₂ (λ (a b : ℕ). Ok (spanning a b)) (field_is (λ (r : Row). r.first)) (field_is (λ (r : Row). r.length)) ∙ sym place_is

  -- a node's own text is what its subtree prints
  pub own_text : node_text_of C k x t ≡ text_of chosen.chosen.part
  unfolding node_text_of
  own_text = ap (part_of t) place_is ∙ text_is t chosen.chosen.part chosen.chosen.first chosen.holds.0

-- a node's own text is within the lent one
pub part_within : (C k x : ℕ) (t : List ℕ) (s : Span) → node_place_of C k x t ≡ Ok s → s.first + s.length ≤ length t
part_within C k x t s p = go (node_refusal_of C k x t) refl
  where
    go : (r : Reply) → node_refusal_of C k x t ≡ r → s.first + s.length ≤ length t
    go (Ok _) e =
        let w = chosen C k x t e in
        let q = sym (place_is C k x t e) ∙ p in
        let f : w.chosen.first ≡ s.first = cc in
        let l : length (text_of w.chosen.part) ≡ s.length = cc in
        omega (arith, end_within t w.chosen.part w.chosen.first w.holds.0)
    go (Err r) e = let q = sym (place_refused C k x t r e) ∙ p in absurd (false≢true cc)

-- what the table with the node says of it
module _ (C k x : ℕ) (t : List ℕ) where
  pub place_no : {r : Refusal} → Err r ≡ tabled_with C k x t → Err r ≡ node_place_of C k x t
  place_no e = sym (place_refused C k x t _ (sym (refused_with C k x t e)))

  module _ {T : NodeTable} (e : Ok T ≡ tabled_with C k x t) where
    pub row_within : (1 ≤ x) × (x - 1 < max_nodes)
    row_within = let a = sym (allowed_with C k x t e) in ((numbered C k x t a).0, index_fits C k x t a)

    pub place_row : Ok (record { first = get_or T.firsts (x - 1) 0; length = get_or T.lengths (x - 1) 0 }) ≡ node_place_of C k x t
    place_row = place_made C k x t (sym (allowed_with C k x t e)) T (with_is C k x t e)
