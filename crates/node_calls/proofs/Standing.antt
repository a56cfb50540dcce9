-- The nodes of a part stand in a row in the list of nodes, from the part's own on, so its rows do in the table:
-- the first part's come next, the second part's after them.
use mathlib.Core.Path.{◌≡◌, refl, ◌∙◌, subst}
use mathlib.Core.List.{List, map}
use Prim.Native.Nat.{ℕ, suc, ◌+◌}
use native.Mathlib.Omega.{arith}
use lib.ListN.{length, drop, length-append}
use Rattle.paper_grammar.specs.Trees.{Tree, constant, letter, negation, pair, duration, throughout, text_of}
use Rattle.paper_grammar.specs.declared.Sort.{Sort}
use Rattle.paper_grammar.specs.Nodes.{Node, node, nodes_of}
use Rattle.paper_grammar.proofs.EachNode.{Begins, begins_first, parts_begin}
use Rattle.node_rows.specs.Table.{row_of, padded}
use Rattle.node_rows.specs.declared.Row.{Row}
use Rattle.node_calls.specs.Parts.{size_of, Own, Parts, Stands}
use Rattle.node_calls.proofs.Laws.{field_after}

pub nodes_count : {s : Sort} (x : Tree s) (at : ℕ) → length (nodes_of x at) ≡ size_of x
unfolding nodes_of size_of
nodes_count (constant v) at = refl
nodes_count (letter c) at = refl
nodes_count (negation x) at = omega (arith, nodes_count x (suc at))
nodes_count (pair l x y) at =
    omega (arith, length-append (nodes_of x (suc at)) (nodes_of y (suc (suc at + length (text_of x)))), nodes_count x (suc at), nodes_count y (suc (suc at + length (text_of x))))
nodes_count (duration x n) at = omega (arith, nodes_count x (suc at))
nodes_count (throughout x) at = omega (arith, nodes_count x (suc at))

module _ (l : List Node) where
  -- an array of the table
  abbrev pub column : (Row → ℕ) → List ℕ
  column g = padded (map g (map row_of l))

  abbrev pub StandsIn : {s : Sort} → ℕ → Tree s → Type 0
  StandsIn n x = Stands (column (λ (r : Row). r.head.kind)) (column (λ (r : Row). r.head.number)) (column (λ (r : Row). r.size)) n x

  abbrev PartsIn : {s : Sort} → ℕ → Tree s → Type 0
  PartsIn n x = Parts (column (λ (r : Row). r.head.kind)) (column (λ (r : Row). r.head.number)) (column (λ (r : Row). r.size)) n x

  abbrev OwnIn : {s : Sort} → ℕ → Tree s → Type 0
  OwnIn n x = Own (column (λ (r : Row). r.head.kind)) (column (λ (r : Row). r.head.number)) (column (λ (r : Row). r.size)) n x

  own_row : (w : Node) (n : ℕ) → Begins (drop n l) w → OwnIn n w.part
  own_row w n b = record {
    kind = field_after (λ (r : Row). r.head.kind) l _ n w (begins_first b);
    number = field_after (λ (r : Row). r.head.number) l _ n w (begins_first b);
    size = field_after (λ (r : Row). r.size) l _ n w (begins_first b) ∙ nodes_count w.part w.first;
  }

  rows_stand : {s : Sort} (x : Tree s) (n at : ℕ) → Begins (drop n l) (node x at) → OwnIn n x × PartsIn n x
  rows_stand {s} (constant v) n at b = (own_row (node {s = s} (constant v) at) n b, tt)
  rows_stand (letter c) n at b = (own_row (node (letter c) at) n b, tt)
  rows_stand (negation x) n at b = (own_row (node (negation x) at) n b, rows_stand x (n + 1) (suc at) (parts_begin l n (negation x) at b))
  rows_stand (pair k x y) n at b =
      let q : ℕ = suc (suc at + length (text_of x)) in
      let p = parts_begin l n (pair k x y) at b in
      let d = subst (λ (c : ℕ). Begins (drop (n + 1 + c) l) (node y q)) (nodes_count x (suc at)) p.1 in
      (own_row (node (pair k x y) at) n b, (rows_stand x (n + 1) (suc at) p.0, rows_stand y (n + 1 + size_of x) q d))
  rows_stand (duration x c) n at b = (own_row (node (duration x c) at) n b, rows_stand x (n + 1) (suc at) (parts_begin l n (duration x c) at b))
  rows_stand (throughout x) n at b = (own_row (node (throughout x) at) n b, rows_stand x (n + 1) (suc at) (parts_begin l n (throughout x) at b))

  -- a part whose nodes begin with row n stands there
  pub stands : (w : Node) (n : ℕ) → Begins (drop n l) w → StandsIn n w.part
  stands w n b = let r = rows_stand w.part n w.first b in record { own = r.0; parts = r.1 }
