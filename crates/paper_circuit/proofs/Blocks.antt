-- The blocks follow each other without gap, so those of two lists of nodes come to the sum of both. The place of first bytes plays no part
-- in them, so a tree's nodes are as good as its own and then its parts'.
use mathlib.Core.Path.{◌≡◌, refl, sym, ap, ◌∙◌}
use mathlib.Core.List.{List, [], ◌∷◌, ◌++◌, map, map-append}
use Prim.Native.Nat.{ℕ, suc, ◌+◌, ◌≤◌, ◌<◌}
use native.Mathlib.Nat.{suc-mul}
use native.Mathlib.Omega.{arith}
use lib.ListN.{length}
use Rattle.interval.specs.Places.{count_of}
use Rattle.interval.proofs.Laws.{intervals_numbered}
use Rattle.paper_grammar.specs.Trees.{and, or, chop, Tree, constant, letter, negation, pair, duration, throughout, text_of}
use Rattle.paper_grammar.specs.declared.Sort.{Sort}
use Rattle.paper_grammar.specs.declared.Sort.TheVariants.{Formula}
use Rattle.paper_grammar.specs.Nodes.{Node, node, nodes_of}
use Rattle.paper_circuit.specs.Circuit.{points_of, width_of, blocks_of, variables_of, truth_of, root_of}

-- v is one of the n variables from b on
abbrev pub From : ℕ → ℕ → ℕ → Type 0
From b n v = (b ≤ v) × (v < b + n)

module _ (k : ℕ) where
  pub blocks_append : (l m : List Node) → blocks_of k (l ++ m) ≡ blocks_of k l + blocks_of k m
  unfolding blocks_of
  blocks_append [] m = omega arith
  blocks_append (w ∷ l) m = omega (arith, blocks_append l m)

  -- a node's truth lies in its block
  pub truth_fits : {s : Sort} (x : Tree s) → truth_of k x + points_of s k ≤ width_of k x
  unfolding truth_of width_of
  truth_fits (constant v) = omega arith
  truth_fits (letter c) = omega arith
  truth_fits (negation x) = omega arith
  truth_fits (pair and x y) = omega arith
  truth_fits (pair or x y) = omega arith
  truth_fits (pair chop x y) = omega arith
  truth_fits (duration x n) = omega (arith, suc-mul n (count_of k))
  truth_fits (throughout x) = omega arith

-- the nodes of a tree's parts: the first part's, then the second's
abbrev pub parts_of : {s : Sort} → Tree s → List Node
parts_of (constant v) = []
parts_of (letter c) = []
parts_of (negation x) = nodes_of x 0
parts_of (pair l x y) = nodes_of x 0 ++ nodes_of y 0
parts_of (duration x n) = nodes_of x 0
parts_of (throughout x) = nodes_of x 0

-- the nodes, all as if their text began at 0
abbrev pub bare_node : Node → Node
bare_node w = node w.part 0

abbrev pub bare : List Node → List Node
bare l = map bare_node l

bare_node_lem : {s : Sort} (x : Tree s) (at : ℕ) → bare (nodes_of x at) ≡ node x 0 ∷ bare (parts_of x)
unfolding nodes_of
bare_node_lem (constant v) at = refl
bare_node_lem (letter c) at = refl
bare_node_lem (negation x) at = cc (bare_node_lem x (suc at), bare_node_lem x 0)
bare_node_lem (pair l x y) at =
    let q = suc (suc at + length (text_of x)) in
    simp map-append (cc (bare_node_lem x (suc at), bare_node_lem x 0, bare_node_lem y q, bare_node_lem y 0))
bare_node_lem (duration x n) at = cc (bare_node_lem x (suc at), bare_node_lem x 0)
bare_node_lem (throughout x) at = cc (bare_node_lem x (suc at), bare_node_lem x 0)

-- so it is for whatever the place of first bytes plays no part in
module _ {A : Type 0} (f : List Node → A) (blind : (l : List Node) → f (bare l) ≡ f l) where
  pub by_parts : {s : Sort} (x : Tree s) (at : ℕ) → f (nodes_of x at) ≡ f (node x 0 ∷ parts_of x)
  by_parts x at = sym (blind (nodes_of x at)) ∙ ap f (bare_node_lem x at) ∙ blind (node x 0 ∷ parts_of x)

blocks_bare : (k : ℕ) (l : List Node) → blocks_of k (bare l) ≡ blocks_of k l
unfolding blocks_of
blocks_bare k [] = refl
blocks_bare k (w ∷ l) = omega (arith, blocks_bare k l)

-- a node's own block, then its parts'
pub blocks_parts : (k : ℕ) {s : Sort} (x : Tree s) (at : ℕ) → blocks_of k (nodes_of x at) ≡ width_of k x + blocks_of k (parts_of x)
unfolding blocks_of
blocks_parts k x at = by_parts (blocks_of k) (blocks_bare k) x at

-- a part's truth lies in its blocks
pub truth_lt : (k : ℕ) {s : Sort} (x : Tree s) (p : ℕ) → p < points_of s k → truth_of k x + p < blocks_of k (nodes_of x 0)
truth_lt k x p h = omega (arith, truth_fits k x, blocks_parts k x 0)

-- the root on [0, k] is one of the variables
pub root_in_range : (C k : ℕ) (f : Tree Formula) → From 1 (variables_of C k (nodes_of f 0)) (root_of C k f)
unfolding root_of variables_of
root_in_range C k f = omega (arith, truth_lt k f _ ((intervals_numbered k).below (record { i = 0; j = k }) (omega arith)))
