-- Document 01, "Formula text": "Each P and each S is one node, numbered from 1 in the order of first bytes."
use Rattle.std.specs.Prelude.{List, [], ◌∷◌, ◌++◌, ℕ, suc, ◌+◌, length}
use Rattle.paper_grammar.specs.Trees.{and, or, chop, Tree, constant, letter, negation, pair, duration, throughout, text_of}
use Rattle.paper_grammar.specs.Reader.{Read, parsed, stopped, read}
use Rattle.paper_grammar.specs.declared.Sort.{Sort}
use Rattle.paper_grammar.specs.declared.Sort.TheVariants.{State, Formula}

-- a part of a formula, and the place of its first byte
pub record Node : Type 0 where
  pub sort : Sort
  pub part : Tree sort
  pub first : ℕ

abbrev pub node : {s : Sort} → Tree s → ℕ → Node
node {s} x at = record { sort = s; part = x; first = at }

-- the nodes of a tree whose text begins at a place, in the order of first bytes
unfoldable pub nodes_of : {s : Sort} → Tree s → ℕ → List Node
nodes_of {s} (constant v) at = node {s = s} (constant v) at ∷ []
nodes_of (letter c) at = node (letter c) at ∷ []
nodes_of {s} (negation x) at = node {s = s} (negation x) at ∷ nodes_of x (suc at)
nodes_of {s} (pair l x y) at = node {s = s} (pair l x y) at ∷ nodes_of x (suc at) ++ nodes_of y (suc (suc at + length (text_of x)))
nodes_of (duration x n) at = node (duration x n) at ∷ nodes_of x (suc at)
nodes_of (throughout x) at = node (throughout x) at ∷ nodes_of x (suc at)

-- what questions 5 and 6 and the blocks of variables tell nodes apart by
pub data View : Type 0 where
  a_letter : ℕ → View
  a_duration : Tree State → ℕ → View
  a_chop : Tree Formula → Tree Formula → View
  another : View

abbrev pub view_of : {s : Sort} → Tree s → View
view_of (constant v) = another
view_of (letter c) = a_letter c
view_of (negation x) = another
view_of (pair and x y) = another
view_of (pair or x y) = another
view_of (pair chop x y) = a_chop x y
view_of (duration x n) = a_duration x n
view_of (throughout x) = another

-- the nodes of a text: none where it does not read
abbrev pub nodes_read : Read Formula → List Node
nodes_read (parsed f) = nodes_of f 0
nodes_read (stopped p) = []

unfoldable pub nodes_in : List ℕ → List Node
nodes_in t = nodes_read (read t)
