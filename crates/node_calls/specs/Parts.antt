-- Where the parts of a node stand in the node table, as the code goes by it. Nothing here need be believed: no call open to others cites it.
use Rattle.std.specs.Prelude.{◌≡◌, List, ℕ, ◌+◌, get_or}
use Rattle.paper_grammar.specs.Trees.{Tree, constant, letter, negation, pair, duration, throughout}
use Rattle.paper_grammar.specs.declared.Sort.{Sort}
use Rattle.node_rows.specs.Table.{head_of}

-- how many nodes a tree has
unfoldable pub size_of : {s : Sort} → Tree s → ℕ
size_of (constant v) = 1
size_of (letter c) = 1
size_of (negation x) = 1 + size_of x
size_of (pair l x y) = 1 + (size_of x + size_of y)
size_of (duration x n) = 1 + size_of x
size_of (throughout x) = 1 + size_of x

-- row n of the table, from 0, is the tree's
pub record Own {s : Sort} (kinds numbers sizes : List ℕ) (n : ℕ) (x : Tree s) : Type 0 where
  pub kind : get_or kinds n 0 ≡ (head_of x).kind
  pub number : get_or numbers n 0 ≡ (head_of x).number
  pub size : get_or sizes n 0 ≡ size_of x

-- the rows of the tree's parts follow it: the first part's is the next, the second part's comes after all of the first's
abbrev pub Parts : {s : Sort} → List ℕ → List ℕ → List ℕ → ℕ → Tree s → Type 0
Parts K N S n (constant v) = Unit
Parts K N S n (letter c) = Unit
Parts K N S n (negation x) = Own K N S (n + 1) x × Parts K N S (n + 1) x
Parts K N S n (pair l x y) = (Own K N S (n + 1) x × Parts K N S (n + 1) x) × (Own K N S (n + 1 + size_of x) y × Parts K N S (n + 1 + size_of x) y)
Parts K N S n (duration x m) = Own K N S (n + 1) x × Parts K N S (n + 1) x
Parts K N S n (throughout x) = Own K N S (n + 1) x × Parts K N S (n + 1) x

-- the tree stands in the table at row n
pub record Stands {s : Sort} (kinds numbers sizes : List ℕ) (n : ℕ) (x : Tree s) : Type 0 where
  pub own : Own kinds numbers sizes n x
  pub parts : Parts kinds numbers sizes n x
