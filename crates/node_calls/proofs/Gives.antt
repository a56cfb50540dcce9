-- Question 8 answers no with number 8:
-- it is a test with its number.
use mathlib.Core.Bool.{◌&&◌}
use mathlib.Core.List.{List}
use Prim.Native.Nat.{ℕ}
use lib.Dec.{leb}
use lib.ListN.{length}
use Rattle.refusal.specs.Asked.{Gives}
use Rattle.refusal.proofs.Numbers.{question_gives}
use Rattle.paper_grammar.specs.Nodes.{nodes_in}
use Rattle.node_calls.specs.Calls.{ask_node}

pub node_gives : (x : ℕ) (t : List ℕ) → Gives 8 (ask_node x t)
unfolding ask_node
node_gives x t = question_gives 8 0 (leb 1 x && leb x (length (nodes_in t)))
