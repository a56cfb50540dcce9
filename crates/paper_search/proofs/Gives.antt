-- Question 18 of the search answers no with number 18:
-- it is a test with its number.
use mathlib.Core.Bool.{◌&&◌}
use Prim.Native.Nat.{ℕ}
use lib.Dec.{leb}
use Rattle.refusal.specs.Asked.{Gives}
use Rattle.refusal.proofs.Numbers.{question_gives}
use Rattle.paper_search.specs.Search.{ask_lent}
use Rattle.paper_search.specs.declared.Lent.{Lent}

pub lent_gives : (literals variables k : ℕ) (n : Lent) → Gives 18 (ask_lent literals variables k n)
unfolding ask_lent
lent_gives literals variables k n =
    question_gives 18 0
    (leb literals n.variables && leb literals n.marks && leb variables n.values && leb variables n.trail && leb k n.recording)
