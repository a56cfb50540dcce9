-- `inverse` changes one place a turn, which no earlier turn has touched, and every interval has its place below I,
-- where the part's table has the truth that is inverted.
use lib.Bits.{bit_xor}
use lib.ListN.{get_or}
use Rattle.lists.proofs.Fill.{Upto}
use Rattle.truth_table.proofs.inverse.Given as goal

abbrev pub invariant-loop-truth : goal.invariant-loop-truth
invariant-loop-truth l = Upto l.n (λ y. bit_xor (get_or l.initial.truth-items y 0) 1) (λ y. get_or l.initial.truth-items y 0) l.truth-index l.truth-items
