-- `join` changes one place a turn, which no earlier turn has touched, and every interval has its place below I,
-- where the parts' tables have the truths that are joined.
use lib.ListN.{get_or}
use Rattle.lists.proofs.Fill.{Upto}
use Rattle.truth_table.specs.Table.{joined_byte}
use Rattle.truth_table.proofs.join.Given as goal

abbrev pub invariant-loop-x : goal.invariant-loop-x
invariant-loop-x l = Upto l.n (λ y. joined_byte l.both (get_or l.initial.truth-items y 0) (get_or l.q y 0)) (λ y. get_or l.initial.truth-items y 0) l.x l.truth-items
