-- `or_onto` changes one byte a turn, at its own place,
-- which no earlier turn has touched.
use Rattle.lists.proofs.Fill.{Upto}
use lib.ListN.{length, get_or}
use lib.Bits.{bit_or}
use Rattle.truth_chop.proofs.or_onto.Given as goal

abbrev pub invariant-loop-d : goal.invariant-loop-d
invariant-loop-d l = Upto (length l.initial.row) (λ y. bit_or (get_or l.initial.row y 0) (get_or l.from y 0)) (λ y. get_or l.initial.row y 0) l.d l.row
