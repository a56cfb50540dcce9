-- The start is the last whose triples begin at x or before; what is left is the place of length and cut in a triangle,
-- which stands in the table of intervals from its end on (Decode.antt).
use mathlib.Core.Path.{subst}
use Prim.Native.Nat.{ℕ, ◌-◌}
use lib.ListN.{get_or}
use native.Mathlib.Omega.{arith}
use Rattle.search_decode.specs.Decode.{InPlace}
use Rattle.lists.specs.Listing.{sum}
use Rattle.interval.proofs.Rows.{starts_are}
use Rattle.search_decode.proofs.Decode.{after_in, triple_in}
use Rattle.search_decode.proofs.triple_at.Goals as goal

pub last_from-i-requires : goal.last_from-i-requires
unfolding sum
last_from-i-requires c =
    (omega arith, omega (arith, c.requires.2.starts_of.room), omega (arith, c.requires.2.starts_of.at 0 (omega arith), starts_are c.args.k 0 (omega arith)))

pub overflow_sub-all : goal.overflow_sub-all
overflow_sub-all c =
    omega (arith, after_in c.requires.2 c.requires.1 c.last_from-i.ensures, c.all.ensures.0)

pub overflow_sub-all-2 : goal.overflow_sub-all-2
overflow_sub-all-2 c =
    omega (arith, after_in c.requires.2 c.requires.1 c.last_from-i.ensures, c.all.ensures.0)

pub interval_at-v-requires : goal.interval_at-v-requires
interval_at-v-requires c =
    (omega (arith, after_in c.requires.2 c.requires.1 c.last_from-i.ensures, c.all.ensures.0), c.requires.2.room, c.requires.2.intervals_to)

pub returns : goal.returns
returns c =
    let v = c.interval_at-v.result in let after : ℕ = c.args.x - get_or c.args.starts.now c.last_from-i.result 0 in
    triple_in c.requires.2 c.requires.1 c.last_from-i.ensures (subst (λ (n : ℕ). InPlace c.args.k (n - 1 - after) v) c.all.ensures.0 c.interval_at-v.ensures)
