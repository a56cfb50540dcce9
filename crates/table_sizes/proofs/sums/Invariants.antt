-- One pass: before row x the total is `start` and what the rows before x weigh, and so far each place has been given the total before it.
-- A row weighs at most 2^24 and there are at most 64, so that the total is a number of 32 bits.
use Rattle.std.proofs.Common.{◌≡◌, ℕ, ◌+◌, ◌*◌, ◌^◌, ◌≤◌, ◌<◌, get_or}
use Rattle.table_sizes.specs.Weights.{weight_to, max_weight}
use Rattle.table_sizes.proofs.sums.Given as goal

abbrev pub invariant-loop-x : goal.invariant-loop-x
invariant-loop-x l = record {
  total : l.total ≡ l.start + weight_to l.w l.k l.kinds l.numbers l.x;
  most : l.total ≤ 2 ^ 20 + l.x * (2 * max_weight);
  below : (y : ℕ) → y < l.x → get_or l.place-items y 0 ≡ l.start + weight_to l.w l.k l.kinds l.numbers y;
}
