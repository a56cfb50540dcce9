-- Place after place of the part is written, and the loop holds the interval of its turn: the next one has the next place.
use Rattle.std.proofs.Common.{◌<◌}
use Rattle.interval.specs.Places.{count_of}
use Rattle.search_decode.specs.Decode.{InPlace, IntervalsTo}
use Rattle.search_decode.proofs.put_intervals.Given as goal

abbrev pub invariant-loop-t : goal.invariant-loop-t
invariant-loop-t l = record {
  upto : IntervalsTo l.k l.t-items l.t-index;
  turn : l.t-index < count_of l.k → InPlace l.k l.t-index l.v;
}
