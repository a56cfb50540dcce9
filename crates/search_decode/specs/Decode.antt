-- An interval by its place and a triple by its place, from tables by value. Nothing here need be believed: no call open to others cites it.
use Rattle.std.specs.Prelude.{◌≡◌, List, ℕ, ◌+◌, ◌*◌, ◌/◌, ◌%◌, ◌≤◌, ◌<◌, length, get_or}
use Rattle.interval.specs.Limits.{IntervalOf, TripleOf}
use Rattle.interval.specs.Places.{count_of, place_of, triple_place_of}
use Rattle.interval.specs.Rows.{RowsOf, StartsOf}
use Rattle.interval.specs.declared.Interval.{Interval}
use Rattle.interval.specs.declared.Triple.{Triple}
use Rattle.search_decode.specs.declared.Cell.{Cell}

-- v is the interval in place p, t the triple in place x
abbrev pub InPlace : ℕ → ℕ → Interval → Type 0
InPlace k p v = IntervalOf k v × (place_of k v ≡ p)

abbrev pub TripleIn : ℕ → ℕ → Triple → Type 0
TripleIn k x t = TripleOf k t × (triple_place_of k t ≡ x)

-- an interval in two bytes
abbrev pub unpacked : ℕ → Interval
unpacked t = record { i = t / 128; j = t % 128 }

-- the first x places of the table hold their intervals
pub record IntervalsTo (k : ℕ) (table : List ℕ) (x : ℕ) : Type 0 where
  pub each : (p : ℕ) → p < x → InPlace k p (unpacked (get_or table p 0))

-- the tables that the queue goes by, of k steps
pub record Tables (k : ℕ) (intervals starts rows : List ℕ) : Type 0 where
  pub room : count_of k ≤ length intervals
  pub intervals_to : IntervalsTo k intervals (count_of k)
  pub starts_of : StartsOf k starts
  pub rows_of : RowsOf k rows

-- place x is in this cell of lines that have so many cells each
pub record CellOf (width x : ℕ) (r : Cell) : Type 0 where
  pub at : r.line * width + r.cell ≡ x
  pub inside : r.cell < width

-- of n numbers that grow the last that is not beyond u is in place r
pub record LastFrom (table : List ℕ) (n u r : ℕ) : Type 0 where
  pub below : r < n
  pub from : get_or table r 0 ≤ u
  pub next : r + 1 < n → u < get_or table (r + 1) 0
