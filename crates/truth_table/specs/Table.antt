-- A formula's truth on each interval as the code keeps it: "a table with a yes or no for each of the 561 intervals". Nothing here need be
-- believed: no call open to others cites it.
use Rattle.std.specs.Prelude.{◌≡◌, Bool, cond, List, ℕ, ◌+◌, ◌-◌, ◌<◌, max, eqb, length, get_or}
use Rattle.std.specs.Int.Bits.{bit_and, bit_or}
use Rattle.interval.specs.Limits.{IntervalOf}
use Rattle.interval.specs.Places.{place_of}
use Rattle.interval.specs.declared.Interval.{Interval}
use Rattle.paper_meaning.specs.Meaning.{bit, lasts, fills}
use Rattle.truth_table.specs.declared.Measure.{Measure}
use Rattle.truth_table.specs.declared.Measure.TheVariants.{AtLeast, Throughout}

-- the truth at a place of a table, or of any bytes: no past the end
abbrev pub high_at : List ℕ → ℕ → Bool
high_at t e = eqb (get_or t e 0) 1

-- every byte is 0 or 1
pub record Binary (t : List ℕ) : Type 0 where
  pub at : (e : ℕ) → get_or t e 0 ≡ bit (high_at t e)

-- t has, at the place of each interval of k steps, 1 where f is true and 0 where not
pub record TableOf (k : ℕ) (f : Interval → Bool) (t : List ℕ) : Type 0 where
  pub at : (v : Interval) → IntervalOf k v → get_or t (place_of k v) 0 ≡ bit (f v)

-- a row of a table: the intervals that start at i, by length
pub record RowOf (i : ℕ) (f : Interval → Bool) (row : List ℕ) : Type 0 where
  pub at : (d : ℕ) → d < length row → get_or row d 0 ≡ bit (f (record { i = i; j = i + d }))

-- what `&`, where `both`, or `|` makes of bytes, 1 for true, as `joined` makes of truths
abbrev pub joined_byte : Bool → ℕ → ℕ → ℕ
joined_byte both a b = cond both (bit_and a b) (bit_or a b)

-- the truth of a duration or of `[S]` by the truth of S
abbrev pub measured : Measure → (ℕ → Bool) → Interval → Bool
measured (AtLeast n) f v = lasts n f v
measured Throughout f v = fills f v

-- at how many instants of an interval S must be true for that
abbrev pub least_on : Measure → Interval → ℕ
least_on (AtLeast n) v = n
least_on Throughout v = max 1 (v.j - v.i)
