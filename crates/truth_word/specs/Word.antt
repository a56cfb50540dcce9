-- The words of the first instants, and what `&` and `|` make of their parts. Nothing here need be believed: no call open to others cites it.
use Rattle.std.specs.Prelude.{◌≡◌, Bool, cond, ◌&&◌, ◌||◌, List, ℕ, ◌-◌, ◌^◌, ◌≤◌, get_or}
use Rattle.interval.specs.Limits.{max_steps}

-- for each n the word of the instants before n
pub record Lows (lows : List ℕ) : Type 0 where
  pub before : (n : ℕ) → n ≤ max_steps → get_or lows n 0 ≡ 2 ^ n - 1

-- what `&`, where `both`, or `|` makes of its parts
abbrev pub joined : Bool → Bool → Bool → Bool
joined both a b = cond both (a && b) (a || b)
