-- The nearest row before a row whose nodes it is among. Nothing here need be believed: no call open to others cites it.
use Rattle.std.specs.Prelude.{List, ℕ, ◌+◌, ◌≤◌, ◌<◌, get_or}

pub record NearestTo (sizes : List ℕ) (z y : ℕ) : Type 0 where
  pub before : y < z
  pub among : z < y + get_or sizes y 0
  pub between : (v : ℕ) → y < v → v < z → v + get_or sizes v 0 ≤ z
