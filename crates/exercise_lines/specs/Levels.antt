-- What a channel's levels, one character an instant, make of a recording.
use Rattle.std.specs.Prelude.{◌≡◌, cond, List, ℕ, ◌≤◌, ◌<◌, eqb, length, get_or}
use Rattle.std.specs.Int.Bits.{bit_or}

-- a byte with a bit set where the level is the character 1, and as it was where not
unfoldable pub raised_by : ℕ → ℕ → ℕ → ℕ
raised_by bit level byte = cond (eqb level 49) (bit_or byte bit) byte

-- b is a, raised at each instant by its level, and as it was beyond the levels
pub record Raised (bit : ℕ) (levels a b : List ℕ) : Type 0 where
  pub as_long : length b ≡ length a
  pub at : (t : ℕ) → t < length levels → get_or b t 0 ≡ raised_by bit (get_or levels t 0) (get_or a t 0)
  pub beyond : (t : ℕ) → length levels ≤ t → get_or b t 0 ≡ get_or a t 0
