-- A row of a chop before anything is added to it. Nothing here need be believed: no call open to others cites it.
use Rattle.std.specs.Prelude.{◌≡◌, List, ℕ, ◌<◌, length, get_or}

-- nothing but 0
abbrev pub AllZero : List ℕ → Type 0
AllZero row = (y : ℕ) → y < length row → get_or row y 0 ≡ 0
