-- The number after tries=.
use Rattle.std.specs.Prelude.{ℕ}

-- "Limit B is 0 to 2^32 − 1"
abbrev pub max_tries : ℕ
max_tries = 4294967295
