-- A truth at each instant as one number. Nothing here need be believed: no call open to others cites it.
use Rattle.std.specs.Prelude.{◌≡◌, Bool, ℕ, ◌<◌}
use Rattle.paper_meaning.specs.Meaning.{bit_at}

-- w has, at each instant below k, 1 where f is true
pub record WordOf (k : ℕ) (f : ℕ → Bool) (w : ℕ) : Type 0 where
  pub at : (t : ℕ) → t < k → bit_at w t ≡ f t
