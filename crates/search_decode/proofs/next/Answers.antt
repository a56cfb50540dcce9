-- An interval that ends before k has the next longer one after it, one that ends at k the empty one of the next start.
-- Both have the next place (Decode.antt).
use native.Mathlib.Omega.{arith}
use Rattle.search_decode.proofs.Decode.{longer_next, later_next}
use Rattle.search_decode.proofs.next.Goals as goal

pub returns-then-v-k : goal.returns-then-v-k
returns-then-v-k c = λ h. longer_next _ _ c.requires.0 c.if-v-k.true

pub returns : goal.returns
returns c = λ h. later_next _ _ c.requires.0 (omega (arith, c.if-v-k.false)) h
