-- `lowest_open` goes from variable to variable:
-- none of those passed has the value 0.
use Rattle.std.proofs.Common.{◌≡◌, ℕ, ◌<◌, get_or}
use Rattle.search_attempts.proofs.lowest_open.Given as goal

abbrev pub invariant-loop-x : goal.invariant-loop-x
invariant-loop-x l = (y : ℕ) → y < l.x → get_or l.values y 0 ≡ 0 → ⊥
