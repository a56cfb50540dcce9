-- Question 2 answers no with number 2, and question 9 with number 9: each is a test with its number.
-- Answered with yes, 2 says that the test holds.
use mathlib.Core.Path.{◌≡◌}
use mathlib.Core.Bool.{◌&&◌}
use Prim.Native.Nat.{ℕ, ◌≤◌}
use lib.Dec.{leb}
use borrow.Author.Tests.{leb-true}
use Rattle.refusal.specs.Asked.{Gives, ok}
use Rattle.refusal.proofs.Laws.{test_yes}
use Rattle.refusal.proofs.Numbers.{question_gives}
use Rattle.interval.specs.Limits.{max_steps, ask_steps, ask_interval}

pub steps_gives : (k : ℕ) → Gives 2 (ask_steps k)
unfolding ask_steps
steps_gives k = question_gives 2 0 (leb k max_steps)

pub steps_yes : (k : ℕ) → ask_steps k ≡ ok → k ≤ max_steps
unfolding ask_steps
steps_yes k e = leb-true k max_steps (test_yes 2 0 _ e)

pub interval_gives : (i j k : ℕ) → Gives 9 (ask_interval i j k)
unfolding ask_interval
interval_gives i j k = question_gives 9 0 (leb i j && leb j k)
