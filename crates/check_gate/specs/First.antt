-- What the code's walk over an assignment finds. Nothing here need be believed: no call open to others cites it.
use Rattle.std.specs.Prelude.{Bool, false, true, ◌≡◌, ℕ, ◌+◌, ◌≤◌, ◌<◌, Err}
use Rattle.paper_circuit.specs.Gates.{Assignment, value_of}
use Rattle.paper_circuit.specs.declared.Gate.{Gate}
use Rattle.paper_clauses.specs.Clauses.{clauses_of}
use Rattle.paper_assignments.specs.Calls.{ask_clauses}

-- r of n variables from w on are low; then comes a high one, or there are no more
pub record FirstHigh (a : Assignment) (w n r : ℕ) : Type 0 where
  pub upto : r ≤ n
  pub low : (e : ℕ) → e < r → a (w + e) ≡ false
  pub high : r < n → a (w + r) ≡ true

-- where a gate's variable, high or low, has not the gate's value, clause r from its first is the first that is not met
abbrev pub FirstUnmet : Assignment → Bool → Gate → ℕ → Type 0
FirstUnmet a up gate r = (v n : ℕ) → up ≡ a v → (up ≡ value_of a gate → ⊥) → Err (record { number = 14; place = n + r }) ≡ ask_clauses a n (clauses_of v gate)
