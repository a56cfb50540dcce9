-- Document 01, "First recording": the tree of tries (a backtracking search: a try is a decision, a clash a conflict) over a table whose
-- variables are numbered from 1, channel variables first, as rules in the paper's words. A run is one way through the rules: every set has
-- one (the law `run_from`) and only one (`one_run`), so the number of tries is the table's own.
use Rattle.std.specs.Prelude.{◌≡◌, Bool, true, false, not, ◌&&◌, ◌||◌, List, ℕ, ◌+◌, ◌≤◌, ◌<◌}
use Rattle.paper_meaning.specs.Meaning.{any}
use Rattle.paper_circuit.specs.Gates.{Assignment}
use Rattle.paper_clauses.specs.Clauses.{Clause, plain, negated}
use Rattle.paper_closure.specs.Closure.{Literals, add, ClosureOf}

-- "It clashes if a variable is in it both ways."
unfoldable pub clashes : ℕ → Literals → Bool
clashes variables S = any (λ v. S (plain v) && S (negated v)) 1 variables

-- "A channel variable that is in it neither way is open" (unassigned).
unfoldable pub is_open : Literals → ℕ → Bool
is_open S v = not (S (plain v) || S (negated v))

-- the variables from 1 to n are not open
abbrev pub NoneOpen : Literals → ℕ → Type 0
NoneOpen S n = (v : ℕ) → 1 ≤ v → v ≤ n → is_open S v ≡ false

-- v is the lowest open one of the variables from 1 to n
pub record Lowest (S : Literals) (n v : ℕ) : Type 0 where
  pub from : 1 ≤ v
  pub to : v ≤ n
  pub free : is_open S v ≡ true
  pub below : (u : ℕ) → 1 ≤ u → u < v → is_open S u ≡ false

-- how the tree below a set ends: "all below that is dead", or found, with the set that leaves no channel variable open
pub data Outcome : Type 0 where
  dead : Outcome
  found : Literals → Outcome

-- from a set to its outcome, with the number of tries until then
pub data Run (T : List Clause) (variables channels : ℕ) : Literals → Outcome → ℕ → Type 0 where
  -- "A clash is dead."
  clash : {S : Literals} → clashes variables S ≡ true → Run T variables channels S dead 0
  -- "No channel variable left open means found."
  complete : {S : Literals} → clashes variables S ≡ false → NoneOpen S channels → Run T variables channels S (found S) 0
  -- "Otherwise take the lowest open channel variable and try it low"; "Each try takes the closure with that literal added."
  low : {S P R : Literals} {n : ℕ} (v : ℕ) → clashes variables S ≡ false → Lowest S channels v
      → ClosureOf T (add (negated v) S) P → Run T variables channels P (found R) n → Run T variables channels S (found R) (1 + n)
  -- "if all below that is dead, try it high"
  high : {S P Q : Literals} {o : Outcome} {n m : ℕ} (v : ℕ) → clashes variables S ≡ false → Lowest S channels v
      → ClosureOf T (add (negated v) S) P → Run T variables channels P dead n
      → ClosureOf T (add (plain v) S) Q → Run T variables channels Q o m → Run T variables channels S o (1 + n + (1 + m))

-- the values that a set gives: high where the plain literal is in it
abbrev pub high_in : Literals → Assignment
high_in S v = S (plain v)
