-- Values, one byte a variable, as a set of literals, and the trail, which lists the variables in the order in which they got their values.
-- Nothing here need be believed: no call open to others cites it.
use Rattle.std.specs.Prelude.{◌≡◌, Bool, true, false, not, List, [], ◌∷◌, ℕ, zero, suc, ◌+◌, ◌-◌, ◌^◌, ◌≤◌, ◌<◌, eqb, length, get_or, set, take}
use Rattle.moments.specs.Moments.{old, new, Slice}
use Rattle.paper_meaning.specs.Meaning.{bit}
use Rattle.paper_clauses.specs.Clauses.{Literal}
use Rattle.paper_closure.specs.Closure.{Literals, add}

-- a literal's value: 1 high, 2 low; 0 is neither
abbrev pub value_for : Bool → ℕ
value_for true = 1
value_for false = 2

-- variable v is byte v − 1
abbrev pub held : List ℕ → Bool → ℕ → Bool
held values u zero = false
held values u (suc v) = eqb (get_or values v 0) (value_for u)

-- the literals that have their value
unfoldable pub held_in : List ℕ → Literals
held_in values l = held values l.sign l.variable

-- how many variables have one
unfoldable pub held_count : List ℕ → ℕ
held_count [] = 0
held_count (x ∷ values) = bit (not (eqb x 0)) + held_count values

-- values are 0, 1 or 2, the first `top` places of the trail are for those that are not 0, and there is a place for each variable; twice
-- as many are still a number of the machine's
pub record Trailing (values trail : List ℕ) (top : ℕ) : Type 0 where
  pub small : (x : ℕ) → get_or values x 0 ≤ 2
  pub full : held_count values ≡ top
  pub room : length values ≤ length trail
  pub few : length values < 2 ^ 32

-- the values of the n variables from a place of the trail on taken back
unfoldable pub undone : List ℕ → ℕ → ℕ → List ℕ → List ℕ
undone trail at zero values = values
undone trail at (suc n) values = set (undone trail (suc at) n values) (get_or trail at 0 - 1) 0

-- the places of the trail from one to another are for variables of these values
pub record Ranged (values trail : List ℕ) (from to : ℕ) : Type 0 where
  pub each : (j : ℕ) → from ≤ j → j < to → (1 ≤ get_or trail j 0) × (get_or trail j 0 ≤ length values)

-- values and trail after some variables more got theirs: what stood in the trail stands there, and taking them back gives what was
pub record Grown (v₀ t₀ : List ℕ) (top₀ : ℕ) (values trail : List ℕ) (top : ℕ) : Type 0 where
  pub trailing : Trailing values trail top
  pub more : top₀ ≤ top
  pub same : take top₀ trail ≡ take top₀ t₀
  pub ranged : Ranged values trail top₀ top
  pub back : undone trail top₀ (top - top₀) values ≡ v₀

-- a literal put in: values and trail have grown, by its variable if at all, and the set has it added
pub record Added (l : Literal) (v₀ t₀ : List ℕ) (top₀ : ℕ) (values trail : List ℕ) (top : ℕ) : Type 0 where
  pub grown : Grown v₀ t₀ top₀ values trail top
  pub added : held_in values ≡ add l (held_in v₀)
  pub first : top₀ < top → get_or trail top₀ 0 ≡ l.variable

-- the same, for a call's contract
abbrev pub Adds : Literal → Slice → Slice → ℕ → ℕ → Type 0
Adds l values trail top r = Added l (old values) (old trail) top (new values) (new trail) r
