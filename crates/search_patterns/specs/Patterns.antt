-- The gates over variables 1 to 4, by which the code goes, and what it does with values and trail. Nothing here need be believed: no call
-- open to others cites it.
use Rattle.std.specs.Prelude.{◌≡◌, true, false, Option, Some, None, List, [], ◌∷◌, map, ℕ, ◌+◌, ◌-◌, ◌*◌, ◌/◌, ◌%◌, ◌^◌, ◌≤◌, eqb, length, get_or}
use Rattle.std.proofs.Math.Option as math
use Rattle.std.proofs.Math.Option.{none, some}
use Rattle.moments.specs.Moments.{old, new, Slice}
use Rattle.paper_meaning.specs.Meaning.{bit}
use Rattle.paper_circuit.specs.declared.Gate.TheVariants as gates
use Rattle.paper_clauses.specs.Clauses as clauses
use Rattle.paper_clauses.specs.Clauses.{literal, plain, negated, Clause, clauses_of}
use Rattle.paper_closure.specs.Closure.{Literals, members_in}
use Rattle.paper_closure.specs.Tree.{first_forced, closure}
use Rattle.paper_closure.specs.Runs.{clashes}
use Rattle.search_closing.specs.Values.{held_in, Grown}
use Rattle.search_closing.specs.declared.Closed.{Closed}
use Rattle.table_gates.specs.Mentioned.{Variable}
use Rattle.search_patterns.specs.declared.Pattern.{Pattern}
use Rattle.search_patterns.specs.declared.Pattern.TheVariants.{Copy, Inverse, Both, Either, Step, Low, High, Raised}
use Rattle.paper_clauses.specs.Entries.{entry, literal_of}

-- variable v is byte v − 1
abbrev pub value_at : List ℕ → ℕ → ℕ
value_at values v = get_or values (v - 1) 0

-- four variables of these values
abbrev pub Four : List ℕ → ℕ → ℕ → ℕ → ℕ → Type 0
Four values v x y z = Variable (length values) v × Variable (length values) x × Variable (length values) y × Variable (length values) z

-- values and trail have grown by literals of the closure of these clauses, under which they are then closed, or it clashes
pub record Settled (T : List Clause) (v₀ t₀ : List ℕ) (top₀ : ℕ) (values trail : List ℕ) (r : Closed) : Type 0 where
  pub grown : Grown v₀ t₀ top₀ values trail r.top
  pub same : closure T (held_in values) ≡ closure T (held_in v₀)
  pub calm : r.clash ≡ false → held_in values ≡ closure T (held_in values)
  pub clashing : r.clash ≡ true → clashes (length v₀) (closure T (held_in v₀)) ≡ true

abbrev pub Settles : List Clause → Slice → Slice → ℕ → Closed → Type 0
Settles T values trail top r = Settled T (old values) (old trail) top (new values) (new trail) r

-- the gates, over the variables from 1 on
unfoldable pub pattern_of : Pattern → List Clause
pattern_of Copy = clauses_of 1 (gates.Copy 2)
pattern_of Inverse = clauses_of 1 (gates.Inverse 2)
pattern_of Both = clauses_of 1 (gates.Both 2 3)
pattern_of Either = clauses_of 1 (gates.Either 2 3)
pattern_of Step = clauses_of 1 (gates.Step 2 3 4)
pattern_of Low = clauses_of 1 (gates.Constant false)
pattern_of High = clauses_of 1 (gates.Constant true)
pattern_of Raised = (plain 1 ∷ negated 2 ∷ []) ∷ []

abbrev pub step_pattern : Pattern
step_pattern = Step

abbrev pub low_pattern : Pattern
low_pattern = Low

abbrev pub high_pattern : Pattern
high_pattern = High

-- other variables in their places
abbrev pub among : ℕ → ℕ → ℕ → ℕ → ℕ → ℕ
among v x y z n = get_or (0 ∷ v ∷ x ∷ y ∷ z ∷ []) n 0

abbrev pub rename_by : (ℕ → ℕ) → clauses.Literal → clauses.Literal
rename_by f l = literal l.sign (f l.variable)

unfoldable pub renamed : (ℕ → ℕ) → List Clause → List Clause
renamed f T = map (λ (c : Clause). map (rename_by f) c) T

-- what is forced first, as a number
abbrev pub code_of : math.Option clauses.Literal → ℕ
code_of none = 0
code_of (some l) = 2 * l.variable + bit l.sign + 2

abbrev pub four_of : ℕ → ℕ → ℕ → ℕ → Literals
four_of a b c d = held_in (a ∷ b ∷ c ∷ d ∷ [])

unfoldable pub forced_by : Pattern → ℕ → ℕ → ℕ → ℕ → ℕ
forced_by g a b c d = code_of (first_forced (members_in (pattern_of g)) (four_of a b c d))

-- nothing is forced, or this literal of the values' variables is, and is not there yet
abbrev pub Forces : List Clause → List ℕ → Option (ℕ × ℕ) → Type 0
Forces T values None = held_in values ≡ closure T (held_in values)
Forces T values (Some (u, m)) =
    Variable (length values) u × (closure T (held_in values) (literal_of (entry u m)) ≡ true) × (held_in values (literal_of (entry u m)) ≡ false)

-- bits that say so where the gate's first three variables force nothing, a bit for each three values
abbrev pub Quiets : Pattern → ℕ → Type 0
Quiets gate bits = (a b c d : ℕ) → a ≤ 2 → b ≤ 2 → c ≤ 2 → d ≤ 2 → eqb (bits / 2 ^ (a + 3 * b + 9 * c) % 2) 1 ≡ true → forced_by gate a b c d ≡ 0

-- how a visit ended, and the top then, from one number
abbrev pub ended_by : ℕ → Closed
ended_by n = record { clash = eqb (n % 2) 1; top = n / 2 }
