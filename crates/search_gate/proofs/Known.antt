-- The gate that the code has met is known: its clauses are that gate's,
-- and those of a constant are the pattern that the test chose.
use mathlib.Core.Path.{◌≡◌, sym, ap, ◌∙◌}
use mathlib.Core.Logic.{◌⊎◌, inl, inr}
use mathlib.Core.Bool.{Bool, true, false}
use mathlib.Core.List.{List}
use Prim.Native.Nat.{ℕ}
use Rattle.paper_circuit.specs.declared.Gate.{Gate}
use Rattle.paper_circuit.specs.declared.Gate.TheVariants.{Constant}
use Rattle.paper_clauses.specs.Clauses.{Clause, clauses_of}
use Rattle.search_closing.specs.declared.Closed.{Closed as Ended}
use Rattle.search_patterns.specs.declared.Pattern.{Pattern}
use Rattle.search_patterns.specs.Patterns.{among, renamed, pattern_of, low_pattern, high_pattern}
use Rattle.search_patterns.proofs.Steps.{patterns}
use Rattle.search_visits.specs.Visits.{Visited}
use Rattle.search_visits.proofs.Parts.{visited_named}

-- a gate that is known to be g
pub visited_known : (v : ℕ) {gate g : Gate} {P : List Clause} {v₀ t₀ values trail : List ℕ} {top₀ : ℕ} {r : Ended} → gate ≡ g → P ≡ clauses_of v g
    → Visited P v₀ t₀ top₀ values trail r → Visited (clauses_of v gate) v₀ t₀ top₀ values trail r
visited_known v e f w = visited_named (f ∙ ap (clauses_of v) (sym e)) w

pub constant_known : (v : ℕ) {up : Bool} {g : Pattern} → ((g ≡ high_pattern) × (up ≡ true)) ⊎ ((g ≡ low_pattern) × (up ≡ false)) →
    renamed (among v v v v) (pattern_of g) ≡ clauses_of v (Constant up)
constant_known v (inl (e, u)) = rw (e, u) (patterns v v v v).6
constant_known v (inr (e, u)) = rw (e, u) (patterns v v v v).5
