-- How many clauses and literals gates have. Both are totals of a number that goes by a clause's length, 1 or the length itself, so what
-- a gate comes to is shown once, for any such number that agrees with a weight on the lengths that occur.
use mathlib.Core.Path.{◌≡◌, refl, ap, ◌∙◌}
use mathlib.Core.List.{List, [], ◌∷◌, ◌++◌, map, flat_map}
use Prim.Native.Nat.{ℕ, suc, ◌+◌, ◌*◌}
use native.Mathlib.Nat.{suc-mul}
use native.Mathlib.Omega.{arith}
use lib.ListN.{length, length-append, length-map}
use Rattle.lists.specs.Listing.{tab}
use Rattle.lists.proofs.Listing.{length_tab}
use Rattle.paper_circuit.specs.Circuit.{Definition}
use Rattle.paper_circuit.specs.declared.Gate.{Gate}
use Rattle.paper_circuit.specs.declared.Gate.TheVariants.{Constant, Copy, Inverse, Both, Either, AnyOf, Step}
use Rattle.table_sizes.specs.Weights.{weight_of, weight_all, clause_weight, literal_weight}
use Rattle.table_sizes.specs.declared.Weight.{Weight}
use Rattle.paper_clauses.specs.Clauses.{plain, negated, Clause, any_clauses, clauses_of, clauses_by}
use Rattle.paper_clauses.specs.Entries.{entries_of, flat}

-- ---- the total of t (length c) over the clauses c

module _ (t : ℕ → ℕ) where
  abbrev total : List Clause → ℕ
  total [] = 0
  total (c ∷ T) = t (length c) + total T

  total_append : (S T : List Clause) → total (S ++ T) ≡ total S + total T
  total_append [] T = omega arith
  total_append (c ∷ S) T = omega (arith, total_append S T)

  total_any : (v : ℕ) (ws : List ℕ) → total (any_clauses v ws) ≡ length ws * t 2 + t (suc (length ws))
  total_any v ws =
      total_append (map (λ w. plain v ∷ negated w ∷ []) ws) ((negated v ∷ map plain ws) ∷ [])
      ∙ rw (length-map ws plain) (omega (arith, each ws))
    where
      each : (ws : List ℕ) → total (map (λ w. plain v ∷ negated w ∷ []) ws) ≡ length ws * t 2
      each [] = omega arith
      each (w ∷ ws) = omega (arith, each ws, suc-mul (length ws) (t 2))

-- t comes to w on each gate
record Comes (t : ℕ → ℕ) (w : Weight) : Type 0 where
  one : t 1 ≡ 1
  copy : 2 * t 2 ≡ w.copy
  any : (n : ℕ) → n * t 2 + t (suc n) ≡ n * w.each + 1
  step : 3 * t 3 + t 2 ≡ w.step

module _ (t : ℕ → ℕ) (w : Weight) (h : Comes t w) where
  gate_total : (v : ℕ) (g : Gate) → total t (clauses_of v g) ≡ weight_of w g
  unfolding clauses_of weight_of
  gate_total v (Constant b) = omega arith
  gate_total v (Copy u) = omega arith
  gate_total v (Inverse x) = omega arith
  gate_total v (Both x y) = omega (arith, h.any 2)
  gate_total v (Either x y) = total_any t v (x ∷ y ∷ []) ∙ h.any 2
  gate_total v (AnyOf x n) = total_any t v (tab n (λ e. x + e)) ∙ rw (length_tab n (λ e. x + e)) (h.any n)
  gate_total v (Step p q s) = omega arith

  total_by : (D : List Definition) → total t (clauses_by D) ≡ weight_all w D
  unfolding clauses_by flat_map weight_all
  total_by [] = refl
  total_by (d ∷ D) =
      total_append t (clauses_of d.variable d.gate) (clauses_by D) ∙ omega (arith, gate_total d.variable d.gate, total_by D)

-- ---- clauses

clause_comes : Comes (λ n. 1) clause_weight
clause_comes = record { one = refl; copy = refl; any = λ n. omega arith; step = refl }

clause_total : (T : List Clause) → length T ≡ total (λ n. 1) T
clause_total [] = refl
clause_total (c ∷ T) = omega (arith, clause_total T)

pub gate_clauses : (v : ℕ) (g : Gate) → length (clauses_of v g) ≡ weight_of clause_weight g
gate_clauses v g = clause_total (clauses_of v g) ∙ gate_total (λ n. 1) clause_weight clause_comes v g

pub clauses_by_lem : (D : List Definition) → length (clauses_by D) ≡ weight_all clause_weight D
clauses_by_lem D = clause_total (clauses_by D) ∙ total_by (λ n. 1) clause_weight clause_comes D

-- ---- literals

literal_comes : Comes (λ n. n) literal_weight
literal_comes = record { one = refl; copy = refl; any = λ n. omega arith; step = refl }

clause_length : (c : Clause) → length (entries_of c) ≡ length c
unfolding entries_of
clause_length [] = refl
clause_length (l ∷ []) = refl
clause_length (l ∷ m ∷ c) = ap suc (clause_length (m ∷ c))

literal_total : (T : List Clause) → length (flat T) ≡ total (λ n. n) T
unfolding flat flat_map
literal_total [] = refl
literal_total (c ∷ T) = length-append (entries_of c) (flat T) ∙ omega (arith, clause_length c, literal_total T)

pub gate_literals : (v : ℕ) (g : Gate) → length (flat (clauses_of v g)) ≡ weight_of literal_weight g
gate_literals v g = literal_total (clauses_of v g) ∙ gate_total (λ n. n) literal_weight literal_comes v g

pub literals_by : (D : List Definition) → length (flat (clauses_by D)) ≡ weight_all literal_weight D
literals_by D = literal_total (clauses_by D) ∙ total_by (λ n. n) literal_weight literal_comes D
