-- An assignment meets a gate's clauses exactly where v has the gate's value. Met or not turns on the values of v and of the inputs
-- alone, so each gate is a table of Booleans; any number of inputs goes by induction on their list, a table of three at each.
use mathlib.Core.Path.{◌≡◌, refl, ap, ◌∙◌}
use mathlib.Core.Logic.Iff
use mathlib.Core.Logic.{◌↔◌}
use mathlib.Core.Bool.{Bool, true, false, not, cond, ◌&&◌, ◌||◌, beq, false≢true, true≢false, and-eq-true_iff}
use mathlib.Core.List.{List, [], ◌∷◌, ◌++◌, map, map-append, flat_map}
use Prim.Native.Nat.{ℕ, zero, suc, ◌+◌}
use Rattle.lists.specs.Listing.{rows, tab, All}
use Rattle.lists.proofs.Tests.{both}
use Rattle.paper_meaning.specs.Meaning.{any}
use Rattle.paper_circuit.specs.Gates.{Assignment, value_of}
use Rattle.paper_circuit.specs.Circuit.{Definition}
use Rattle.paper_circuit.specs.declared.Gate.{Gate}
use Rattle.paper_circuit.specs.declared.Gate.TheVariants.{Constant, Copy, Inverse, Both, Either, AnyOf, Step}
use Rattle.paper_clauses.specs.Clauses.{plain, negated, Clause, any_clauses, clauses_of, clauses_by, meets_literal, meets_clause, meets_all}

-- ---- what n Booleans make: two such functions are the same if they agree on each of the 2^n lines of their table

abbrev pub Table : ℕ → Type 0
Table zero = Bool
Table (suc n) = Bool → Table n

abbrev pub Same : (n : ℕ) → Table n → Table n → Type 0
Same zero x y = x ≡ y
Same (suc n) f g = (b : Bool) → Same n (f b) (g b)

abbrev pub agree : (n : ℕ) → Table n → Table n → Bool
agree zero x y = beq x y
agree (suc n) f g = agree n (f true) (g true) && agree n (f false) (g false)

pub beq_exactly : (x y : Bool) → (beq x y ≡ true) ↔ (x ≡ y)
beq_exactly true true = (λ e. refl, λ e. refl)
beq_exactly true false = (λ e. absurd (false≢true e), λ e. absurd (true≢false e))
beq_exactly false true = (λ e. absurd (false≢true e), λ e. absurd (false≢true e))
beq_exactly false false = (λ e. refl, λ e. refl)

at_each : (P : Bool → Type 0) → P true → P false → (b : Bool) → P b
at_each P t f true = t
at_each P t f false = f

pub by_table : (n : ℕ) (f g : Table n) → agree n f g ≡ true → Same n f g
by_table zero x y e = (beq_exactly x y).0 e
by_table (suc n) f g e =
    let w = both (agree n (f true) (g true)) (agree n (f false) (g false)) e in
    at_each (λ b. Same n (f b) (g b)) (by_table n (f true) (g true) w.0) (by_table n (f false) (g false) w.1)

or_false : (x : Bool) → (x || false) ≡ x
or_false = by_table 1 (λ x. x || false) (λ x. x) refl

module _ (a : Assignment) where
  -- ---- over ++

  pub meets_clause_append : (c d : Clause) → meets_clause a (c ++ d) ≡ (meets_clause a c || meets_clause a d)
  unfolding meets_clause
  meets_clause_append [] d = refl
  meets_clause_append (l ∷ c) d =
      ap (λ (x : Bool). meets_literal a l || x) (meets_clause_append c d)
      ∙ by_table 3 (λ x y z. x || (y || z)) (λ x y z. (x || y) || z) refl (meets_literal a l) (meets_clause a c) (meets_clause a d)

  pub meets_append : (S T : List Clause) → meets_all a (S ++ T) ≡ (meets_all a S && meets_all a T)
  unfolding meets_all
  meets_append [] T = refl
  meets_append (c ∷ S) T =
      ap (λ (x : Bool). meets_clause a c && x) (meets_append S T)
      ∙ by_table 3 (λ x y z. x && (y && z)) (λ x y z. (x && y) && z) refl (meets_clause a c) (meets_all a S) (meets_all a T)

  -- ---- a gate of any number of inputs: one of them is true where the clause of them all is met

  abbrev pub any_of : List ℕ → Bool
  any_of ws = meets_clause a (map plain ws)

  meets_each : (v : ℕ) (ws : List ℕ) → meets_all a (map (λ w. plain v ∷ negated w ∷ []) ws) ≡ (a v || not (any_of ws))
  unfolding meets_all meets_clause
  meets_each v [] = by_table 1 (λ x. true) (λ x. x || true) refl (a v)
  meets_each v (w ∷ ws) =
      ap (λ (x : Bool). (a v || (not (a w) || false)) && x) (meets_each v ws)
      ∙ by_table 3 (λ x y z. (x || (not y || false)) && (x || not z)) (λ x y z. x || not (y || z)) refl (a v) (a w) (any_of ws)

  meets_any : (v : ℕ) (ws : List ℕ) → meets_all a (any_clauses v ws) ≡ beq (a v) (any_of ws)
  unfolding meets_all meets_clause
  meets_any v ws =
      meets_append (map (λ w. plain v ∷ negated w ∷ []) ws) ((negated v ∷ map plain ws) ∷ [])
      ∙ ap (λ (x : Bool). x && ((not (a v) || any_of ws) && true)) (meets_each v ws)
      ∙ by_table 2 (λ x y. (x || not y) && ((not x || y) && true)) beq refl (a v) (any_of ws)

  pub any_some : (w n : ℕ) → any_of (tab n (λ e. w + e)) ≡ any a w n
  unfolding meets_clause rows any
  any_some w zero = refl
  any_some w (suc n) =
      rw (map-append plain, meets_clause_append, any_some w n) (ap (λ (x : Bool). any a w n || x) (or_false (a (w + n))))

  -- ---- every gate, every list of definitions

  meets_gate : (v : ℕ) (g : Gate) → meets_all a (clauses_of v g) ≡ beq (a v) (value_of a g)
  unfolding clauses_of value_of meets_all meets_clause
  meets_gate v (Constant b) = by_table 2 (λ c x. (cond c x (not x) || false) && true) (λ c x. beq x c) refl b (a v)
  meets_gate v (Copy u) = by_table 2 (λ x y. (not x || (y || false)) && ((x || (not y || false)) && true)) beq refl (a v) (a u)
  meets_gate v (Inverse u) =
      by_table 2 (λ x y. (x || (y || false)) && ((not x || (not y || false)) && true)) (λ x y. beq x (not y)) refl (a v) (a u)
  meets_gate v (Both t u) =
      by_table 3 (λ x y z. (not x || (y || false)) && ((not x || (z || false)) && ((x || (not y || (not z || false))) && true)))
      (λ x y z. beq x (y && z)) refl (a v) (a t) (a u)
  meets_gate v (Either t u) = meets_any v (t ∷ u ∷ []) ∙ ap (λ (x : Bool). beq (a v) (a t || x)) (or_false (a u))
  meets_gate v (AnyOf w n) = meets_any v (tab n (λ e. w + e)) ∙ ap (beq (a v)) (any_some w n)
  meets_gate v (Step p q s) =
      by_table 4
      (λ x y z t. (not x || (y || (z || false))) && ((not x || (y || (t || false))) && ((x || (not y || false)) && ((x || (not z || (not t || false))) && true))))
      (λ x y z t. beq x (y || z && t)) refl (a v) (a p) (a q) (a s)

  pub meets_exactly : (v : ℕ) (g : Gate) → (meets_all a (clauses_of v g) ≡ true) ↔ (a v ≡ value_of a g)
  meets_exactly v g = rw (meets_gate v g) (beq_exactly (a v) (value_of a g))

  pub meets_by : (D : List Definition) → (meets_all a (clauses_by D) ≡ true) ↔ All (λ d. a d.variable ≡ value_of a d.gate) D
  unfolding clauses_by flat_map meets_all
  meets_by [] = (λ e. tt, λ u. refl)
  meets_by (d ∷ D) =
      let T = clauses_of d.variable d.gate in
      rw (meets_append T (clauses_by D)) (Iff.trans (and-eq-true_iff (meets_all a T) (meets_all a (clauses_by D))) (Iff.and (meets_exactly d.variable d.gate) (meets_by D)))
