-- Document 01, "Clauses": the clauses of each gate, the table of a formula (the Tseitin encoding of its circuit), and what it is for an
-- assignment to meet them.
use Rattle.std.specs.Prelude.{Bool, true, false, not, cond, ◌&&◌, ◌||◌, ℕ, ◌+◌}
use mathlib.Core.List.{List, [], ◌∷◌, ◌++◌, map, flat_map}
use Rattle.lists.specs.Listing.{tab}
use Rattle.paper_grammar.specs.Trees.{Tree}
use Rattle.paper_grammar.specs.declared.Sort.TheVariants.{Formula}
use Rattle.paper_grammar.specs.Nodes.{nodes_of}
use Rattle.paper_circuit.specs.Gates.{Assignment}
use Rattle.paper_circuit.specs.Circuit.{Definition, definitions_of, root_of}
use Rattle.paper_circuit.specs.declared.Gate.{Gate}
use Rattle.paper_circuit.specs.declared.Gate.TheVariants.{Constant, Copy, Inverse, Both, Either, AnyOf, Step}

-- a variable, plain (sign true) or negated
pub record Literal : Type 0 where
  pub variable : ℕ
  pub sign : Bool

abbrev pub literal : Bool → ℕ → Literal
literal u v = record { variable = v; sign = u }

abbrev pub plain : ℕ → Literal
plain v = literal true v

abbrev pub negated : ℕ → Literal
negated v = literal false v

abbrev pub Clause : Type 0
Clause = List Literal

-- v is any of these: "(v −w) for each m, then (−v w ... w) over all m"; "`|`: (v −x)(v −y)(−v x y)"
abbrev pub any_clauses : ℕ → List ℕ → List Clause
any_clauses v ws = map (λ w. plain v ∷ negated w ∷ []) ws ++ (negated v ∷ map plain ws) ∷ []

-- a gate's clauses, in document 01's order: `T`, `F`; a letter; `!`; `&`, and `[S]` and triples; `|`; chop; a duration's level
unfoldable pub clauses_of : ℕ → Gate → List Clause
clauses_of v (Constant b) = (literal b v ∷ []) ∷ []
clauses_of v (Copy u) = (negated v ∷ plain u ∷ []) ∷ (plain v ∷ negated u ∷ []) ∷ []
clauses_of v (Inverse x) = (plain v ∷ plain x ∷ []) ∷ (negated v ∷ negated x ∷ []) ∷ []
clauses_of v (Both x y) = (negated v ∷ plain x ∷ []) ∷ (negated v ∷ plain y ∷ []) ∷ (plain v ∷ negated x ∷ negated y ∷ []) ∷ []
clauses_of v (Either x y) = any_clauses v (x ∷ y ∷ [])
clauses_of v (AnyOf w n) = any_clauses v (tab n (λ e. w + e))
clauses_of v (Step p q s) =
    (negated v ∷ plain p ∷ plain q ∷ []) ∷ (negated v ∷ plain p ∷ plain s ∷ []) ∷ (plain v ∷ negated p ∷ [])
    ∷ (plain v ∷ negated q ∷ negated s ∷ []) ∷ []

-- the clauses of definitions, in their order
unfoldable pub clauses_by : List Definition → List Clause
clauses_by D = flat_map (λ (d : Definition). clauses_of d.variable d.gate) D

-- a formula's table: "The last clause is the root on [0, k], alone."
unfoldable pub clause_table : ℕ → ℕ → Tree Formula → List Clause
clause_table C k f = clauses_by (definitions_of C k (nodes_of f 0)) ++ (plain (root_of C k f) ∷ []) ∷ []

-- ---- "meets": a literal is true where its variable has its sign, a clause where one of its literals is, a table where all clauses are

abbrev pub meets_literal : Assignment → Literal → Bool
meets_literal a l = cond l.sign (a l.variable) (not (a l.variable))

unfoldable pub meets_clause : Assignment → Clause → Bool
meets_clause a [] = false
meets_clause a (l ∷ c) = meets_literal a l || meets_clause a c

unfoldable pub meets_all : Assignment → List Clause → Bool
meets_all a [] = true
meets_all a (c ∷ T) = meets_clause a c && meets_all a T
