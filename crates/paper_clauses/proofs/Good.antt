-- A clause of a gate is a literal of v and then literals of some of the inputs, in their order. So it is not empty, it names what v and
-- the inputs are, and where those have no number twice, neither has the clause.
use mathlib.Core.Logic.{◌≢◌}
use mathlib.Core.Path.{◌≡◌, refl}
use mathlib.Core.Bool.{Bool}
use mathlib.Core.List.{List, [], ◌∷◌, map, flat_map}
use Prim.Native.Nat.{ℕ, ◌+◌}
use Rattle.lists.specs.Listing.{tab, All}
use Rattle.paper_grammar.specs.Trees.{Tree}
use Rattle.paper_grammar.specs.declared.Sort.TheVariants.{Formula}
use Rattle.paper_grammar.specs.Nodes.{nodes_of}
use Rattle.lists.proofs.Lists.{all_append, all_map}
use Rattle.paper_circuit.specs.Gates.{inputs_of}
use Rattle.paper_circuit.specs.Circuit.{Definition, definitions_of, root_of}
use Rattle.paper_circuit.specs.declared.Gate.{Gate}
use Rattle.paper_circuit.specs.declared.Gate.TheVariants.{Constant, Copy, Inverse, Both, Either, AnyOf, Step}
use Rattle.paper_circuit.proofs.Inputs.{Distinct}
use Rattle.paper_clauses.specs.Clauses.{Literal, literal, plain, negated, Clause, any_clauses, clauses_of, clauses_by, clause_table}

-- of two inputs "any" is what document 01 prints for `|`: (v −x)(v −y)(−v x y)
pub either_printed : (v x y : ℕ)
    → clauses_of v (Either x y) ≡ (plain v ∷ negated x ∷ []) ∷ (plain v ∷ negated y ∷ []) ∷ (negated v ∷ plain x ∷ plain y ∷ []) ∷ []
unfolding clauses_of
either_printed v x y = refl

-- not empty
abbrev pub Full : Clause → Type 0
Full [] = ⊥
Full (l ∷ c) = Unit

-- the variables that a clause names
abbrev pub names_of : Clause → List ℕ
names_of c = map (λ (l : Literal). l.variable) c

-- a clause that is not empty, names only what is in X, and nothing twice
pub record Sound (X : ℕ → Type 0) (c : Clause) : Type 0 where
  pub full : Full c
  pub named : All X (names_of c)
  pub once : Distinct (names_of c)

-- numbers of X, none twice
abbrev pub Fit : (ℕ → Type 0) → List ℕ → Type 0
Fit X xs = All X xs × Distinct xs

-- some of these, in their order
pub data Some : List ℕ → List ℕ → Type 0 where
  none : {ys : List ℕ} → Some [] ys
  skip : {xs ys : List ℕ} {y : ℕ} → Some xs ys → Some xs (y ∷ ys)
  keep : {xs ys : List ℕ} {y : ℕ} → Some xs ys → Some (y ∷ xs) (y ∷ ys)

pub some_all : (X : ℕ → Type 0) {xs ys : List ℕ} → Some xs ys → All X ys → All X xs
some_all X none h = tt
some_all X (skip s) h = some_all X s h.1
some_all X (keep s) h = (h.0, some_all X s h.1)

some_distinct : {xs ys : List ℕ} → Some xs ys → Distinct ys → Distinct xs
some_distinct none h = tt
some_distinct (skip s) h = some_distinct s h.1
some_distinct (keep {y = y} s) h = (some_all (λ z. y ≢ z) s h.0, some_distinct s h.1)

-- a literal of v, then literals of some of ws
pub data Of (v : ℕ) (ws : List ℕ) : Clause → Type 0 where
  of : {u : Bool} {c : Clause} → Some (names_of c) ws → Of v ws (literal u v ∷ c)

wider : {v w : ℕ} {ws : List ℕ} {c : Clause} → Of v ws c → Of v (w ∷ ws) c
wider (of s) = of (skip s)

of_full : {v : ℕ} {ws : List ℕ} {c : Clause} → Of v ws c → Full c
of_full (of s) = tt

of_sound : (X : ℕ → Type 0) {v : ℕ} {ws : List ℕ} {c : Clause} → Fit X (v ∷ ws) → Of v ws c → Sound X c
of_sound X h (of s) = record { full = tt; named = some_all X (keep s) h.0; once = some_distinct (keep s) h.1 }

-- ---- the clauses of a gate

every : (ws : List ℕ) → Some (names_of (map plain ws)) ws
every [] = none
every (w ∷ ws) = keep (every ws)

each_of : (v : ℕ) (ws : List ℕ) → All (Of v ws) (map (λ w. plain v ∷ negated w ∷ []) ws)
each_of v [] = tt
each_of v (w ∷ ws) = (of (keep none), all_map (Of v ws) (Of v (w ∷ ws)) (λ c o. wider o) (map (λ w. plain v ∷ negated w ∷ []) ws) (each_of v ws))

any_of : (v : ℕ) (ws : List ℕ) → All (Of v ws) (any_clauses v ws)
any_of v ws = all_append (Of v ws) (map (λ w. plain v ∷ negated w ∷ []) ws) ((negated v ∷ map plain ws) ∷ []) (each_of v ws) (of (every ws), tt)

-- each is a literal of v, then literals of some of the inputs
pub gate_of_lem : (v : ℕ) (g : Gate) → All (Of v (inputs_of g)) (clauses_of v g)
unfolding clauses_of inputs_of
gate_of_lem v (Constant b) = (of none, tt)
gate_of_lem v (Copy u) = (of (keep none), (of (keep none), tt))
gate_of_lem v (Inverse x) = (of (keep none), (of (keep none), tt))
gate_of_lem v (Both x y) = (of (keep none), (of (skip (keep none)), (of (keep (keep none)), tt)))
gate_of_lem v (Either x y) = any_of v (x ∷ y ∷ [])
gate_of_lem v (AnyOf w n) = any_of v (tab n (λ e. w + e))
gate_of_lem v (Step p q s) = (of (keep (keep none)), (of (keep (skip (keep none))), (of (keep none), (of (skip (keep (keep none))), tt))))

pub gate_full : (v : ℕ) (g : Gate) → All Full (clauses_of v g)
gate_full v g = all_map (Of v (inputs_of g)) Full (λ c o. of_full o) (clauses_of v g) (gate_of_lem v g)

pub gate_sound : (X : ℕ → Type 0) (v : ℕ) (g : Gate) → Fit X (v ∷ inputs_of g) → All (Sound X) (clauses_of v g)
gate_sound X v g h = all_map (Of v (inputs_of g)) (Sound X) (λ c o. of_sound X h o) (clauses_of v g) (gate_of_lem v g)

-- ---- of definitions, of a table

pub full_by : (D : List Definition) → All Full (clauses_by D)
unfolding clauses_by flat_map
full_by [] = tt
full_by (d ∷ D) = all_append Full (clauses_of d.variable d.gate) (clauses_by D) (gate_full d.variable d.gate) (full_by D)

pub sound_by : (X : ℕ → Type 0) (D : List Definition) → All (λ d. Fit X (d.variable ∷ inputs_of d.gate)) D → All (Sound X) (clauses_by D)
unfolding clauses_by flat_map
sound_by X [] h = tt
sound_by X (d ∷ D) h =
    all_append (Sound X) (clauses_of d.variable d.gate) (clauses_by D) (gate_sound X d.variable d.gate h.0) (sound_by X D h.1)

module _ (C k : ℕ) (f : Tree Formula) where
  abbrev definitions : List Definition
  definitions = definitions_of C k (nodes_of f 0)

  pub full_table : All Full (clause_table C k f)
  unfolding clause_table
  full_table = all_append Full (clauses_by definitions) ((plain (root_of C k f) ∷ []) ∷ []) (full_by definitions) (tt, tt)

  pub sound_table : (X : ℕ → Type 0) → All (λ d. Fit X (d.variable ∷ inputs_of d.gate)) definitions → X (root_of C k f) → All (Sound X) (clause_table C k f)
  unfolding clause_table
  sound_table X h x =
      all_append (Sound X) (clauses_by definitions) ((plain (root_of C k f) ∷ []) ∷ []) (sound_by X definitions h)
      (record { full = tt; named = (x, tt); once = (tt, tt) }, tt)
