-- DEMAND 3, of any engine: what the search answers and leaves in the recording's array.
use Rattle.std.specs.Prelude.{◌≡◌, ◌↔◌, ◌≢◌, List, [], ◌∷◌, ℕ, ◌*◌, ◌≤◌, ◌<◌, min, length, Result, Ok, Err}
use Rattle.refusal.specs.declared.Refusal.{Refusal}
use Rattle.paper_grammar.specs.Trees.{Tree}
use Rattle.paper_grammar.specs.declared.Sort.TheVariants.{Formula}
use Rattle.paper_grammar.specs.Nodes.{nodes_of}
use Rattle.paper_circuit.specs.Circuit.{variables_of}
use Rattle.paper_clauses.specs.Clauses.{clause_table}
use Rattle.paper_clauses.specs.Entries.{flat}
use Rattle.moments.specs.Moments.{over}
use Rattle.paper_closure.specs.Closure.{Literals, nothing, ClosureOf}
use Rattle.paper_closure.specs.Runs.{Outcome, Run}
use Rattle.paper_search.specs.Search.{Arrays, lent_of, ask_lent, Satisfies, Earliest, count_in}
use Rattle.paper_search.specs.declared.Answer.{Answer}
use Rattle.paper_search.specs.declared.Answer.TheVariants.{Found, None, Spent}
use Rattle.demands.specs.Calls.{Obeys}

-- N, "the number of tries until found, or until the whole tree is dead": "start from the closure of nothing"
pub record Trials (C k : ℕ) (f : Tree Formula) (N : ℕ) : Type 0 where
  pub start : Literals
  pub closed : ClosureOf (clause_table C k f) nothing start
  pub outcome : Outcome
  pub run : Run (clause_table C k f) (variables_of C k (nodes_of f 0)) (k * C) start outcome N

-- the answer, and the recording's array before and after
pub record Draws (C k : ℕ) (f : Tree Formula) (B N : ℕ) (before : List ℕ) (a : Result Answer Refusal) (after : List ℕ) : Type 0 where
  -- "The search draws a recording exactly when some recording of C channels and k steps satisfies the formula on [0, k] and N <= B."
  pub found_exactly : ((n : ℕ) × (a ≡ Ok (Found n))) ↔ (((r : List ℕ) × Satisfies C k f r) × (N ≤ B))
  -- "The one drawn satisfies it, and every other such recording that satisfies it comes later in the order."
  pub drawn : (n : ℕ) → a ≡ Ok (Found n) → (r : List ℕ) × (after ≡ over r before) × Earliest C k f r
  -- "None exactly when no such recording satisfies it and N <= B."
  pub none_exactly : ((n : ℕ) × (a ≡ Ok (None n))) ↔ (((r : List ℕ) → Satisfies C k f r → ⊥) × (N ≤ B))
  -- "Spent exactly when N > B."
  pub spent_exactly : ((n : ℕ) × (a ≡ Ok (Spent n))) ↔ (B < N)
  -- "The count is the smaller of N and B"
  pub count : count_in a ≡ min N B
  -- "The recording array is written only on found."
  pub kept : ((n : ℕ) → a ≢ Ok (Found n)) → after ≡ before

-- an answer, and the arrays after it
pub record Search : Type 0 where
  pub answer : Result Answer Refusal
  pub arrays : Arrays

-- the call: refused, every array is as it was; else "What the first four hold after a search is free"
abbrev pub Searches : ℕ → ℕ → List ℕ → ℕ → Arrays → Search → Type 0
Searches C k t B before =
    let lent = lent_of before.variables before.marks before.values before.trail before.recording in
    Obeys C k t (λ f. ask_lent (length (flat (clause_table C k f))) (variables_of C k (nodes_of f 0)) k lent ∷ [])
    (λ r. record { answer = Err r; arrays = before })
    (λ f x. (N : ℕ) → Trials C k f N → Draws C k f B N before.recording x.answer x.arrays.recording)
