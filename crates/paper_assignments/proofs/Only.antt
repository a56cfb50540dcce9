-- Two assignments with the same channels, under both of which every variable has its gate's value, are the same: by the circuit's
-- induction, since a gate's value turns on its inputs alone.
use mathlib.Core.Path.{◌≡◌, sym, ◌∙◌}
use mathlib.Core.List.{List, [], ◌∷◌}
use Prim.Native.Nat.{ℕ, ◌-◌, ◌*◌, ◌<◌}
use native.Mathlib.Omega.{arith}
use Rattle.lists.specs.Listing.{All}
use Rattle.lists.proofs.Listing.{row_of, sum_alike}
use Rattle.paper_grammar.specs.Trees.{Tree, Letters}
use Rattle.paper_grammar.specs.declared.Sort.TheVariants.{Formula}
use Rattle.paper_grammar.specs.Nodes.{nodes_of}
use Rattle.paper_circuit.specs.Gates.{Assignment}
use Rattle.paper_circuit.specs.Circuit.{channel_of, variables_of, Definition, definitions_of}
use Rattle.paper_circuit.proofs.Blocks.{From}
use Rattle.paper_circuit.proofs.Values.{Same, value_same}
use Rattle.paper_circuit.proofs.Laws.{Passes, circuit_induction}
use Rattle.paper_assignments.proofs.Meets.{Defined}

-- the variables from 1 to k·C are the channels' at the instants
pub each_channel : (C k : ℕ) (X : ℕ → Type 0) → ((t c : ℕ) → t < k → c < C → X (channel_of C t c)) → (v : ℕ) → From 1 (k * C) v → X v
each_channel C k X h v i =
    let r = row_of (λ t. C) k (v - 1) (omega (arith, sum_alike C k)) in
    let e : channel_of C r.row r.at ≡ v = omega (arith, r.sums, sum_alike C r.row) in
    rw e at (h r.row r.at r.row_lt r.at_lt)

module _ (a b : Assignment) where
  gates_pass : (D : List Definition) → All (Defined a) D → All (Defined b) D → All (Passes (Same a b)) D
  gates_pass [] p q = tt
  gates_pass (d ∷ D) p q = (λ i. p.0 ∙ value_same a b d.gate i ∙ sym q.0, gates_pass D p.1 q.1)

  pub same_channels : (C k : ℕ) (f : Tree Formula) → Letters C f → ((t c : ℕ) → t < k → c < C → a (channel_of C t c) ≡ b (channel_of C t c))
      → All (Defined a) (definitions_of C k (nodes_of f 0)) → All (Defined b) (definitions_of C k (nodes_of f 0))
      → (v : ℕ) → From 1 (variables_of C k (nodes_of f 0)) v → a v ≡ b v
  same_channels C k f L h p q =
      circuit_induction C k f L (Same a b) (each_channel C k (Same a b) h) (gates_pass (definitions_of C k (nodes_of f 0)) p q)
