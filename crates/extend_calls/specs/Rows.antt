-- What the call does with an accepted formula's node table. Nothing here need be believed: no call open to others cites it.
use Rattle.std.specs.Prelude.{◌≡◌, List, [], ◌∷◌, ℕ, ◌+◌, ◌*◌, ◌<◌, length, get_or}
use Rattle.std.proofs.lemmas.List.Edits.{sets}
use Rattle.refusal.specs.Asked.{asked, ask_places, ok}
use Rattle.paper_grammar.specs.Limits.{max_channels}
use Rattle.paper_grammar.specs.Trees.{Tree}
use Rattle.paper_grammar.specs.declared.Sort.TheVariants.{Formula}
use Rattle.paper_grammar.specs.Nodes.{nodes_of}
use Rattle.node_rows.specs.declared.NodeTable.{NodeTable}
use Rattle.node_calls.specs.Rows.{TableFor}
use Rattle.paper_circuit.specs.Circuit.{variables_of}
use Rattle.table_sizes.specs.Weights.{variable_weight, weight_to}
use Rattle.moments.specs.Moments.{over}
use Rattle.paper_assignments.specs.Extension.{node_values, extension_of}
use Rattle.paper_assignments.specs.Calls.{Extended, not_extended}

-- where the nodes' blocks begin, by the node table, and where the last one ends
pub record Seated (C k : ℕ) (T : NodeTable) (firsts : List ℕ) (last : ℕ) : Type 0 where
  pub first : (y : ℕ) → y < T.count → get_or firsts y 0 ≡ 1 + k * C + weight_to variable_weight k T.kinds T.numbers y
  pub ends : last ≡ k * C + weight_to variable_weight k T.kinds T.numbers T.count

-- an assignment before and after the values of all nodes are stored in their places
abbrev pub NodesPut : ℕ → List ℕ → NodeTable → List ℕ → ℕ → List ℕ → List ℕ → Type 0
NodesPut k recording T firsts last A A' =
    (C : ℕ) (f : Tree Formula) → Seated C k T firsts last → TableFor max_channels f T → A' ≡ sets A (k * C) (node_values k recording (nodes_of f 0))

-- what the call does once the formula and the recording are accepted
unfoldable pub extended_by : ℕ → ℕ → Tree Formula → List ℕ → List ℕ → Extended
extended_by C k f recording assignment =
    asked (ask_places (variables_of C k (nodes_of f 0)) (length assignment) ∷ []) (not_extended assignment)
    (record { answer = ok; assignment = over (extension_of C k recording (nodes_of f 0)) assignment })

-- the same by the formula's node table
abbrev pub Extends : NodeTable → ℕ → ℕ → List ℕ → List ℕ → Extended → Type 0
Extends T C k recording assignment e = (f : Tree Formula) → TableFor max_channels f T → e ≡ extended_by C k f recording assignment
