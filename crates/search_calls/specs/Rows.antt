-- What the code does with the node table of an accepted formula. Nothing here need be believed: no call open to others cites it.
use Rattle.std.specs.Prelude.{List, [], ◌∷◌, ℕ, length, Err}
use Rattle.refusal.specs.Asked.{asked}
use Rattle.paper_grammar.specs.Trees.{Tree}
use Rattle.paper_grammar.specs.declared.Sort.TheVariants.{Formula}
use Rattle.paper_grammar.specs.Nodes.{nodes_of}
use Rattle.paper_circuit.specs.Circuit.{variables_of}
use Rattle.paper_clauses.specs.Clauses.{clause_table}
use Rattle.paper_clauses.specs.Entries.{flat}
use Rattle.paper_search.specs.Search.{tree_of, Searched, unwritten, limited, ask_lent}
use Rattle.paper_search.specs.declared.Lent.{Lent}

-- the lengths of the lent arrays, those of the first two as numbers
abbrev pub lent_by : ℕ → ℕ → List ℕ → List ℕ → List ℕ → Lent
lent_by variables marks values trail recording = record {
  variables = variables;
  marks = marks;
  values = length values;
  trail = length trail;
  recording = length recording;
}

-- question 18, and then the search
unfoldable pub searched_by : ℕ → ℕ → Tree Formula → ℕ → Lent → List ℕ → Searched
searched_by C k f B n recording =
    asked (ask_lent (length (flat (clause_table C k f))) (variables_of C k (nodes_of f 0)) k n ∷ []) (λ r. unwritten recording (Err r)) (limited C k B recording (tree_of C k f))
