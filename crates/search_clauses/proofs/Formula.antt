-- The table of a formula's node table is the formula's.
-- Its rows have the definitions of its nodes, in their order.
use mathlib.Core.Path.{◌≡◌, refl, sym, ap, ap₂, ◌∙◌}
use mathlib.Core.Bool.{true}
use mathlib.Core.List.{List, ◌++◌, flat_map}
use Prim.Native.Nat.{ℕ, zero, suc, ◌+◌, ◌<◌}
use lib.ListN.{length, get_or}
use Rattle.lists.specs.Listing.{rows}
use Rattle.paper_grammar.specs.Trees.{Tree}
use Rattle.paper_grammar.specs.declared.Sort.TheVariants.{Formula}
use Rattle.paper_grammar.specs.Nodes.{nodes_of}
use Rattle.paper_circuit.specs.Circuit.{Definition}
use Rattle.paper_circuit.specs.declared.Gate.TheVariants.{Constant}
use Rattle.paper_clauses.specs.Clauses.{Clause, clauses_of, clauses_by, clause_table}
use Rattle.table_nodes.proofs.Nodes.{clauses_join}
use Rattle.table_layout.proofs.Places.{kinds, numbers, sizes, start, rows_defined, root_at}
use Rattle.search_clauses.specs.Clauses.{table_by}

clauses_rows : (f : ℕ → List Definition) (n : ℕ) → rows n (λ x. clauses_by (f x)) ≡ clauses_by (rows n f)
unfolding rows clauses_by flat_map
clauses_rows f zero = refl
clauses_rows f (suc n) = ap (λ (T : List Clause). T ++ clauses_by (f n)) (clauses_rows f n) ∙ sym (clauses_join (rows n f) (f n))

module _ (C k : ℕ) (f : Tree Formula) (firsts : List ℕ) (h : (y : ℕ) → y < length (nodes_of f 0) → get_or firsts y 0 ≡ start (nodes_of f 0) C k y) where
  pub table_is : table_by C k (kinds (nodes_of f 0)) (numbers (nodes_of f 0)) (sizes (nodes_of f 0)) firsts (length (nodes_of f 0)) ≡ clause_table C k f
  unfolding table_by clause_table clauses_of
  table_is =
      ap₂ (λ (T P : List Clause). T ++ P) (clauses_rows _ (length (nodes_of f 0)) ∙ ap clauses_by (rows_defined C k f firsts h))
      (ap (λ (v : ℕ). clauses_of v (Constant true)) (root_at C k f firsts h))
