-- A clause names a definition's variable and inputs, which are from 1 to V and no two the same, or the root alone, which lies in its block;
-- so every place of the table names a variable from 1 to V, and the last place closes it.
use mathlib.Core.Path.{◌≡◌, ap, ◌∙◌}
use mathlib.Core.List.{List, [], ◌∷◌, ◌++◌, map-append, flat_map}
use Prim.Native.Nat.{ℕ}
use native.Mathlib.Omega.{arith}
use Rattle.paper_grammar.specs.Trees.{Tree, Letters}
use Rattle.paper_grammar.specs.declared.Sort.TheVariants.{Formula}
use Rattle.paper_grammar.specs.Nodes.{nodes_of}
use Rattle.lists.specs.Listing.{All}
use Rattle.lists.proofs.Lists.{all_append, all_map}
use Rattle.paper_circuit.specs.Gates.{inputs_of}
use Rattle.paper_circuit.specs.Circuit.{Definition, variables_of, definitions_of, root_of}
use Rattle.paper_circuit.proofs.Blocks.{From, root_in_range}
use Rattle.paper_circuit.proofs.Laws.{Mentions, definitions_mention}
use Rattle.paper_clauses.specs.Clauses.{Clause, plain, clauses_by, clause_table}
use Rattle.paper_clauses.specs.Entries.{Entry, entries_of, flat, marks_in, read_back}
use Rattle.paper_clauses.proofs.Good.{names_of, Sound, Fit, full_table, sound_table}
use Rattle.paper_clauses.proofs.Flat.{flat_join}
use Rattle.paper_clauses.proofs.ReadBack.{reads_back}

-- ---- the places of clauses

clause_names : (X : ℕ → Type 0) (c : Clause) → All X (names_of c) → All (λ (e : Entry). X e.variable) (entries_of c)
unfolding entries_of
clause_names X [] a = tt
clause_names X (l ∷ []) a = (a.0, tt)
clause_names X (l ∷ m ∷ c) a = (a.0, clause_names X (m ∷ c) a.1)

pub table_all : (P : Entry → Type 0) (T : List Clause) → All (λ c. All P (entries_of c)) T → All P (flat T)
unfolding flat flat_map
table_all P [] a = tt
table_all P (c ∷ T) a = all_append P (entries_of c) (flat T) a.0 (table_all P T a.1)

-- ---- what the clauses name

module _ (C k : ℕ) (f : Tree Formula) where
  abbrev in_range : ℕ → Type 0
  in_range = From 1 (variables_of C k (nodes_of f 0))

  mentioned_fit : (d : Definition) → Mentions C k (nodes_of f 0) d → Fit in_range (d.variable ∷ inputs_of d.gate)
  unfolding variables_of
  mentioned_fit d m = ((omega (arith, m.defines), m.inputs), m.apart)

  -- no clause is empty, none names a variable twice, and every variable is from 1 to V
  pub table_sound : Letters C f → All (Sound (From 1 (variables_of C k (nodes_of f 0)))) (clause_table C k f)
  table_sound L =
      sound_table C k f in_range (all_map (Mentions C k (nodes_of f 0)) _ mentioned_fit (definitions_of C k (nodes_of f 0)) (definitions_mention C k f L)) (root_in_range C k f)

  -- so is the variable of every place
  pub places_named : Letters C f → All (λ (e : Entry). From 1 (variables_of C k (nodes_of f 0)) e.variable) (flat (clause_table C k f))
  places_named L = table_all _ (clause_table C k f) (all_map (Sound in_range) _ (λ c s. clause_names in_range c s.named) (clause_table C k f) (table_sound L))

  -- the root's place closes the table
  pub last_mark : (m : List ℕ) × (marks_in (flat (clause_table C k f)) ≡ m ++ 3 ∷ [])
  unfolding clause_table flat flat_map entries_of
  last_mark =
      let S = clauses_by (definitions_of C k (nodes_of f 0)) in
      let root : List Clause = (plain (root_of C k f) ∷ []) ∷ [] in
      (marks_in (flat S), ap marks_in (flat_join S root) ∙ map-append (λ (e : Entry). e.mark) (flat S) (flat root))

  -- the places of the table tell its clauses
  pub table_reads_back : read_back (flat (clause_table C k f)) ≡ clause_table C k f
  table_reads_back = reads_back (clause_table C k f) (full_table C k f)
