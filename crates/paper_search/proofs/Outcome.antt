-- What the tree of a formula's table says of recordings: an assignment meets the table exactly where it is the extension of a recording that
-- satisfies the formula, so a dead tree leaves no such recording, and the set found reads as one that comes before every other.
use mathlib.Core.Path.{◌≡◌}
use mathlib.Core.Logic.{◌≢◌}
use mathlib.Core.Bool.{true}
use mathlib.Core.List.{List}
use Prim.Native.Nat.{ℕ, suc, ◌+◌, ◌-◌, ◌*◌, ◌^◌, ◌≤◌}
use native.Mathlib.Omega.{arith}
use Rattle.paper_grammar.specs.Trees.{Tree, Letters}
use Rattle.paper_grammar.specs.declared.Sort.TheVariants.{Formula}
use Rattle.paper_grammar.specs.Nodes.{nodes_of}
use Rattle.paper_circuit.specs.Circuit.{variables_of}
use Rattle.paper_clauses.specs.Clauses.{clause_table}
use Rattle.paper_clauses.proofs.Named.{table_sound}
use Rattle.paper_assignments.specs.Extension.{value_in, extension_of, recording_by}
use Rattle.paper_assignments.proofs.Recordings.{recording_length, recording_below}
use Rattle.paper_assignments.proofs.Laws.{extension_channels, meets_holds, holds_meets}
use Rattle.paper_closure.specs.Closure.{Literals, nothing}
use Rattle.paper_closure.specs.Runs.{dead, found, high_in}
use Rattle.paper_closure.specs.Tree.{closure}
use Rattle.paper_closure.proofs.Runs.{tree_bound}
use Rattle.paper_closure.proofs.Gates.{none_left_open}
use Rattle.paper_closure.proofs.Means.{Drawn, dead_unmet, found_drawn, found_first, reading_meets}
use Rattle.paper_search.specs.Search.{earlier, tree_of, Satisfies}
use Rattle.paper_search.proofs.Order.{first_comes}

module _ (C k : ℕ) (f : Tree Formula) where
  abbrev variables : ℕ
  variables = variables_of C k (nodes_of f 0)

  channels_fit : k * C ≤ variables_of C k (nodes_of f 0)
  unfolding variables_of
  channels_fit = omega arith

  pub trials_bound : (tree_of C k f).tries ≤ 2 ^ (C * k + 1) - 2
  unfolding tree_of
  trials_bound = let e : C * k + 1 ≡ suc (k * C) = omega arith in rw e (tree_bound (clause_table C k f) variables (k * C))

  module _ (L : Letters C f) where
    pub dead_none : (tree_of C k f).outcome ≡ dead → (r : List ℕ) → Satisfies C k f r → ⊥
    unfolding tree_of
    dead_none e r s =
        dead_unmet (clause_table C k f) variables (k * C) channels_fit e (value_in (extension_of C k r (nodes_of f 0))) (holds_meets C k f L r s.true_on)

    module _ (S : Literals) (e : (tree_of C k f).outcome ≡ found S) where
      drawn : Drawn (clause_table C k f) variables (k * C) (closure (clause_table C k f) nothing) S
      unfolding tree_of
      drawn = found_drawn (clause_table C k f) variables (k * C) channels_fit S e

      pub found_satisfies : Satisfies C k f (recording_by C k (high_in S))
      found_satisfies = record {
        bytes = recording_length C k (high_in S);
        below = recording_below C k (high_in S);
        true_on =
            meets_holds C k f L (high_in S) (reading_meets variables S drawn.calm (none_left_open S C k f L drawn.closed drawn.full) (clause_table C k f)
            (table_sound C k f L) drawn.closed);
      }

      pub found_earliest : (s : List ℕ) → Satisfies C k f s → s ≢ recording_by C k (high_in S) → earlier C k (recording_by C k (high_in S)) s ≡ true
      unfolding tree_of
      found_earliest s w =
          let a = value_in (extension_of C k s (nodes_of f 0)) in
          first_comes C k (high_in S) a s w.bytes w.below (extension_channels C k s (nodes_of f 0))
          (found_first (clause_table C k f) variables (k * C) channels_fit S e a (holds_meets C k f L s w.true_on))
