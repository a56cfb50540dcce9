-- A chop's definitions are its triples' and then its intervals', so what is mentioned by all is mentioned by either,
-- at its own place or so many places further.
use mathlib.Core.Path.{◌≡◌, sym, subst}
use mathlib.Core.List.{List, ◌++◌}
use Prim.Native.Nat.{ℕ, ◌+◌}
use native.Mathlib.Omega.{arith}
use lib.ListN.{length, length-append, get_or-append}
use lib.Seq.{get_or-append-add}
use Rattle.interval.specs.Places.{count_of}
use Rattle.paper_circuit.specs.Circuit.{Definition}
use Rattle.table_blocks.specs.Blocks.{defined_by}
use Rattle.table_blocks.specs.declared.Block.{Block}
use Rattle.table_gates.specs.Mentioned.{Mentioned, AllMentioned}
use Rattle.table_nodes.specs.Nodes.{chopped_by}
use Rattle.table_nodes.proofs.Nodes.{Halves, chopped}

module _ (D E : List Definition) {F : List Definition} (e : D ++ E ≡ F) {n : ℕ} (f : AllMentioned n F) where
  all : AllMentioned n (D ++ E)
  all = subst (AllMentioned n) (sym e) f

  pub first_mentioned : AllMentioned n D
  first_mentioned x h = subst (Mentioned n) (get_or-append D E _ x h) (all x (omega (arith, length-append D E)))

  pub then_mentioned : AllMentioned n E
  then_mentioned x h = subst (Mentioned n) (get_or-append-add D E x _) (all (length D + x) (omega (arith, length-append D E)))

module _ (C : ℕ) {k : ℕ} {b t s : Block} (h : Halves k b t s) {l : ℕ} (f : AllMentioned l (chopped_by C k (b.first + count_of k) b)) where
  pub triples_mentioned : AllMentioned l (defined_by C k t)
  triples_mentioned = first_mentioned (defined_by C k t) (defined_by C k s) (chopped C h) f

  pub intervals_mentioned : AllMentioned l (defined_by C k s)
  intervals_mentioned = then_mentioned (defined_by C k t) (defined_by C k s) (chopped C h) f
