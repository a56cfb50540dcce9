-- What names no variable of another node in a chop: neither its block, nor its parts' truth.
-- And what was found there, by the code's answer and blocks.
use mathlib.Core.Path.{◌≡◌, sym, ap, ◌∙◌, subst}
use mathlib.Core.Logic.{⊎_elim}
use mathlib.Core.Bool.{false}
use mathlib.Core.List.{List}
use Prim.Native.Nat.{ℕ, ◌+◌}
use Rattle.interval.specs.Places.{count_of}
use Rattle.paper_circuit.proofs.Blocks.{From}
use Rattle.table_blocks.specs.declared.Block.{Block}
use Rattle.table_blocks.specs.declared.Rule.TheVariants.{Chop, Cut}
use Rattle.paper_clauses.specs.Clauses.{Clause}
use Rattle.table_nodes.specs.Nodes.{triple_block}
use Rattle.search_closing.specs.declared.Closed.{Closed}
use Rattle.search_fanout.specs.Walks.{first_clauses, second_clauses}
use Rattle.search_fanout.specs.Fanout.{Reached, node_clauses, InBlock, Laid}
use Rattle.search_fanout.proofs.Cover.{Unnamed}
use Rattle.search_fanout.proofs.Near.{away}

module _ (C k u : ℕ) (b : Block) (j : Laid C k b) (n : InBlock k b u → ⊥) where
  pub chop_away : b.rule ≡ Chop → (From b.left (count_of k) u → ⊥) → (From b.right (count_of k) u → ⊥) → Unnamed (node_clauses C k b) u
  chop_away e s t = away C k u b e n (⊎_elim s t)

pub stopped : {T : List Clause} {u : ℕ} {values trail : List ℕ} {top : ℕ} {r : Closed} → r ≡ record { clash = false; top = top }
    → Reached T u values trail top values trail (record { clash = false; top = top }) → Reached T u values trail top values trail r
stopped {T} {u} {values} {trail} {top} e w = subst (λ (r : Closed). Reached T u values trail top values trail r) (sym e) w

pub cut_rule : (w : ℕ) (b : Block) {t : Block} → t ≡ triple_block w b → t.rule ≡ Cut
cut_rule w b e = ap (λ (t : Block). t.rule) e

module _ (C k : ℕ) (b : Block) (i j : ℕ) {w : ℕ} {t : Block} (e : w ≡ b.first + count_of k) (f : t ≡ triple_block w b) where
  triples_known : t ≡ triple_block (b.first + count_of k) b
  triples_known = f ∙ ap (λ (w : ℕ). triple_block w b) e

  pub first_named : first_clauses C k t i j ≡ first_clauses C k (triple_block (b.first + count_of k) b) i j
  first_named = ap (λ (t : Block). first_clauses C k t i j) triples_known

  pub second_named : second_clauses C k t i j ≡ second_clauses C k (triple_block (b.first + count_of k) b) i j
  second_named = ap (λ (t : Block). second_clauses C k t i j) triples_known
