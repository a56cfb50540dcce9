-- A node's block stands as what it is: one block, or the two of a chop,
-- its intervals and its triples.
use mathlib.Core.Path.{◌≡◌, subst}
use mathlib.Core.Bool.{Bool, true, false}
use mathlib.Core.List.{List}
use Prim.Native.Nat.{ℕ}
use lib.ListN.{length}
use Rattle.table_blocks.specs.Blocks.{is_chop}
use Rattle.table_blocks.specs.declared.Block.{Block}
use Rattle.table_blocks.specs.declared.Rule.{Rule}
use Rattle.table_blocks.specs.declared.Rule.TheVariants.{Chop}
use Rattle.table_gates.specs.Mentioned.{AllMentioned}
use Rattle.table_nodes.specs.Nodes.{node_by}
use Rattle.table_nodes.proofs.Nodes.{Halves, triples_bounded, intervals_bounded}
use Rattle.table_nodes.proofs.Mentioned.{triples_mentioned, intervals_mentioned}
use Rattle.search_fanout.specs.Walks.{Standing}
use Rattle.search_fanout.specs.Fanout.{Node}

module _ {C k : ℕ} {b : Block} {values trail : List ℕ} {top : ℕ} (w : Node C k b values trail top) where
  pub whole_stands : is_chop b.rule ≡ false → Standing C k b values trail top
  whole_stands e = record {
    bounded = w.fine.bounded;
    points = w.fine.points;
    mentioned = subst (λ (c : Bool). AllMentioned (length values) (node_by C k b c)) e w.mentioned;
    trailing = w.trailing;
  }

  module _ {t s : Block} (e : b.rule ≡ Chop) (h : Halves k b t s) where
    chopped_mentioned : AllMentioned (length values) (node_by C k b true)
    chopped_mentioned = subst (λ (r : Rule). AllMentioned (length values) (node_by C k b (is_chop r))) e w.mentioned

    pub triples_stand : Standing C k t values trail top
    triples_stand = let f = triples_bounded C h w.fine in record { bounded = f.0; points = f.1; mentioned = triples_mentioned C h chopped_mentioned; trailing = w.trailing }

    pub intervals_stand : Standing C k s values trail top
    intervals_stand = let f = intervals_bounded C h w.fine in record { bounded = f.0; points = f.1; mentioned = intervals_mentioned C h chopped_mentioned; trailing = w.trailing }
