-- A chop has two blocks, any other node one
-- (Nodes.antt).
use Rattle.table_nodes.proofs.Nodes.{places_known}
use Rattle.table_literals.specs.Written.{Room}
use Rattle.table_literals.proofs.Written.{named}
use mathlib.Core.Path.{sym, subst}
use Rattle.table_nodes.proofs.put_node.Goals as goal

pub put_chop-requires : goal.put_chop-requires
put_chop-requires c =
    record { room = subst (Room _ _ _) (sym (places_known _ _ _ c.is_chop.ensures c.if-is_chop.true)) c.requires.room; fine = c.requires.fine }

pub returns-then-is_chop : goal.returns-then-is_chop
returns-then-is_chop c =
    named (places_known _ _ _ c.is_chop.ensures c.if-is_chop.true) c.put_chop.ensures

pub put_block-requires : goal.put_block-requires
put_block-requires c =
    record { room = subst (Room _ _ _) (sym (places_known _ _ _ c.is_chop.ensures c.if-is_chop.false)) c.requires.room; bounded = (c.requires.fine.0.bounded, c.requires.fine.0.points, c.requires.fine.1) }

pub returns : goal.returns
returns c =
    named (places_known _ _ _ c.is_chop.ensures c.if-is_chop.false) c.put_block.ensures
