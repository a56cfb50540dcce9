-- A chop has two blocks, any other node one (Nodes.antt of table_nodes);
-- a constant's is asked variable after variable (Walk.antt).
use Rattle.table_gates.specs.Mentioned.{AllMentioned}
use Rattle.check_clauses.proofs.Walk.{constants_mentioned, constants_asked, node_asked}
use Rattle.table_nodes.proofs.Nodes.{node_known}
use mathlib.Core.Path.{sym, subst}
use native.Mathlib.Omega.{arith}
use Rattle.check_clauses.proofs.ask_node.Goals as goal

pub ask_chop-requires : goal.ask_chop-requires
ask_chop-requires c =
    record { fine = c.requires.fine; all_mentioned = subst (AllMentioned _) (sym (node_known _ _ c.args.block c.is_chop.ensures c.if-is_chop.true)) c.requires.all_mentioned }

pub returns-then-is_chop : goal.returns-then-is_chop
returns-then-is_chop c =
    node_asked _ _ _ _ c.args.block c.is_chop.ensures c.if-is_chop.true c.ask_chop.ensures

pub ask_constants-requires : goal.ask_constants-requires
ask_constants-requires c =
    let d = subst (AllMentioned _) (sym (node_known _ _ c.args.block c.is_chop.ensures c.if-is_chop.false)) c.requires.all_mentioned in
    (c.requires.fine.0.bounded.first, c.requires.fine.0.points, omega (arith, c.requires.fine.1), constants_mentioned _ _ c.args.block c.in-Fixed.is d)

pub returns-in-Fixed : goal.returns-in-Fixed
returns-in-Fixed c =
    node_asked _ _ _ _ c.args.block c.is_chop.ensures c.if-is_chop.false (constants_asked _ _ c.args.block c.in-Fixed.is _ _ c.ask_constants.ensures)

pub ask_block-requires : goal.ask_block-requires
ask_block-requires c =
    record { bounded = ((c.requires.fine.0.bounded, c.requires.fine.0.points), omega (arith, c.requires.fine.1), c.requires.fine.2); all_mentioned = subst (AllMentioned _) (sym (node_known _ _ c.args.block c.is_chop.ensures c.if-is_chop.false)) c.requires.all_mentioned }

pub returns : goal.returns
returns c =
    node_asked _ _ _ _ c.args.block c.is_chop.ensures c.if-is_chop.false c.ask_block.ensures
