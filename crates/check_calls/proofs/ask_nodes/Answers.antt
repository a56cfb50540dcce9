-- After x turns the clauses of the first x nodes are met;
-- a turn asks about the next node's, and the first no answers (Table.antt).
use Rattle.std.proofs.lemmas.Result.{err_from_is_err_and}
use Rattle.table_layout.proofs.Mentioned.{row_mentioned}
use Rattle.check_calls.proofs.Table.{none_met, all_met, row_met, row_unmet, row_number, block_mentioned, block_asked}
use Rattle.table_layout.specs.Rows.{row_definitions}
use Rattle.paper_assignments.specs.Extension.{value_in}
use native.Mathlib.Omega.{arith}
use borrow.Author.Rules.{rules}
use Rattle.check_calls.proofs.ask_nodes.Goals as goal

pub loop-x-init : goal.loop-x-init
loop-x-init c = (omega arith, none_met _ _)

pub block_at-block-requires : goal.block_at-block-requires
block_at-block-requires c = let p = c.requires.c_le_max_channels in (p.1, omega (arith, p.2, c.loop-x-test.true), p.3)

pub ask_node-requires : goal.ask_node-requires
ask_node-requires c =
    let e = c.block_at-block.ensures in
    record { fine = (e.by_index c.args.c c.requires.c_le_max_channels.0, c.requires.c_le_max_channels.4 _, c.requires.c_le_max_channels.5); all_mentioned = block_mentioned _ _ e.value _ (row_mentioned _ (search rules) c.requires.all_mentioned) }

pub returns-in_err-ask_node : goal.returns-in_err-ask_node
returns-in_err-ask_node c =
    let p = err_from_is_err_and c.from_residual.result c.from_residual.ensures.1 in
    let a = c.args in
    let l = c.loop-x in
    rw (p.1, p.2) (row_unmet (row_definitions a.c a.k a.table.kinds a.table.numbers a.table.sizes a.firsts.now) {n = a.table.count} c.loop-x-test.true
    (value_in a.assignment.now) (row_number a.c a.k a.table.kinds a.table.numbers a.table.sizes a.firsts.now l.x
    (c.requires.by_index l.x c.loop-x-test.true)) l.invariant.1
    (block_asked a.c a.k c.block_at-block.ensures.value (value_in a.assignment.now) _ c.ask_node.ensures) c.in_err-ask_node.was)

pub loop-x-preserved : goal.loop-x-preserved
loop-x-preserved c =
    let a = c.args in
    let l = c.loop-x in (
      omega (arith, c.loop-x-test.true),
      row_met (row_definitions a.c a.k a.table.kinds a.table.numbers a.table.sizes a.firsts.now) {n = a.table.count} (omega (arith, c.loop-x-test.true))
          (value_in a.assignment.now) (row_number a.c a.k a.table.kinds a.table.numbers a.table.sizes a.firsts.now l.x
          (c.requires.by_index l.x (omega (arith, c.loop-x-test.true)))) l.invariant.1
          (block_asked a.c a.k c.block_at-block.ensures.value (value_in a.assignment.now) _ c.ask_node.ensures) c.in_ok-ask_node.was,
    )

pub returns : goal.returns
returns c = all_met _ _ c.loop-x.invariant.0 (omega (arith, c.loop-x-test.false)) c.loop-x.invariant.1
