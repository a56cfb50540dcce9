-- `begun_rows` keeps: the rows so far, and those that begin at the bytes that are left, are all the rows.
-- A byte that begins no node changes nothing of them; at a first byte there is still room, since there are at most 64.
use Rattle.std.proofs.Common.{sym, ◌∙◌, rules}
use Rattle.node_rows.proofs.Begun.{bytes_most, begun_skip, begun_room, begun_more, begun_done}
use Rattle.node_rows.proofs.begun_rows.Goals as goal
use Rattle.node_rows.proofs.begun_rows.Goals.{then-is_start, else-is_start}

pub bounds-table-x : goal.bounds-table-x
bounds-table-x c =
    let a = c.requires in
    begun_room a.0 a.1 _ a.2 _ _ _ c.loop-i.invariant c.loop-i-test.true _ c.code_after-code.ensures (sym c.is_start.ensures ∙ c.if-is_start.true)

pub overflow_cast-table : goal.overflow_cast-table
overflow_cast-table c = let a = c.requires in let m = bytes_most a.0 a.1 _ a.2 in search rules

pub bounds-table-x-then-is_start : goal.bounds-table-x-then-is_start
bounds-table-x-then-is_start c =
    let a = c.requires in
    begun_room a.0 a.1 _ a.2 _ _ _ c.loop-i.invariant c.loop-i-test.true _ c.code_after-code.ensures (sym c.is_start.ensures ∙ c.if-is_start.true)

pub overflow_add-table : goal.overflow_add-table
overflow_add-table c =
    let a = c.requires in
    let m = begun_room a.0 a.1 _ a.2 _ _ _ c.loop-i.invariant c.loop-i-test.true _ c.code_after-code.ensures (sym c.is_start.ensures ∙ c.if-is_start.true) in
    search rules

pub loop-i-preserved : goal.loop-i-preserved
loop-i-preserved c =
    let a = c.requires in
    let i = c.loop-i.invariant in
    elim c.if-is_start.branch [
      | then-is_start w ↦ rw w.table-is (begun_more a.0 a.1 _ a.2 _ _ _ i c.loop-i-test.true _ c.code_after-code.ensures (sym c.is_start.ensures ∙ w.if-is_start.true))
      | else-is_start w ↦ rw w.table-is (begun_skip a.0 a.1 _ a.2 _ _ _ i c.loop-i-test.true _ c.code_after-code.ensures (sym c.is_start.ensures ∙ w.if-is_start.false))
    ]

pub returns : goal.returns
returns c = let a = c.requires in begun_done a.0 a.1 _ a.2 _ _ _ c.loop-i.invariant c.loop-i-test.false
