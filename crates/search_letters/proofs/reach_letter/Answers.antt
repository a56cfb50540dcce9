-- A row is told to be a letter of the channel by its rule; its block is then one line, which has the gate at the instant.
-- Of any other row nothing is visited.
use mathlib.Core.Path.{refl, ap, ◌∙◌}
use native.Mathlib.Omega.{arith}
use Rattle.search_fanout.specs.Fanout.{speaks}
use Rattle.search_fanout.proofs.Letters.{letter_speaks, letter_visited, letter_passed}
use Rattle.search_letters.proofs.Rows.{node_at, speaks_line, visited_done}
use Rattle.search_letters.proofs.reach_letter.Goals as goal

pub visit_line-requires : goal.visit_line-requires
visit_line-requires c =
    let a = c.args in let w = a.wiring.now in let g = c.requires.on_ground.0 in
    let n = node_at a.x g refl c.requires.x_lt_count.0 c.block_of-block.ensures.value (c.block_of-block.ensures.by_index w.c g.channels) c.requires.on_ground.1 in
    let l = speaks_line w.c w.k c.block_of-block.result a.e c.block_of-block.result.rule
    (letter_speaks w.c w.k w.table.kinds w.table.numbers w.table.sizes w.firsts a.t a.e a.x
    (c.speaks_of.ensures ∙ ap (speaks a.e) c.rule_of-rule.ensures) c.if-speaks_of.true c.block_of-block.ensures.value) n.laid.voiced in
    (n, l.0, omega (arith, l.1, c.requires.x_lt_count.1))

pub returns-then-speaks_of : goal.returns-then-speaks_of
returns-then-speaks_of c =
    let a = c.args in let w = a.wiring.now in
    letter_visited w.c w.k w.table.kinds w.table.numbers w.table.sizes w.firsts a.t a.e a.x
    (c.speaks_of.ensures ∙ ap (speaks a.e) c.rule_of-rule.ensures) c.if-speaks_of.true c.block_of-block.ensures.value c.visit_line.ensures

pub returns : goal.returns
returns c =
    let a = c.args in let w = a.wiring.now in
    visited_done c.done.ensures (letter_passed w.c w.k w.table.kinds w.table.numbers w.table.sizes w.firsts a.t a.e a.x
    (c.speaks_of.ensures ∙ ap (speaks a.e) c.rule_of-rule.ensures) c.if-speaks_of.false c.requires.on_ground.1)
