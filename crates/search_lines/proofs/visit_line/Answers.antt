-- A line's place is its cell, and its block is the node's only one.
-- The visit of the gate there is all.
use Rattle.search_fanout.proofs.Stands.{whole_stands}
use Rattle.search_lines.proofs.Places.{line_placed}
use Rattle.table_blocks.proofs.Rules.{line_rule}
use Rattle.search_lines.proofs.visit_line.Goals as goal

pub visit_line-requires : goal.visit_line-requires
visit_line-requires c =
    let a = c.args in let b = a.block in
    record { standing = (whole_stands c.requires.0 (line_rule 0 b.rule c.requires.1).1, c.requires.1); placed = line_placed b.points a.k a.x c.requires.2 b.rule c.requires.1 }
