-- Each field is the one that the row gives (table_layout's Rows);
-- a part's seat is read from the column of seats, past whose end all is 0 (Seats.antt).
use mathlib.Core.Path.{◌≡◌}
use lib.ListN.{length}
use borrow.Author.Rules.{rules}
use Rattle.paper_grammar.specs.Limits.{max_nodes}
use Rattle.table_layout.proofs.Rows.{block_read, block_fine}
use Rattle.search_fanout.proofs.Seats.{seat_told}
use Rattle.search_fanout.proofs.Wiring.block_of.Goals as goal

pub returns : goal.returns
returns c =
    let w = c.args.self.now in let x = c.args.x in let d : length w.table.kinds ≡ max_nodes = search rules in
    let e : length w.firsts ≡ max_nodes = search rules in let f : length w.seats ≡ max_nodes = search rules in
    let l = seat_told w.table.kinds w.table.numbers w.firsts w.seats w.k c.requires.3 d e f _ c.number_at-left.ensures in
    let r = seat_told w.table.kinds w.table.numbers w.firsts w.seats w.k c.requires.3 d e f _ c.number_at-right.ensures in record {
      value = block_read _ _ _ _ _ _ _ c.rule_of.ensures c.number_at.ensures c.byte_at-kind.ensures c.byte_at.ensures c.second.ensures.0
          c.points_of.ensures.0 l.0 r.0;
      by_index = block_fine w.table.kinds w.table.numbers w.table.sizes w.firsts w.k x _ c.rule_of.ensures c.number_at.ensures (search rules)
          (search rules) c.requires.2 c.points_of.ensures.1 l.1 r.1;
    }
