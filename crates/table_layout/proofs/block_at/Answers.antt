-- Each field is the one that the row gives;
-- its numbers are low, since first variables are (Rows.antt).
use Rattle.table_layout.proofs.Rows.{block_read, block_fine}
use borrow.Author.Rules.{rules}
use Rattle.table_layout.proofs.block_at.Goals as goal

pub returns : goal.returns
returns c =
    let a = c.args in record {
      value = block_read _ _ _ _ _ _ _ c.rule_of.ensures c.number_at.ensures c.byte_at-kind.ensures c.byte_at.ensures c.second.ensures.0
          c.points_of.ensures.0 c.seat-left.ensures.0 c.seat-right.ensures.0;
      by_index = block_fine a.kinds.now a.numbers.now a.sizes.now a.firsts.now a.k a.x _ c.rule_of.ensures c.number_at.ensures (search rules)
          (search rules) c.requires.2 c.points_of.ensures.1 c.seat-left.ensures.1 c.seat-right.ensures.1;
    }
