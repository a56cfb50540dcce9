-- The row's rule and points are those of its block, so `weigh` gives what the block weighs;
-- to a chop's intervals' block comes its triples'.
use native.Mathlib.Omega.{arith}
use borrow.Author.Rules.{rules}
use Rattle.table_sizes.proofs.Rows.{row_light, row_chop, row_other}
use Rattle.table_sizes.proofs.row_weight.Goals as goal

pub weigh-own-requires : goal.weigh-own-requires
weigh-own-requires c = row_light _ _ c.rule_of-rule.ensures (search rules) (omega arith) (search rules)

pub returns-then-is_chop : goal.returns-then-is_chop
returns-then-is_chop c = (
  row_chop _ _ _ _ c.points_of-points.ensures.0 c.rule_of-rule.ensures c.is_chop.ensures c.if-is_chop.true
      c.weigh-own.ensures.0 c.weigh.ensures.0,
  omega arith,
)

pub returns-else-is_chop : goal.returns-else-is_chop
returns-else-is_chop c = (
  row_other _ _ _ _ c.points_of-points.ensures.0 c.rule_of-rule.ensures c.is_chop.ensures c.if-is_chop.false
      c.weigh-own.ensures.0,
  omega arith,
)
