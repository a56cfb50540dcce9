-- A duration's truth is its last level, after n levels of I variables;
-- any other node's truth is its first variables (Rows.antt).
use Rattle.table_layout.proofs.Rows.{seat_lasting, seat_other, level_low}
use native.Mathlib.Omega.{arith}
use borrow.Author.Rules.{rules}
use mathlib.Core.Path.{◌∙◌}
use Rattle.table_layout.proofs.seat.Goals as goal

pub returns-then-byte_at-eq-FORMULA_DURATION : goal.returns-then-byte_at-eq-FORMULA_DURATION
returns-then-byte_at-eq-FORMULA_DURATION c = (
  seat_lasting _ _ _ _ _ c.number_at-first.ensures c.byte_at.ensures c.if-byte_at-eq-FORMULA_DURATION.true (c.from-n.ensures ∙ c.byte_at-then-byte_at-eq-FORMULA_DURATION.ensures) c.count.ensures.0,
  omega (
    arith,
    level_low c.from-n.result c.count.result (search rules) (search rules),
    c.number_at-first.ensures,
    c.requires.1 c.args.y,
  ),
)

pub returns : goal.returns
returns c =
    (seat_other _ _ _ _ _ c.number_at-first.ensures c.byte_at.ensures c.if-byte_at-eq-FORMULA_DURATION.false, omega (arith, c.number_at-first.ensures, c.requires.1 c.args.y))
