-- `measured_on` compares the count of ones under the interval's window with how many must be high:
-- n of them for a duration, and every instant is high exactly where as many are (Measuring.antt).
use Rattle.truth_table.proofs.Joined.{from_bit}
use Rattle.truth_table.proofs.Measuring.{measured_least}
use Rattle.paper_meaning.specs.Meaning.{bit, bit_at}
use lib.Dec.{leb}
use mathlib.Core.Path.{ap, ap₂, ◌∙◌}
use Rattle.truth_table.proofs.measured_on.Goals as goal

pub returns : goal.returns
returns c =
    let a = c.args in
    c.from.ensures ∙ from_bit _ ∙ ap bit (ap₂ leb c.least_on.ensures c.count_high.ensures.0 ∙
    measured_least a.measure (bit_at a.word) (record { i = a.i; j = a.j }))
