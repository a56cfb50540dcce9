-- Before the first that is high all are low; where none is, all are.
-- `ranges` says what came at place e where something is read at e, so x reads there.
use Rattle.std.proofs.Common.{◌≡◌, get_or, refl, rules}
use Rattle.std.proofs.iter.runs.Sources.{ranges}
use Rattle.check_gate.proofs.first_high.Goals as goal

pub returns : goal.returns
returns c =
    let a = c.args.assignment.now in record {
      upto = search (rules, ranges);
      low = λ e l. let x : get_or a e 0 ≡ get_or a e 0 = refl in search (rules, ranges);
      high = λ l. search (rules, ranges);
    }
