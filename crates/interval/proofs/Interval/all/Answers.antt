-- Where the last row ends, as many intervals stand before
-- as there are.
use native.Mathlib.Omega.{arith}
use Prim.Native.Nat.{◌+◌}
use native.Mathlib.Numerals.{add-one}
use mathlib.Core.Path.{ap}
use Rattle.interval.specs.Rows.{start_of}
use Rattle.interval.proofs.Counts.{intervals_count, few_intervals}
use Rattle.interval.proofs.Interval.all.Goals as goal

pub returns : goal.returns
returns c =
    let k = c.args.k in
    omega (arith, c.requires.1.at (k + 1) (omega arith), ap (start_of k) (add-one k), intervals_count k, few_intervals k c.requires.0)
