-- `window` takes the instants before i from those before j:
-- the ones that both have cancel.
use lib.Pow.{pow_mono}
use native.Mathlib.Omega.{arith}
use Rattle.truth_word.proofs.window.Goals as goal

pub overflow_sub-result : goal.overflow_sub-result
overflow_sub-result c = let o = c.requires in
    let a = c.args in
    omega (arith, o.2.before a.i (omega arith), o.2.before a.j o.1, pow_mono o.0)
