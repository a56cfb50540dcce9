-- The ones of the channel's word before k
-- are the instants at which the channel is high.
use mathlib.Core.Path.{◌≡◌, ap, ◌∙◌}
use Prim.Native.Nat.{◌-◌}
use native.Mathlib.Omega.{arith}
use lib.ListN.{length}
use Rattle.paper_meaning.specs.Meaning.{highs}
use Rattle.truth_word.proofs.Words.{word_highs}
use Rattle.strip_lines.proofs.count.Goals as goal

pub returns : goal.returns
returns c =
    let k = length c.args.recording.now in
    let n = c.count_high.ensures in let e : k - 0 ≡ k = omega arith in
    (n.0 ∙ ap (highs _ 0) e ∙ word_highs 0 k c.word_of-word.ensures (omega arith), omega (arith, n.1))
