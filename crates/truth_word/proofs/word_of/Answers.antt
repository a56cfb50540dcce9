-- `word_of` goes byte by byte: at each turn the word is that of the bytes before t and has no bit beyond,
-- so that bit t is added to a 0.
use mathlib.Core.Path.{ap, ◌∙◌}
use Prim.Native.Nat.{ℕ, ◌<◌}
use native.Mathlib.Omega.{arith}
use lib.Seq.{length-take-le, get_or-take}
use Rattle.paper_meaning.specs.Meaning.{bit, bit_at, channel_at}
use Rattle.truth_word.proofs.Words.{width, packed_more}
use Rattle.truth_word.proofs.word_of.Goals as goal

pub loop-t-preserved : goal.loop-t-preserved
unfolding channel_at
loop-t-preserved c =
    let a = c.args in
    let l = c.loop-t in
    let h : l.t < a.k = omega (arith, length-take-le a.k a.bytes.now c.requires.0) in
    let e = c.from.ensures ∙ c.bit_of.ensures ∙ ap (λ (b : ℕ). bit (bit_at b a.c)) (get_or-take a.k a.bytes.now l.t 0 h) in
    packed_more width l.t (omega arith) e l.invariant
