-- `joined_word` does bit by bit what `&` or `|` does instant by instant:
-- either way it is the definition's.
use mathlib.Core.Path.{◌≡◌}
use mathlib.Core.Bool.{cond}
use lib.Bits.{bit_and, bit_or}
use borrow.Author.Rules.{rules}
use Rattle.truth_word.proofs.Words.{word_joined}
use Rattle.truth_word.proofs.joined_word.Goals as goal

pub returns : goal.returns
returns c =
    let a = c.args in
    let e : c.joined.result ≡ cond a.both (bit_and a.a a.b) (bit_or a.a a.b) = search rules in
    λ k f g P Q. rw e (word_joined a.both P Q)
