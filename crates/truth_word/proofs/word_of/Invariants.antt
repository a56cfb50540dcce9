-- `word_of` goes byte by byte: at each turn the word is that of the bytes before t and has no bit beyond,
-- so that bit t is added to a 0.
use Rattle.paper_meaning.specs.Meaning.{channel_at}
use Rattle.paper_meaning.proofs.Words.{Packed}
use Rattle.truth_word.proofs.word_of.Given as goal

abbrev pub invariant-loop-t : goal.invariant-loop-t
invariant-loop-t l = Packed l.t (channel_at l.bytes l.c) l.word
