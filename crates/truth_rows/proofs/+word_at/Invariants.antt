-- `word_at` gives, for every tree that stands at the row, the word of its truth: by kind, from the words of the parts (Steps.antt).
-- It ends, since a node with parts stands in the table and its parts stand after it.
use Rattle.std.proofs.Common.{◌-◌}
use Rattle.paper_grammar.specs.Limits.{max_nodes}
use Rattle.truth_rows.proofs.+word_at.Given as goal

abbrev pub decreases-word_at : goal.decreases-word_at
decreases-word_at l = max_nodes - l.x
