-- `table_at` gives, for every tree that stands at the row, the table of its truth: by kind, from the tables or the word of the parts
-- (Steps.antt). It ends, since a node with parts stands in the table and its parts stand after it.
use Rattle.std.proofs.Common.{◌-◌}
use Rattle.paper_grammar.specs.Limits.{max_nodes}
use Rattle.truth_rows.proofs.+table_at.Given as goal

abbrev pub decreases-table_at : goal.decreases-table_at
decreases-table_at l = max_nodes - l.x
