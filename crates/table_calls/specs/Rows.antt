-- What the call does with an accepted formula's node table. Nothing here need be believed: no call open to others cites it.
use Rattle.std.specs.Prelude.{List, [], ◌∷◌, ℕ, length}
use Rattle.refusal.specs.Asked.{asked}
use Rattle.paper_grammar.specs.Trees.{Tree}
use Rattle.paper_grammar.specs.declared.Sort.TheVariants.{Formula}
use Rattle.paper_clauses.specs.Clauses.{clause_table}
use Rattle.paper_clauses.specs.Entries.{flat}
use Rattle.table_calls.specs.Table.{After, sizes_of, ask_room, refused, written_table}

unfoldable pub tabled_by : ℕ → ℕ → Tree Formula → List ℕ → List ℕ → List ℕ → After
tabled_by C k f sizes variables marks =
    asked (ask_room (length (flat (clause_table C k f))) (length sizes) (length variables) (length marks) ∷ []) (refused sizes variables marks)
    (written_table (sizes_of C k f) (flat (clause_table C k f)) sizes variables marks)
