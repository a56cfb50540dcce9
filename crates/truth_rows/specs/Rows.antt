-- What evaluating tells of a row of the node table. Nothing here need be believed: no call open to others cites it.
use Rattle.std.specs.Prelude.{Bool, List, ℕ}
use Rattle.paper_grammar.specs.Limits.{max_channels}
use Rattle.paper_grammar.specs.Trees.{Tree, Letters}
use Rattle.paper_grammar.specs.declared.Sort.{Sort}
use Rattle.node_calls.specs.Parts.{Stands}
use Rattle.paper_meaning.specs.Meaning.{Point, truth}

-- R is told of the truth of every tree that stands at row x
abbrev pub AtRow : List ℕ → List ℕ → List ℕ → List ℕ → (s : Sort) → ℕ → ((Point s → Bool) → Type 0) → Type 0
AtRow recording kinds numbers sizes s x R = (f : Tree s) → Letters max_channels f → Stands kinds numbers sizes x f → R (truth recording f)
