-- The promise of a call that writes places to the two arrays: F from a place on, up to another.
use Rattle.std.specs.Prelude.{List, ℕ}
use Rattle.moments.specs.Moments.{old, new, Slice}
use Rattle.paper_clauses.specs.Entries.{Entry}
use Rattle.table_literals.specs.Written.{Wrote}

abbrev pub Writes : Slice → Slice → ℕ → List Entry → ℕ → Type 0
Writes variables marks at F end = Wrote (old variables) (old marks) at F (new variables) (new marks) end
