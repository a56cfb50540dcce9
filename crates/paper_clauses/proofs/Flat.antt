-- The places of clauses joined are theirs, joined:
-- a clause's places turn on that clause alone.
use mathlib.Core.Path.{◌≡◌}
use mathlib.Core.List.{List, ◌++◌}
use Prim.Native.Nat.{◌+◌}
use lib.ListN.{length, length-append}
use Rattle.lists.proofs.Lists.{flat_append}
use Rattle.paper_clauses.specs.Clauses.{Clause}
use Rattle.paper_clauses.specs.Entries.{entries_of, flat}

pub flat_join : (S T : List Clause) → flat (S ++ T) ≡ flat S ++ flat T
unfolding flat
flat_join S T = flat_append entries_of S T

pub length_flat_join : (S T : List Clause) → length (flat (S ++ T)) ≡ length (flat S) + length (flat T)
length_flat_join S T = rw flat_join (length-append (flat S) (flat T))
