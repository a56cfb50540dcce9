-- The first e variables of the part are written.
use Rattle.std.proofs.Common.{◌≡◌, ◌+◌, take}
use Rattle.lists.specs.Listing.{tab}
use Rattle.table_literals.proofs.put_run.Given as goal

abbrev pub invariant-loop-e : goal.invariant-loop-e
invariant-loop-e l = take l.e l.v-items ≡ tab l.e (λ e. l.w + e)
