-- The columns are filled one after another,
-- each with what it shows.
use native.Mathlib.Omega.{arith}
use Rattle.lists.proofs.Listing.{listed}
use Rattle.strip_lines.proofs.put_columns.Goals as goal

pub returns : goal.returns
returns c = listed _ (omega arith) (λ y h. c.loop-t.invariant y (omega arith))
