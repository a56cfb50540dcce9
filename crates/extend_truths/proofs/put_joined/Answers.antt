-- `put_joined` joins the bytes of place e at turn e; both are bits, which join as truths do,
-- so the slice is filled by the joined truths.
use mathlib.Core.Path.{ap₂, ◌∙◌}
use native.Mathlib.Omega.{arith}
use Rattle.lists.proofs.Listing.{listed}
use Rattle.truth_table.specs.Table.{joined_byte}
use Rattle.truth_table.proofs.Joined.{joined_bits}
use Rattle.extend_truths.proofs.put_joined.Goals as goal

pub returns : goal.returns
returns c =
    let both = c.args.both in
    let l = c.loop-e in
    listed _ (omega arith) (λ y h. l.invariant y (omega arith) ∙ ap₂ (joined_byte both) (c.requires.1.at y) (c.requires.2.at y) ∙ joined_bits both _ _)
