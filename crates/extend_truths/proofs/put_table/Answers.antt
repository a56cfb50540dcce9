-- `put_table` copies the table's first bytes, as many as the slice has:
-- these are its listing.
use mathlib.Core.Path.{ap, ◌∙◌}
use mathlib.Core.List.{List}
use Prim.Native.Nat.{ℕ}
use lib.ListN.{length, get_or}
use lib.Seq.{get_or-take}
use Rattle.lists.proofs.Listing.{listed}
use Rattle.extend_truths.proofs.put_table.Goals as goal

pub returns : goal.returns
returns c =
    let n : ℕ = length c.args.out.now in
    let t = c.args.t.now in
    listed _ c.copy_from_slice.ensures.len (λ y h. ap (λ (l : List ℕ). get_or l y 0) c.copy_from_slice.ensures.after ∙ get_or-take n t y 0 h)
