-- The byte at the variable's place is compared with the value of the opposite literal,
-- which the mark's sign gives (Held.antt).
use Rattle.search_closing.proofs.Held.{opposed_mark}
use Rattle.search_closing.proofs.opposed.Goals as goal

pub returns : goal.returns
returns c = opposed_mark _ _ c.args.mark _ c.place.ensures
