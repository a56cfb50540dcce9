-- The next position is that of the next place,
-- if the block has one more (Walk.antt).
use mathlib.Core.Path.{refl}
use Rattle.table_nodes.proofs.Walk.{goes_on, small_here}
use Rattle.table_nodes.proofs.cursor.Cursor.next.Goals as goal

pub next-requires : goal.next-requires
next-requires c = small_here c.requires.1 c.requires.2 c.requires.0

pub returns : goal.returns
returns c = (goes_on c.requires.1 c.requires.2 c.next.ensures, refl)
