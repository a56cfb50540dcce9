-- The five sizes are stored from the first place on;
-- what stands beyond them stays (Stored.antt of lists).
use Rattle.table_calls.specs.Table.{five_of}
use Rattle.lists.proofs.Stored.{stored_over}
use Rattle.table_calls.proofs.put_sizes.Goals as goal

pub returns : goal.returns
returns c =
    let a = c.args in stored_over (five_of a.s) a.sizes.now c.store.ensures c.requires
