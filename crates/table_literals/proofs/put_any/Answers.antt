-- First a clause for each input, then the long one,
-- as the definition lists them (Any.antt).
use Rattle.table_literals.proofs.Written.{and_then, named, room_first, room_next}
use Rattle.table_literals.proofs.Any.{any_flat}
use Rattle.table_literals.specs.Written.{raised_of, long_of}
use Rattle.lists.specs.Listing.{rows}
use borrow.Author.Rules.{rules}
use Rattle.table_literals.proofs.put_any.Goals as goal

pub put_raised-b-requires : goal.put_raised-b-requires
put_raised-b-requires c =
    let a = c.args in
    record { room = room_first c.requires.room (rows a.n (raised_of a.v a.w)) (long_of a.v a.w a.n) (any_flat a.v a.w a.n c.requires.le_n.0); n_bound = search rules }

pub put_long-requires : goal.put_long-requires
put_long-requires c =
    let a = c.args in record { room = room_next c.requires.room (rows a.n (raised_of a.v a.w)) (long_of a.v a.w a.n) (any_flat a.v a.w a.n c.requires.le_n.0) c.put_raised-b.ensures; le_n = search rules }

pub returns : goal.returns
returns c =
    let a = c.args in
    named (any_flat a.v a.w a.n c.requires.le_n.0) (and_then c.put_raised-b.ensures c.put_long.ensures)
