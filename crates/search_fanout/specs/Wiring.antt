-- What the queue goes by, as one value: the clauses that it stands for, and what stays as it is while a formula is searched. Nothing here
-- need be believed: no call open to others cites it.
use Rattle.std.specs.Prelude.{◌≡◌, List, ℕ, ◌+◌}
use Rattle.interval.specs.Places.{count_of}
use Rattle.paper_clauses.specs.Clauses.{Clause}
use Rattle.table_blocks.specs.declared.Block.{Block}
use Rattle.table_layout.specs.Rows.{seat_by, block_by}
use Rattle.search_decode.specs.Decode.{Tables}
use Rattle.search_clauses.specs.Clauses.{nodes_by, table_by}
use Rattle.search_fanout.specs.Fanout.{Ground, letter_at}
use Rattle.search_fanout.specs.declared.Wiring.{Wiring}

-- all clauses: the nodes' and the root
abbrev pub clauses_in : Wiring → List Clause
clauses_in w = table_by w.c w.k w.table.kinds w.table.numbers w.table.sizes w.firsts w.table.count

-- those of the first n nodes
abbrev pub nodes_in : Wiring → ℕ → List Clause
nodes_in w n = nodes_by w.c w.k w.table.kinds w.table.numbers w.table.sizes w.firsts n

-- the variable of row 0 on [0, k]
abbrev pub root_in : Wiring → ℕ
root_in w = seat_by w.table.kinds w.table.numbers w.firsts w.k 0 + w.k

-- the block of the node at row x
abbrev pub block_in : Wiring → ℕ → Block
block_in w x = block_by w.table.kinds w.table.numbers w.table.sizes w.firsts w.k x

-- the clauses at instant t of row x, if it is channel e's letter
abbrev pub letter_in : Wiring → ℕ → ℕ → ℕ → List Clause
letter_in w t e x = letter_at w.c w.k w.table.kinds w.table.numbers w.table.sizes w.firsts t e x

-- its rows are a ground, `all` being how many variables there are
abbrev pub OnGround : Wiring → ℕ → Type 0
OnGround w all = Ground w.c w.k w.table.kinds w.table.numbers w.table.sizes w.firsts w.seats w.parents w.table.count all

-- its tables are those of k steps, and `all` is how many intervals there are
abbrev pub Tabled : Wiring → Type 0
Tabled w = Tables w.k w.intervals.now w.starts.now w.rows.now × (w.all ≡ count_of w.k)
