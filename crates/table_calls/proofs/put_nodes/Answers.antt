-- After x turns the first x nodes are written;
-- a turn writes the places of the next node's own definitions (Written.antt of crate table_literals).
use Rattle.table_literals.proofs.Written.{begun, turn, room, done}
use Rattle.table_nodes.specs.Nodes.{node_places}
use mathlib.Core.Path.{ap, sym}
use Prim.Native.Nat.{◌-◌}
use native.Mathlib.Omega.{arith}
use borrow.Author.Rules.{rules}
use Rattle.table_calls.proofs.put_nodes.Goals as goal

pub loop-x-init : goal.loop-x-init
loop-x-init c = begun

pub block_at-block-requires : goal.block_at-block-requires
block_at-block-requires c = let p = c.requires.c_le_max_channels in (p.1, omega (arith, p.2, c.loop-x-test.true), p.3)

pub put_node-at-requires : goal.put_node-at-requires
put_node-at-requires c =
    record { room = room c.loop-x.invariant (search rules) (ap (node_places _ _) (sym c.block_at-block.ensures.value)) c.requires.room; fine = (c.block_at-block.ensures.by_index _ c.requires.c_le_max_channels.0, c.requires.c_le_max_channels.4) }

pub loop-x-preserved : goal.loop-x-preserved
loop-x-preserved c =
    turn c.loop-x.invariant (search rules) (ap (node_places _ _) (sym c.block_at-block.ensures.value)) c.put_node-at.ensures

pub returns : goal.returns
returns c = done c.loop-x.invariant (search rules)
