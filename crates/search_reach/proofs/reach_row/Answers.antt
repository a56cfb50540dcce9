-- The variable's row is the last that begins at it or before. Its own node's gates are visited, then those of the node that it is a part
-- of; the root is a part of none, and has a clause of its own (search_fanout's Joint).
use mathlib.Core.Path.{◌≡◌, refl, sym, subst}
use native.Mathlib.Omega.{arith}
use lib.ListN.{length}
use Rattle.paper_grammar.specs.Limits.{max_nodes}
use Rattle.table_gates.specs.Mentioned.{Variable}
use Rattle.search_patterns.proofs.Steps.{there}
use Rattle.search_fanout.proofs.Ground.{first_le, row_found}
use Rattle.search_fanout.proofs.Rows.{in_block, not_own}
use Rattle.search_fanout.proofs.Joint.{near_stop, near_part, near_root, near_alone}
use Rattle.search_letters.proofs.Rows.{node_at, other_row}
use borrow.Author.Rules.{rules}
use Rattle.search_reach.proofs.reach_row.Goals as goal

pub last_from-z-requires : goal.last_from-z-requires
last_from-z-requires c =
    let e : length c.args.wiring.now.firsts ≡ max_nodes = search rules in let g = c.requires.on_ground.0 in (g.some, omega (arith, e, g.few), first_le g c.requires.beyond.0)

pub block_of-block-requires : goal.block_of-block-requires
block_of-block-requires c =
    let g = c.requires.on_ground.0 in (g.steps, omega (arith, c.last_from-z.ensures.below, g.few), g.low, g.seated, c.requires.tabled.1)

pub reach-r-requires : goal.reach-r-requires
reach-r-requires c =
    let g = c.requires.on_ground.0 in let z = c.last_from-z.ensures in (
      node_at c.last_from-z.result g refl z.below c.block_of-block.ensures.value (c.block_of-block.ensures.by_index c.args.wiring.now.c g.channels) c.requires.on_ground.1,
      in_block g.grid _ z.below c.block_of-block.ensures.value (row_found g c.requires.beyond.1 z.below z.from z.next),
      c.requires.tabled,
    )

pub returns-then-r : goal.returns-then-r
returns-then-r c =
    let g = c.requires.on_ground.0 in
    let z = c.last_from-z.ensures in
    near_stop g.grid c.args.u c.last_from-z.result z.below (row_found g c.requires.beyond.1 z.below z.from z.next) c.block_of-block.ensures.value
    c.reach-r.ensures c.if-r.true

pub bounds-wiring-z : goal.bounds-wiring-z
bounds-wiring-z c = omega (arith, c.last_from-z.ensures.below, c.requires.on_ground.0.few)

pub overflow_cast-y : goal.overflow_cast-y
overflow_cast-y c =
    let g = c.requires.on_ground.0 in omega (arith, g.few, g.grid.upward c.last_from-z.result c.last_from-z.ensures.below)

pub block_of-up-requires : goal.block_of-up-requires
block_of-up-requires c =
    let g = c.requires.on_ground.0 in (g.steps, omega (arith, g.few, g.grid.upward c.last_from-z.result c.last_from-z.ensures.below), g.low, g.seated, c.requires.tabled.1)

pub reach-requires : goal.reach-requires
reach-requires c =
    let g = c.requires.on_ground.0 in let z = c.last_from-z.ensures in
    let l = g.grid.upward c.last_from-z.result z.below in
    let i = row_found g c.requires.beyond.1 z.below z.from z.next in (
      node_at _ g c.reach-r.auto.values l c.block_of-up.ensures.value (c.block_of-up.ensures.by_index c.args.wiring.now.c g.channels) c.reach-r.ensures.grown.trailing,
      not_own g.grid _ l c.last_from-z.result c.args.u z.below i (other_row g z.below c.if-z-ne0.true) c.block_of-up.ensures.value,
      c.requires.beyond.0,
      c.requires.tabled,
    )

pub returns-then-z-ne0 : goal.returns-then-z-ne0
returns-then-z-ne0 c =
    let g = c.requires.on_ground.0 in let z = c.last_from-z.ensures in
    near_part g.grid c.args.u c.last_from-z.result z.below (row_found g c.requires.beyond.1 z.below z.from z.next)
    c.block_of-block.ensures.value c.reach-r.ensures c.if-z-ne0.true c.if-r.false c.block_of-up.ensures.value c.reach.ensures

pub root-root-requires : goal.root-root-requires
root-root-requires c = let g = c.requires.on_ground.0 in (g.steps, g.seated)

pub returns-then-u-root : goal.returns-then-u-root
returns-then-u-root c =
    let g = c.requires.on_ground.0 in
    let z = c.last_from-z.ensures in
    near_alone g.grid c.args.u c.last_from-z.result z.below (row_found g c.requires.beyond.1 z.below z.from z.next) c.block_of-block.ensures.value
    c.reach-r.ensures c.if-z-ne0.false c.root-root.ensures c.if-u-root.true

pub visit-requires : goal.visit-requires
visit-requires c =
    let g = c.requires.on_ground.0 in (c.reach-r.ensures.grown.trailing, there c.reach-r.auto.values (subst (Variable _) (sym c.root-root.ensures) g.root), tt, tt)

pub returns : goal.returns
returns c =
    let g = c.requires.on_ground.0 in
    let z = c.last_from-z.ensures in
    near_root g.grid c.args.u c.last_from-z.result z.below (row_found g c.requires.beyond.1 z.below z.from z.next) c.block_of-block.ensures.value
    c.reach-r.ensures c.root-root.ensures c.if-u-root.false c.if-r.false c.visit.ensures
