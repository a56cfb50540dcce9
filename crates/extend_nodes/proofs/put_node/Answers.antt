-- The parts' truth is taken from the assignment, and the block is handed the part that it fills;
-- once that is back, the block's values are stored there (Blocks.antt).
use Rattle.extend_nodes.proofs.Blocks.{few_points, block_put}
use Rattle.extend_blocks.specs.Values.{Fits}
use borrow.Rule.Slice.PartMut.{mid_len}
use mathlib.Core.Path.{sym, subst}
use Prim.Native.Nat.{◌-◌}
use native.Mathlib.Omega.{arith}
use borrow.Author.Rules.{rules}
use Rattle.extend_nodes.proofs.put_node.Goals as goal

pub truth_from-p-requires : goal.truth_from-p-requires
truth_from-p-requires c =
    omega (arith, c.part_points-points.ensures, few_points c.args.k (c.args.end - (c.args.block.first - 1)) c.requires.0 c.args.block.rule c.requires.1.3)

pub truth_from-q-requires : goal.truth_from-q-requires
truth_from-q-requires c =
    omega (arith, c.part_points-points.ensures, few_points c.args.k (c.args.end - (c.args.block.first - 1)) c.requires.0 c.args.block.rule c.requires.1.3)

pub put_values-requires : goal.put_values-requires
put_values-requires c =
    let a = c.args in
    let fits = subst (λ n. Fits a.k n a.block.rule) (sym (mid_len (a.block.first - 1) a.end a.assignment.now c.requires.1.2)) c.requires.1.3 in
    (c.requires.0, fits, c.truth_from-p.ensures.0, c.truth_from-q.ensures.0, c.requires.2)

pub returns : goal.returns
returns c =
    let a = c.args in
    block_put a.k (a.end - (a.block.first - 1)) a.assignment.now a.recording.now a.block c.truth_from-p.result c.truth_from-q.result
    c.part_points-points.ensures c.truth_from-p.ensures.1 c.truth_from-q.ensures.1
    (mid_len (a.block.first - 1) a.end a.assignment.now c.requires.1.2) (search rules) (omega arith) c.put_values.ensures
