-- A chop's block is its intervals and then its triples.
-- Both lie as the two functions ask.
use mathlib.Core.Path.{◌≡◌}
use Prim.Native.Nat.{◌+◌, ◌-◌}
use native.Mathlib.Omega.{arith}
use Rattle.interval.specs.Places.{count_of}
use Rattle.search_fanout.proofs.Cover.{reached_there}
use Rattle.search_own_chop.proofs.reach_chop.Goals as goal

pub returns : goal.returns
returns c =
    let a = c.args in let w = a.wiring.now in
    let e : a.block.first + count_of w.k + (a.x - w.all) ≡ a.block.first + a.x = omega (arith, c.if-x-wiring.false, c.requires.3.1) in reached_there e c.reach_triple.ensures
