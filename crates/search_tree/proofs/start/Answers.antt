-- Values that are all 0 are the set of nothing, and closed they are its closure (Begun.antt),
-- from which the tree starts.
use mathlib.Core.Path.{◌∙◌}
use native.Mathlib.Omega.{arith}
use Rattle.search_fanout.proofs.Ground.{ground_still}
use Rattle.search_tries.proofs.Values.{zero_trailing}
use Rattle.search_tree.proofs.Begun.{begun, started_long}
use Rattle.search_tree.proofs.start.Goals as goal

pub start-closed-requires : goal.start-closed-requires
start-closed-requires c =
    record { on_ground = ground_still c.clear.auto.values c.requires.on_ground; trailing = zero_trailing _ _ c.clear.ensures (omega (arith, c.clear.auto.values, c.requires.values_in_bounds.0)) (omega (arith, c.clear.auto.values, c.requires.values_in_bounds.1)); tabled = c.requires.tabled }

pub descend-requires : goal.descend-requires
descend-requires c =
    record { on_ground = ground_still (c.start-closed.auto.values ∙ c.clear.auto.values) c.requires.on_ground; holding = begun _ c.clear.ensures c.start-closed.ensures; tabled = c.requires.tabled }

pub returns : goal.returns
returns c =
    started_long (c.start-closed.auto.values ∙ c.clear.auto.values) c.descend.ensures
