-- The four values are those of the set, so the entry of the table is what is forced first (Steps.antt).
-- The number there says which variable, and with which sign.
use mathlib.Core.Path.{refl}
use native.Mathlib.Omega.{arith}
use Prim.Native.Nat.{◌-◌}
use Rattle.search_patterns.proofs.Steps.{known, nothing_forced, literal_forced}
use Rattle.search_patterns.proofs.next_forced.Goals as goal

pub forced-e-requires : goal.forced-e-requires
forced-e-requires c =
    let f = c.requires.by_index in (
      omega (arith, c.value-a.ensures, f (c.args.v - 1)),
      omega (arith, c.value-b.ensures, f (c.args.x - 1)),
      omega (arith, c.value-c.ensures, f (c.args.y - 1)),
      omega (arith, c.value-d.ensures, f (c.args.z - 1)),
    )

pub returns-then-e-eq0 : goal.returns-then-e-eq0
returns-then-e-eq0 c =
    let w = c.requires.four in
    nothing_forced _ c.args.v c.args.x c.args.y c.args.z w.0.0 w.1.0 w.2.0 w.3.0 c.args.gate
    (known _ c.value-a.ensures c.value-b.ensures c.value-c.ensures c.value-d.ensures c.forced-e.ensures.0) c.if-e-eq0.true

pub returns : goal.returns
returns c =
    let w = c.requires.four in let e = c.forced-e.ensures in
    literal_forced _ c.args.v c.args.x c.args.y c.args.z w.0.0 w.1.0 w.2.0 w.3.0 c.args.gate
    (known _ c.value-a.ensures c.value-b.ensures c.value-c.ensures c.value-d.ensures e.0) c.if-e-eq0.false e.1 (e.2 c.if-e-eq0.false)
    w.0 w.1 w.2 w.3 refl c.pick.ensures
