-- The parts of a triple are [i, m] and [m, j],
-- each at its place.
use mathlib.Core.Path.{◌≡◌, ap, ap₂}
use Prim.Native.Nat.{ℕ, ◌+◌, ◌-◌}
use native.Mathlib.Omega.{arith}
use Rattle.interval.specs.Places.{place_of}
use Rattle.paper_circuit.specs.declared.Gate.TheVariants.{Both}
use Rattle.table_blocks.proofs.triple_gate.Goals as goal

pub returns : goal.returns
returns c =
    let s = c.args in
    let j : s.a + s.d + (s.i - s.d) ≡ s.a + s.i = omega (arith, c.requires) in
    ap₂ Both (omega (arith, c.place.ensures)) (omega (arith, c.place-2.ensures, ap (λ (j : ℕ). place_of s.k (record { i = s.a + s.d; j = j })) j))
