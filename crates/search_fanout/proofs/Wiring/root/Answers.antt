-- The root's row is the first,
-- and its seat stands in the column of seats.
use mathlib.Core.Path.{ap}
use Prim.Native.Nat.{ℕ, ◌+◌}
use native.Mathlib.Omega.{arith}
use Rattle.search_fanout.proofs.Wiring.root.Goals as goal

pub overflow_add-result : goal.overflow_add-result
overflow_add-result c = omega (arith, c.requires.0, (c.requires.1 0 (omega arith)).1)

pub returns : goal.returns
returns c = ap (λ (s : ℕ). s + c.args.self.now.k) (c.requires.1 0 (omega arith)).0
