-- The product k·C is small, so no sum of sizes leaves 32 bits; and before the sums no first variable is above the limit.
use Prim.Native.Nat.{ℕ, ◌*◌, ◌≤◌}
use native.Mathlib.Nat.{mul-le-mul}
use native.Mathlib.Omega.{arith}
use lib.ListN.{replicate}
use Rattle.interval.specs.Limits.{max_steps}
use Rattle.lists.proofs.Fill.{zeros}
use Rattle.paper_grammar.specs.Limits.{max_nodes, max_channels}
use Rattle.table_layout.specs.Rows.{Low}

pub channels_few : (C k : ℕ) → C ≤ max_channels → k ≤ max_steps → k * C ≤ max_steps * max_channels
channels_few C k h l = mul-le-mul {n₂ = max_steps} {m₂ = max_channels} l h

-- no first variable is known at first
pub zeros_low : Low (replicate max_nodes 0)
zeros_low y = omega (arith, zeros max_nodes y)
