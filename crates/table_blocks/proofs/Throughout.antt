-- The gate of `[S]`, by the tests that the code makes of the steps d:
-- none, one, or more.
use mathlib.Core.Path.{◌≡◌}
use mathlib.Core.Bool.{false}
use Prim.Native.Nat.{ℕ, ◌+◌, ◌-◌, ◌≤◌, ◌<◌}
use native.Mathlib.Omega.{arith}
use borrow.Author.Tests.{eq-eqb, ne_eqb}
use Rattle.paper_circuit.specs.declared.Gate.TheVariants.{Constant, Copy, Both}
use Rattle.table_blocks.specs.Blocks.{throughout_by}

module _ (v s i d : ℕ) where
  pub throughout_empty : d ≡ 0 → Constant false ≡ throughout_by v s i d
  throughout_empty e = simp (eq-eqb d 0 e)

  pub throughout_one : (d ≡ 0 → ⊥) → d < 2 → Copy (s + i) ≡ throughout_by v s i d
  throughout_one n h = simp (ne_eqb d 0 n, eq-eqb d 1 (omega (arith, n)))

  pub throughout_longer : 2 ≤ d → Both (v - 1) (s + (i + (d - 1))) ≡ throughout_by v s i d
  throughout_longer h = simp (ne_eqb d 0 (λ e. omega arith), ne_eqb d 1 (λ e. omega arith))
