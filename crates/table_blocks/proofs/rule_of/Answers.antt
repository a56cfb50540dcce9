-- Each kind, 16 less where it is a formula's, is its place in the list of rules,
-- and the last stands for all beyond the list.
use Prim.Native.Nat.{ℕ, suc, ◌≤◌, zero-le}
use mathlib.Core.Path.{◌≡◌}
use Rattle.table_blocks.proofs.Positions.{rule_at, rule_beyond}
use native.Mathlib.Omega.{arith}
use Rattle.table_blocks.proofs.rule_of.Goals as goal

up : {n k : ℕ} → n ≤ k → (k ≡ n → ⊥) → suc n ≤ k
up h f = omega arith

pub returns-in-0 : goal.returns-in-0
returns-in-0 c = rule_at _ _ c.in-0.is

pub returns-in-1 : goal.returns-in-1
returns-in-1 c = rule_at _ _ c.in-1.is

pub returns-in-2 : goal.returns-in-2
returns-in-2 c = rule_at _ _ c.in-2.is

pub returns-in-3 : goal.returns-in-3
returns-in-3 c = rule_at _ _ c.in-3.is

pub returns-in-4 : goal.returns-in-4
returns-in-4 c = rule_at _ _ c.in-4.is

pub returns-in-5 : goal.returns-in-5
returns-in-5 c = rule_at _ _ c.in-5.is

pub returns-in-6 : goal.returns-in-6
returns-in-6 c = rule_at _ _ c.in-6.is

pub returns-in-7 : goal.returns-in-7
returns-in-7 c = rule_at _ _ c.in-7.is

pub returns-in_default : goal.returns-in_default
returns-in_default c =
    let q = c.in_default.in_default-own.rest in
    rule_beyond _ _ (up (up (up (up (up (up (up (up zero-le q.0.0.0.0.0.0.0.1) q.0.0.0.0.0.0.1) q.0.0.0.0.0.1)
    q.0.0.0.0.1) q.0.0.0.1) q.0.0.1) q.0.1) q.1)
