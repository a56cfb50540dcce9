-- A duration's first level is true, a level above false on an empty interval, and else it goes by the place before, the level below and the
-- last instant; `[S]` is false on an empty interval, S on one step, and else goes by the place before and the last instant.
use mathlib.Core.Path.{◌≡◌, sym, ap, ◌∙◌, subst}
use mathlib.Core.Logic.{inl, inr}
use mathlib.Core.Bool.{Bool, true, false, true≢false, false≢true}
use Prim.Native.Nat.{ℕ, ◌+◌, ◌-◌, ◌≤◌, ◌<◌}
use borrow.Author.Tests.{eq-eqb, ne_eqb}
use Rattle.interval.specs.Places.{count_of}
use Rattle.paper_circuit.specs.declared.Gate.{Gate}
use Rattle.paper_circuit.specs.declared.Gate.TheVariants.{Constant, Copy, Both, Step}
use Rattle.table_blocks.specs.Blocks.{gate_of, level_by}
use Rattle.table_blocks.specs.declared.Block.{Block}
use Rattle.table_blocks.specs.declared.Rule.{Rule}
use Rattle.table_blocks.specs.declared.Rule.TheVariants.{Duration, Throughout}
use Rattle.table_blocks.proofs.Positions.{gate_by_lem}
use Rattle.table_blocks.proofs.Throughout.{throughout_empty, throughout_one, throughout_longer}
use Rattle.search_levels.specs.Rules.{is_throughout, Leveled}

-- ---- the rule, by the code's test

module _ {r : Rule} {t : Bool} (e : t ≡ is_throughout r) where
  pub whole_rule : Leveled r → t ≡ true → r ≡ Throughout
  whole_rule (n, inl d) h = absurd (false≢true (sym (subst (λ (r : Rule). t ≡ is_throughout r) d e) ∙ h))
  whole_rule (n, inr d) h = d.0

  pub level_rule : Leveled r → t ≡ false → (n : ℕ) × (r ≡ Duration n)
  level_rule (n, inl d) h = (n, d)
  level_rule (n, inr d) h = absurd (true≢false (sym (subst (λ (r : Rule). t ≡ is_throughout r) d.0 e) ∙ h))

-- ---- the gate, by the rule

module _ (C k : ℕ) (b : Block) (x a i d : ℕ) where
  abbrev gate : Gate
  gate = gate_of C k b x a i d

  module _ (r : b.rule ≡ Throughout) where
    pub whole_empty : d ≡ 0 → Constant false ≡ gate
    whole_empty e = throughout_empty (b.first + x) b.left i d e ∙ gate_by_lem C k b x a i d r

    pub whole_one : (d ≡ 0 → ⊥) → d < 2 → {s : ℕ} → s ≡ b.left + i → Copy s ≡ gate
    whole_one f h e = ap Copy e ∙ throughout_one (b.first + x) b.left i d f h ∙ gate_by_lem C k b x a i d r

    pub whole_gate : 2 ≤ d → {s : ℕ} → s ≡ b.left + (i + (d - 1)) → Both (b.first + x - 1) s ≡ gate
    whole_gate h e = ap (Both (b.first + x - 1)) e ∙ throughout_longer (b.first + x) b.left i d h ∙ gate_by_lem C k b x a i d r

  module _ {n : ℕ} (r : b.rule ≡ Duration n) where
    pub level_true : a ≡ 0 → Constant true ≡ gate
    level_true e = known ∙ gate_by_lem C k b x a i d r
      where
        known : Constant true ≡ level_by k b.first b.left x a i d
        known = simp (eq-eqb a 0 e)

    pub level_empty : (a ≡ 0 → ⊥) → d ≡ 0 → Constant false ≡ gate
    level_empty f e = known ∙ gate_by_lem C k b x a i d r
      where
        known : Constant false ≡ level_by k b.first b.left x a i d
        known = simp (ne_eqb a 0 f, eq-eqb d 0 e)

    pub level_gate_lem : (a ≡ 0 → ⊥) → (d ≡ 0 → ⊥) → {p q s : ℕ} → p ≡ b.first + (x - 1) → q ≡ b.first + (x - 1 - count_of k) →
        s ≡ b.left + (i + (d - 1)) → Step p q s ≡ gate
    level_gate_lem f g {p} {q} {s} e h m = (λ z. Step (e z) (h z) (m z)) ∙ known ∙ gate_by_lem C k b x a i d r
      where
        known : Step (b.first + (x - 1)) (b.first + (x - 1 - count_of k)) (b.left + (i + (d - 1))) ≡ level_by k b.first b.left x a i d
        known = simp (ne_eqb a 0 f, ne_eqb d 0 g)
