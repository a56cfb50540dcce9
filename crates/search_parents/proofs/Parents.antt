-- Rows are put down one after another: each is the nearest of its row, those put down before stay.
-- The root's is 0 and stays, since the rows begin at 1.
use mathlib.Core.Path.{◌≡◌, sym, ◌∙◌, subst}
use mathlib.Core.Logic.{by_cases}
use mathlib.Core.List.{List}
use Prim.Native.Nat.{ℕ, ◌+◌, ◌≤◌, ◌<◌}
use native.Mathlib.Decide.{dec_lt}
use native.Mathlib.Omega.{arith}
use lib.ListN.{length, get_or, set}
use lib.Seq.{get_or-set_same, get_or-set_other}
use Rattle.search_fanout.specs.Fanout.{Nearest}
use Rattle.search_parents.specs.Parents.{NearestTo}

pub none_nearest : (sizes parents : List ℕ) → 0 < length parents → Nearest sizes (set parents 0 0) 1
none_nearest sizes parents h = record {
  root = get_or-set_same parents 0 0 0 h;
  before = λ z a b. absurd (omega arith);
  holds = λ z a b. absurd (omega arith);
  between = λ z a b. absurd (omega arith);
}

module _ {sizes parents : List ℕ} {n y : ℕ} (c : Nearest sizes parents n) (h : 0 < n) (l : n < length parents) (w : NearestTo sizes n y) where
  at_end_lem : (P : ℕ → ℕ → Type 0) → ((z : ℕ) → 0 < z → z < n → P z (get_or parents z 0)) → P n y → (z : ℕ) → 0 < z → z < n + 1 → P z (get_or (set parents n y) z 0)
  at_end_lem P f e z a b = by_cases (dec_lt z n) (λ m. subst (P z) (sym (get_or-set_other parents n z y 0 (λ e. omega arith))) (f z a m))
      (λ m. let q : z ≡ n = omega arith in subst (λ z. P z (get_or (set parents n y) z 0)) (sym q) (subst (P n) (sym (get_or-set_same parents n y 0 l)) e))

  pub one_nearest : Nearest sizes (set parents n y) (n + 1)
  one_nearest = record {
    root = get_or-set_other parents n 0 y 0 (λ e. omega arith) ∙ c.root;
    before = at_end_lem (λ z y. y < z) c.before w.before;
    holds = at_end_lem (λ z y. z < y + get_or sizes y 0) c.holds w.among;
    between = at_end_lem (λ z y. (v : ℕ) → y < v → v < z → v + get_or sizes v 0 ≤ z) c.between w.between;
  }
