-- The nodes' clauses and the root's make the table.
-- The root stands behind the last node.
use mathlib.Core.Path.{◌≡◌, ap}
use mathlib.Core.Bool.{true, false}
use mathlib.Core.List.{List}
use Prim.Native.Nat.{ℕ, ◌+◌}
use Rattle.paper_circuit.specs.declared.Gate.TheVariants.{Constant}
use Rattle.paper_clauses.specs.Clauses.{clauses_of}
use Rattle.search_closing.specs.declared.Closed.{Closed as Ended}
use Rattle.table_layout.specs.Rows.{seat_by}
use Rattle.search_visits.specs.Visits.{Visited}
use Rattle.search_visits.proofs.Parts.{visited_named, visited_stop, visited_then}
use Rattle.search_clauses.specs.Clauses.{nodes_by, table_by}

module _ (C k : ℕ) (kinds numbers sizes firsts : List ℕ) (n : ℕ) {v₀ t₀ v₁ t₁ : List ℕ} {top₀ : ℕ} {r : Ended}
    (w : Visited (nodes_by C k kinds numbers sizes firsts n) v₀ t₀ top₀ v₁ t₁ r) where
  pub nodes_clash : r.clash ≡ true → Visited (table_by C k kinds numbers sizes firsts n) v₀ t₀ top₀ v₁ t₁ r
  unfolding table_by
  nodes_clash e = visited_stop w (clauses_of (seat_by kinds numbers firsts k 0 + k) (Constant true)) e

  pub nodes_root : {v₂ t₂ : List ℕ} {s : Ended} {m : ℕ} → r.clash ≡ false → m ≡ seat_by kinds numbers firsts k 0 + k →
      Visited (clauses_of m (Constant true)) v₁ t₁ r.top v₂ t₂ s
      → Visited (table_by C k kinds numbers sizes firsts n) v₀ t₀ top₀ v₂ t₂ s
  unfolding table_by
  nodes_root {m = m} e f u = visited_then w (clauses_of (seat_by kinds numbers firsts k 0 + k) (Constant true)) e
      (visited_named (ap (λ (m : ℕ). clauses_of m (Constant true)) f) u)
