-- The table, from u's row and then its parent's or the root: no other row names u. The root's clause names its variable alone, which is of
-- row 0, and row 0 has no parent.
use mathlib.Core.Path.{◌≡◌, sym, ap, ◌∙◌, subst}
use mathlib.Core.Logic.{◌⊎◌, inl, inr, ⊎_elim, by_cases}
use mathlib.Core.Bool.{true, false}
use mathlib.Core.List.{List, [], ◌++◌}
use Prim.Native.Nat.{ℕ, ◌+◌, ◌<◌}
use native.Mathlib.Decide.{dec_lt}
use native.Mathlib.Omega.{arith}
use lib.ListN.{get_or}
use Rattle.lists.specs.Listing.{rows, All}
use Rattle.lists.proofs.Lists.{all_append, all_rows, all_split}
use Rattle.paper_circuit.specs.declared.Gate.TheVariants.{Constant}
use Rattle.table_blocks.specs.declared.Block.{Block}
use Rattle.paper_clauses.specs.Clauses.{Clause, clauses_of}
use Rattle.table_layout.specs.Rows.{seat_by}
use Rattle.search_closing.specs.Values.{held_in}
use Rattle.search_closing.specs.declared.Closed.{Closed as Ended}
use Rattle.search_visits.specs.Visits.{Visited}
use Rattle.search_visits.proofs.Parts.{visited_named, Part, part_first, part_next, part_same, part_clash}
use Rattle.search_clauses.specs.Clauses.{table_by}
use Rattle.search_fanout.specs.Fanout.{Names, DueAt, Reached, node_clauses, InRow, Grid}
use Rattle.search_fanout.proofs.Cover.{part_both, part_row, covers_none, suffices_self, reached, reached_stop, reached_then}
use Rattle.search_fanout.proofs.Rows.{block, row, one_row, elsewhere}

same : (y z : ℕ) → (y ≡ z) ⊎ (y ≡ z → ⊥)
same y z = by_cases (dec_lt y z) (λ l. inr (λ e. omega arith)) (λ m. by_cases (dec_lt z y) (λ l. inr (λ e. omega arith)) (λ o. inl (omega arith)))

-- every clause of T that names u is in A, a part of T
record Spans (T : List Clause) (u : ℕ) (A : List Clause) : Type 1 where
  part : Part A T
  names : (Q : Clause → Type 0) → All (λ c. Names u c → Q c) A → All (λ c. Names u c → Q c) T

spanned : {T A : List Clause} {u : ℕ} {v₀ t₀ values trail : List ℕ} {top₀ : ℕ} {r : Ended} → Spans T u A →
    Reached A u v₀ t₀ top₀ values trail r → Reached T u v₀ t₀ top₀ values trail r
spanned {T} {A} {v₀ = v₀} {values = values} s w = record {
  grown = w.grown;
  same = part_same A T s.part _ _ w.same;
  due = λ e. s.names (DueAt (held_in v₀) (held_in values)) (w.due e);
  clashing = λ e. part_clash A T s.part _ _ (w.clashing e);
}

pub reached_named : {T P : List Clause} {u : ℕ} {v₀ t₀ values trail : List ℕ} {top₀ : ℕ} {r : Ended} → T ≡ P →
    Reached T u v₀ t₀ top₀ values trail r → Reached P u v₀ t₀ top₀ values trail r
reached_named {u = u} {v₀} {t₀} {values} {trail} {top₀} {r} e w = subst (λ (P : List Clause). Reached P u v₀ t₀ top₀ values trail r) e w

-- ---- u of row z's block

module _ {C k : ℕ} {kinds numbers sizes firsts parents : List ℕ} {n : ℕ} (g : Grid C k kinds numbers sizes firsts parents n) (u z : ℕ) (h : z < n) (i : InRow k kinds numbers firsts z u) where
  abbrev table : List Clause
  table = table_by C k kinds numbers sizes firsts n

  abbrev ρ : ℕ
  ρ = seat_by kinds numbers firsts k 0 + k

  abbrev root : List Clause
  root = clauses_of ρ (Constant true)

  abbrev up : ℕ
  up = get_or parents z 0

  abbrev Named : (Clause → Type 0) → List Clause → Type 0
  Named Q T = All (λ c. Names u c → Q c) T

  by_two : (Q : Clause → Type 0) → Named Q (row g z) → Named Q (row g up) → Named Q root → Named Q table
  unfolding table_by
  by_two Q a b c = all_append (λ c. Names u c → Q c) (rows n (row g)) root (all_rows (λ c. Names u c → Q c) n (row g) (λ y l. go y l (same y z) (same y up))) c
    where
      go : (y : ℕ) → y < n → (y ≡ z) ⊎ (y ≡ z → ⊥) → (y ≡ up) ⊎ (y ≡ up → ⊥) → Named Q (row g y)
      go y l (inl e) f = subst (λ (x : ℕ). Named Q (row g x)) (sym e) a
      go y l (inr e) (inl f) = subst (λ (x : ℕ). Named Q (row g x)) (sym f) b
      go y l (inr e) (inr f) = (covers_none [] (elsewhere g y l z u h i e f)).whatever Q tt

  part_of_rows : (y : ℕ) → y < n → Part (row g y) table
  unfolding table_by
  part_of_rows y l S c = part_row (row g) n y l S (part_first (rows n (row g)) root S c)

  part_of_root : Part root table
  unfolding table_by
  part_of_root = part_next (rows n (row g)) root

  -- the root's variable is of row 0
  at_root : u ≡ ρ → z ≡ 0
  at_root e = one_row g z 0 u h (omega arith) i (subst (InRow k kinds numbers firsts 0) (sym e) g.root)

  not_root : (Q : Clause → Type 0) → (u ≡ ρ → ⊥) → Named Q root
  unfolding clauses_of
  not_root Q f = (⊎_elim (λ e. absurd (f e)) (λ m. absurd m), tt)

  self : z ≡ 0 → up ≡ z
  self e = ap (λ z. get_or parents z 0) e ∙ g.top ∙ sym e

  spans_part : (z ≡ 0 → ⊥) → Spans table u (row g z ++ row g up)
  spans_part f = record {
    part = part_both (row g z) (row g up) table (part_of_rows z h) (part_of_rows up (g.upward z h));
    names = λ Q a. let s = all_split (λ c. Names u c → Q c) (row g z) (row g up) a in by_two Q s.0 s.1 (not_root Q (λ e. f (at_root e)));
  }

  spans_alone : z ≡ 0 → (u ≡ ρ → ⊥) → Spans table u (row g z)
  spans_alone e f = record { part = part_of_rows z h; names = λ Q a. by_two Q a (subst (λ (y : ℕ). Named Q (row g y)) (sym (self e)) a) (not_root Q f) }

  spans_root : z ≡ 0 → Spans table u (row g z ++ root)
  spans_root e = record {
    part = part_both (row g z) root table (part_of_rows z h) part_of_root;
    names = λ Q a. let s = all_split (λ c. Names u c → Q c) (row g z) root a in by_two Q s.0 (subst (λ (y : ℕ). Named Q (row g y)) (sym (self e)) s.0) s.1;
  }

  -- ---- what the code has done, b being the block of u's row

  module _ {b : Block} (e : b ≡ block g z) {v₀ t₀ v₁ t₁ : List ℕ} {top₀ : ℕ} {r : Ended} (w : Reached (node_clauses C k b) u v₀ t₀ top₀ v₁ t₁ r) where
    own : Reached (row g z) u v₀ t₀ top₀ v₁ t₁ r
    own = reached_named (ap (node_clauses C k) e) w

    pub near_stop : r.clash ≡ true → Reached table u v₀ t₀ top₀ v₁ t₁ r
    near_stop c = ⊎_elim (λ f. spanned (spans_root f) (reached_stop own root c)) (λ f. spanned (spans_part f) (reached_stop own (row g up) c)) (same z 0)

    -- then in its parent's row, d being its block
    pub near_part : (z ≡ 0 → ⊥) → r.clash ≡ false → {d : Block} → d ≡ block g up → {v₂ t₂ : List ℕ} {s : Ended} →
        Reached (node_clauses C k d) u v₁ t₁ r.top v₂ t₂ s → Reached table u v₀ t₀ top₀ v₂ t₂ s
    near_part f c m x = spanned (spans_part f) (reached_then own (row g up) c (reached_named (ap (node_clauses C k) m) x))

    -- or at the root
    pub near_root : {m : ℕ} → m ≡ ρ → u ≡ m → r.clash ≡ false → {v₂ t₂ : List ℕ} {s : Ended} →
        Visited (clauses_of m (Constant true)) v₁ t₁ r.top v₂ t₂ s → Reached table u v₀ t₀ top₀ v₂ t₂ s
    near_root m f c x = spanned (spans_root (at_root (f ∙ m))) (reached_then own root c (reached (suffices_self root u) (visited_named (ap (λ (v : ℕ). clauses_of v (Constant true)) m) x)))

    pub near_alone : z ≡ 0 → {m : ℕ} → m ≡ ρ → (u ≡ m → ⊥) → Reached table u v₀ t₀ top₀ v₁ t₁ r
    near_alone f m c = spanned (spans_alone f (λ q. c (q ∙ sym m))) own
