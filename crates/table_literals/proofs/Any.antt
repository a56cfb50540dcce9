-- The clauses of "any of these", place by place: a clause for each input, then the literal of v, the inputs but the last, and the last
-- with the closing mark.
use mathlib.Core.Path.{◌≡◌, refl, sym, ap, ap₂, ◌∙◌}
use mathlib.Core.List.{List, [], ◌∷◌, ◌++◌, map, map-append, flat_map, append-nil}
use Prim.Native.Nat.{ℕ, zero, suc, ◌+◌, ◌-◌, ◌≤◌}
use native.Mathlib.Omega.{arith}
use Rattle.lists.specs.Listing.{rows, tab}
use Rattle.lists.proofs.Listing.{map_rows}
use Rattle.paper_meaning.specs.Meaning.{bit}
use Rattle.paper_circuit.specs.declared.Gate.TheVariants.{AnyOf}
use Rattle.paper_clauses.specs.Clauses.{Literal, plain, negated, Clause, clauses_of}
use Rattle.paper_clauses.specs.Entries.{Entry, entry, entries_of, flat}
use Rattle.table_literals.specs.Written.{run_of, raised_of, long_of}
use Rattle.paper_clauses.proofs.Flat.{flat_join}

flat_rows : (f : ℕ → List Clause) (n : ℕ) → flat (rows n f) ≡ rows n (λ e. flat (f e))
unfolding rows flat flat_map
flat_rows f zero = refl
flat_rows f (suc n) = flat_join (rows n f) (f n) ∙ ap (λ (F : List Entry). F ++ flat (f n)) (flat_rows f n)

-- all literals but the last are open
abbrev opens : Clause → List Entry
opens c = map (λ (l : Literal). entry l.variable (bit l.sign)) c

open_before : (k : Literal) (c : Clause) (l : Literal) → entries_of (k ∷ c ++ l ∷ []) ≡ opens (k ∷ c) ++ entries_of (l ∷ [])
unfolding entries_of
open_before k [] l = refl
open_before k (m ∷ c) l = ap (λ (F : List Entry). entry k.variable (bit k.sign) ∷ F) (open_before m c l)

module _ (v w : ℕ) where
  raised_flat : (n : ℕ) → flat (map (λ x. plain v ∷ negated x ∷ []) (tab n (λ e. w + e))) ≡ rows n (raised_of v w)
  unfolding flat flat_map entries_of
  raised_flat n = ap flat (map_rows (λ x. plain v ∷ negated x ∷ []) (λ e. (w + e) ∷ []) n) ∙ flat_rows (λ e. (plain v ∷ negated (w + e) ∷ []) ∷ []) n

  inputs_open : (n : ℕ) → opens (map plain (tab n (λ e. w + e))) ≡ rows n (run_of w 1)
  inputs_open n = ap opens (map_rows plain (λ e. (w + e) ∷ []) n) ∙ map_rows (λ (l : Literal). entry l.variable (bit l.sign)) (λ e. plain (w + e) ∷ []) n

  long_flat : (m : ℕ) → flat ((negated v ∷ map plain (tab (suc m) (λ e. w + e))) ∷ []) ≡ long_of v w (suc m)
  unfolding flat flat_map rows entries_of
  long_flat m =
      let e : suc m - 1 ≡ m = omega arith in
      append-nil _
      ∙ ap (λ (c : Clause). entries_of (negated v ∷ c)) (map-append plain (tab m (λ e. w + e)) ((w + m) ∷ []))
      ∙ open_before (negated v) (map plain (tab m (λ e. w + e))) (plain (w + m))
      ∙ ap (λ (F : List Entry). entry v 0 ∷ F ++ entry (w + m) 3 ∷ []) (inputs_open m)
      ∙ ap (λ (n : ℕ). entry v 0 ∷ rows n (run_of w 1) ++ entry (w + n) 3 ∷ []) (sym e)

  pub any_flat : (n : ℕ) → 1 ≤ n → rows n (raised_of v w) ++ long_of v w n ≡ flat (clauses_of v (AnyOf w n))
  unfolding clauses_of
  any_flat zero h = absurd (omega arith)
  any_flat (suc m) h = ap₂ (λ (F G : List Entry). F ++ G) (sym (raised_flat (suc m))) (sym (long_flat m)) ∙ sym (flat_join _ _)
