-- Visits one after another: of the clauses f 0, .., f (n - 1) the first x lists are visited.
-- A turn visits one list more; a clash ends the loop.
use mathlib.Core.Path.{◌≡◌, refl, sym, ap, subst}
use mathlib.Core.Bool.{true, false}
use mathlib.Core.List.{List, [], ◌∷◌, ◌++◌}
use Prim.Native.Nat.{ℕ, ◌+◌, ◌≤◌, ◌<◌}
use native.Mathlib.Numerals.{add-one}
use native.Mathlib.Omega.{arith}
use Rattle.lists.specs.Listing.{rows}
use Rattle.lists.proofs.Listing.{map_rows, rows_rest}
use Rattle.paper_circuit.specs.declared.Gate.TheVariants.{AnyOf}
use Rattle.paper_clauses.specs.Clauses.{Clause, plain, negated, clauses_of}
use Rattle.search_closing.specs.Values.{Trailing}
use Rattle.search_closing.specs.declared.Closed.{Closed as Ended}
use Rattle.search_patterns.specs.declared.Pattern.TheVariants.{Raised}
use Rattle.search_patterns.specs.Patterns.{among, renamed, pattern_of}
use Rattle.search_visits.specs.Visits.{Visited, raised_by, long_by}
use Rattle.search_visits.proofs.Parts.{visited_none, visited_named, visited_stop, visited_then}

-- a calm answer
pub calm_known : {T : List Clause} {v₀ t₀ values trail : List ℕ} {top₀ : ℕ} {r : Ended} → r.clash ≡ false → Visited T v₀ t₀ top₀ values trail r
    → Visited T v₀ t₀ top₀ values trail (record { clash = false; top = r.top })
calm_known {T} {v₀} {t₀} {values} {trail} {top₀} {r} e w =
    let same : r ≡ record { clash = false; top = r.top } = λ i. record { clash = e i; top = r.top } in
    subst (λ (s : Ended). Visited T v₀ t₀ top₀ values trail s) same w

pub loop_begun : (f : ℕ → List Clause) {values trail : List ℕ} {top : ℕ} → Trailing values trail top
    → Visited (rows 0 f) values trail top values trail (record { clash = false; top = top })
unfolding rows
loop_begun f t = visited_none t

module _ (f : ℕ → List Clause) (x : ℕ) {v₀ t₀ values trail : List ℕ} {top₀ top : ℕ} (w : Visited (rows x f) v₀ t₀ top₀ values trail (record { clash = false; top = top }))
    {P : List Clause} (e : P ≡ f x) {v t : List ℕ} {r : Ended} (u : Visited P values trail top v t r) where
  one_more : rows x f ++ P ≡ rows (x + 1) f
  unfolding rows
  one_more = rw (add-one x, e)

  pub loop_turn : r.clash ≡ false → Visited (rows (x + 1) f) v₀ t₀ top₀ v t (record { clash = false; top = r.top })
  loop_turn c = calm_known c (visited_named one_more (visited_then w P refl u))

  pub loop_stop : (n : ℕ) → x < n → r.clash ≡ true → Visited (rows n f) v₀ t₀ top₀ v t r
  loop_stop n h c =
      let q = rows_rest f n (x + 1) (omega arith) in
      visited_named q.1 (visited_stop (visited_named one_more (visited_then w P refl u)) q.0 c)

pub loop_done : (f : ℕ → List Clause) (n x : ℕ) {v₀ t₀ values trail : List ℕ} {top₀ : ℕ} {r : Ended} → x ≤ n → n ≤ x →
    Visited (rows x f) v₀ t₀ top₀ values trail r → Visited (rows n f) v₀ t₀ top₀ values trail r
loop_done f n x h k w = let e : x ≡ n = omega arith in visited_named (ap (λ (m : ℕ). rows m f) e) w

-- any of n variables: each clause of two literals, then the long one
pub any_clauses_lem : (v w n : ℕ) → rows n (raised_by v w) ++ long_by v w n ∷ [] ≡ clauses_of v (AnyOf w n)
unfolding clauses_of
any_clauses_lem v w n = ap (λ (T : List Clause). T ++ long_by v w n ∷ []) (sym (map_rows (λ w. plain v ∷ negated w ∷ []) (λ e. (w + e) ∷ []) n))

pub raised_pattern : (v w e : ℕ) → renamed (among v (w + e) v v) (pattern_of Raised) ≡ raised_by v w e
unfolding renamed pattern_of
raised_pattern v w e = refl
