-- A chop's triples stand start by start, length by length, cut by cut: they are the entries of a shape, so the shape's laws say how many
-- there are, in all and from each start on.
use mathlib.Core.Path.{◌≡◌, ap, ◌∙◌}
use mathlib.Core.Bool.{Bool}
use mathlib.Core.List.{map}
use Prim.Native.Nat.{ℕ, suc, ◌+◌, ◌-◌, ◌≤◌}
use native.Mathlib.Omega.{arith}
use lib.ListN.{length}
use Rattle.lists.specs.Listing.{rows, sum}
use Rattle.interval.specs.Places.{count_of, place_of, triple_count_of}
use Rattle.interval.specs.declared.Triple.{Triple}
use Rattle.interval.proofs.Counts.{triangle_count, triples_count}
use Rattle.interval.proofs.Laws.{triple, triples_listed}
use Rattle.interval.proofs.Rows.{place_in_row, split_count}
use Rattle.lists.proofs.Listing.{length_tab}
use Rattle.interval.proofs.Shape.{line, stack, triples, length_per, map_per}
use Rattle.paper_meaning.specs.Meaning.{bit}
use Rattle.paper_assignments.specs.Extension.{cuts, cut_values}
use Rattle.extend_triples.specs.Cuts.{on_places, cuts_from, triples_from}

-- the intervals from i on are those of k − i steps: all but those before [i, i]
pub rest_count : {k i all at : ℕ} → i ≤ k → all ≡ count_of k → at ≡ place_of k (record { i = i; j = i + 0 }) → (at ≤ all) × (all - at ≡ count_of (k - i))
rest_count {k} {i} h a b =
    let e : suc k - i ≡ suc (k - i) = omega arith in
    omega (arith, a, b, place_in_row k (record { i = i; j = i + 0 }) (omega arith), split_count k i (omega arith), ap (sum suc) e, triangle_count (k - i))

module _ (k : ℕ) (f g : ℕ → Bool) where
  abbrev cut_at : Triple → ℕ
  cut_at t = bit (cuts (on_places k f) (on_places k g) t)

  pub cuts_listed : cut_values k (on_places k f) (on_places k g) ≡ rows (suc k) (triples_from k f g)
  cuts_listed = ap (map cut_at) (triples_listed k) ∙ map_per cut_at (triples k) (triple k)

  pub cuts_count : length (rows (suc k) (triples_from k f g)) ≡ triple_count_of k
  cuts_count = length_per (triples k) (λ x. cut_at (triple k x)) ∙ triples_count k

  module _ (i : ℕ) where
    pub cut_count : (d : ℕ) → length (cuts_from k f g i d) ≡ suc d
    cut_count d = length_tab (suc d) _

    pub starts_count : i ≤ k → length (triples_from k f g i) ≡ count_of (k - i)
    starts_count h =
        let e : suc k - i ≡ suc (k - i) = omega arith in
        length_per (stack (suc k - i) (λ d. line (suc d))) (λ x. cut_at (triple k (i, x))) ∙ ap (sum suc) e ∙ triangle_count (k - i)
