-- Document 01, "Variables": how many intervals and triples there are, their order, and their places.
use Rattle.std.specs.Prelude.{Bool, ◌&&◌, List, [], ◌∷◌, ℕ, ◌+◌, ◌-◌, ◌*◌, ◌/◌, eqb}
use Rattle.lists.specs.Listing.{each, place_in}
use Rattle.interval.specs.declared.Interval.{Interval}
use Rattle.interval.specs.declared.Triple.{Triple}

-- "I = (k+1)(k+2)/2"
unfoldable pub count_of : ℕ → ℕ
count_of k = (k + 1) * (k + 2) / 2

-- "J = (k+1)(k+2)(k+3)/6"
unfoldable pub triple_count_of : ℕ → ℕ
triple_count_of k = (k + 1) * (k + 2) * (k + 3) / 6

-- "Intervals stand in order of i, then j"
unfoldable pub intervals_of : ℕ → List Interval
intervals_of k = each 0 k (λ i. each i k (λ j. record { i = i; j = j } ∷ []))

-- "[i, j] has place i(k+1) − i(i−1)/2 + (j − i)"
unfoldable pub place_of : ℕ → Interval → ℕ
place_of k v = v.i * (k + 1) - v.i * (v.i - 1) / 2 + (v.j - v.i)

-- "Triples i ≤ m ≤ j stand in order of i, then j, then m."
unfoldable pub triples_of : ℕ → List Triple
triples_of k = each 0 k (λ i. each i k (λ j. each i j (λ m. record { i = i; m = m; j = j } ∷ [])))

abbrev pub same_triple : Triple → Triple → Bool
same_triple t u = eqb t.i u.i && eqb t.m u.m && eqb t.j u.j

-- a triple's place: how many stand before it
unfoldable pub triple_place_of : ℕ → Triple → ℕ
triple_place_of k t = place_in (same_triple t) (triples_of k)
