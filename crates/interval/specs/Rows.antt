-- Where rows begin, by adding row lengths: document 02, C-13. Nothing here need be believed: no call open to others cites it.
use Rattle.std.specs.Prelude.{◌≡◌, List, ℕ, suc, ◌-◌, ◌≤◌, ◌<◌, length, get_or}
use Rattle.lists.specs.Listing.{sum}
use Rattle.interval.specs.Places.{triple_place_of}

-- where row i starts, which has the intervals from i on: after as many rows, of k + 1, k, .. places
abbrev pub start_of : ℕ → ℕ → ℕ
start_of k i = sum (λ a. suc k - a) i

-- where the triples that start at i begin
abbrev pub triple_start : ℕ → ℕ → ℕ
triple_start k i = triple_place_of k (record { i = i; m = i; j = i })

-- the first n numbers of a table are f 0, f 1, ..
pub record Begins (f : ℕ → ℕ) (n : ℕ) (table : List ℕ) : Type 0 where
  pub room : n ≤ length table
  pub at : (i : ℕ) → i < n → get_or table i 0 ≡ f i

-- the starts of the rows of k steps, and after the last one where that ends
abbrev pub RowsOf : ℕ → List ℕ → Type 0
RowsOf k = Begins (start_of k) (suc (suc k))

-- and those of their triples
abbrev pub StartsOf : ℕ → List ℕ → Type 0
StartsOf k = Begins (triple_start k) (suc k)
