-- A chop's triples from the truths of its parts, by their places. Nothing here need be believed: no call open to others cites it.
use Rattle.std.specs.Prelude.{Bool, List, ℕ, suc, ◌+◌, ◌-◌}
use Rattle.lists.specs.Listing.{rows, tab}
use Rattle.interval.specs.Places.{place_of}
use Rattle.interval.specs.declared.Interval.{Interval}
use Rattle.paper_meaning.specs.Meaning.{bit}
use Rattle.paper_assignments.specs.Extension.{cuts}

-- the truth on an interval, by its place
abbrev pub on_places : ℕ → (ℕ → Bool) → Interval → Bool
on_places k f v = f (place_of k v)

-- the triples of the interval of d steps from i on, in order of m
abbrev pub cuts_from : ℕ → (ℕ → Bool) → (ℕ → Bool) → ℕ → ℕ → List ℕ
cuts_from k f g i d = tab (suc d) (λ e. bit (cuts (on_places k f) (on_places k g) (record { i = i; m = i + e; j = i + d })))

-- the triples from i on, the shorter ones first
abbrev pub triples_from : ℕ → (ℕ → Bool) → (ℕ → Bool) → ℕ → List ℕ
triples_from k f g i = rows (suc k - i) (cuts_from k f g i)
