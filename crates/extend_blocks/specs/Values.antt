-- The values of a block by its rule, from the truths of the node's parts by their places, as the code writes them. Nothing here need be
-- believed: no call open to others cites it.
use Rattle.std.specs.Prelude.{◌≡◌, Bool, not, ◌&&◌, ◌||◌, List, ◌++◌, ℕ, suc, ◌+◌, ◌*◌, ◌%◌, ◌≤◌}
use Rattle.lists.specs.Listing.{rows, tab}
use Rattle.interval.specs.Places.{count_of, triple_count_of}
use Rattle.interval.specs.Limits.{max_count}
use Rattle.paper_grammar.specs.Limits.{max_channels}
use Rattle.paper_grammar.specs.declared.Sort.TheVariants.{Formula}
use Rattle.paper_meaning.specs.Meaning.{bit, channel_at, lasts, fills, chops}
use Rattle.table_blocks.specs.declared.Rule.{Rule}
use Rattle.table_blocks.specs.declared.Rule.TheVariants.{Fixed, Letter, Negation, And, Or, Chop, Duration, Throughout, Cut}
use Rattle.paper_assignments.specs.Extension.{truth_values, cut_values}
use Rattle.extend_triples.specs.Cuts.{on_places}

-- a chop's block: its intervals, then its triples
abbrev pub chop_values : ℕ → (ℕ → Bool) → (ℕ → Bool) → List ℕ
chop_values k f g = truth_values Formula k (chops (on_places k f) (on_places k g)) ++ cut_values k (on_places k f) (on_places k g)

-- a block of n values; its parts' truths are f and g. A chop's triples stand in its own block: none has the rule Cut.
unfoldable pub values_by : ℕ → List ℕ → ℕ → (ℕ → Bool) → (ℕ → Bool) → Rule → List ℕ
values_by k recording n f g (Fixed v) = tab n (λ e. bit v)
values_by k recording n f g (Letter c) = tab n (λ t. bit (channel_at recording (c % max_channels) t))
values_by k recording n f g Negation = tab n (λ e. bit (not (f e)))
values_by k recording n f g And = tab n (λ e. bit (f e && g e))
values_by k recording n f g Or = tab n (λ e. bit (f e || g e))
values_by k recording n f g Chop = chop_values k f g
values_by k recording n f g (Duration m) = rows (suc m) (λ c. truth_values Formula k (lasts c f))
values_by k recording n f g Throughout = truth_values Formula k (fills f)
values_by k recording n f g Cut = tab n (λ e. 0)

-- how long a block of this rule is
abbrev pub Fits : ℕ → ℕ → Rule → Type 0
Fits k n (Fixed v) = n ≤ max_count
Fits k n (Letter c) = n ≤ max_count
Fits k n Negation = n ≤ max_count
Fits k n And = n ≤ max_count
Fits k n Or = n ≤ max_count
Fits k n Chop = n ≡ count_of k + triple_count_of k
Fits k n (Duration m) = (m ≤ 255) × (n ≡ suc m * count_of k)
Fits k n Throughout = n ≡ count_of k
Fits k n Cut = n ≤ max_count
