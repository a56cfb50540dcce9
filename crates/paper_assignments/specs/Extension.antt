-- Document 01, "Variables": an assignment, the one that extends a recording, block by block, and the recording read from an assignment.
use Rattle.std.specs.Prelude.{◌≡◌, Bool, true, ◌&&◌, ℕ, suc, ◌-◌, ◌*◌, ◌^◌, eqb, get_or}
use mathlib.Core.List.{List, [], ◌∷◌, ◌++◌, map, flat_map}
use Rattle.lists.specs.Listing.{rows, tab, sum}
use Rattle.interval.specs.Places.{intervals_of, triples_of}
use Rattle.interval.specs.declared.Interval.{Interval}
use Rattle.interval.specs.declared.Triple.{Triple}
use Rattle.paper_grammar.specs.Trees.{Tree, duration}
use Rattle.paper_grammar.specs.declared.Sort.{Sort}
use Rattle.paper_grammar.specs.declared.Sort.TheVariants.{State, Formula}
use Rattle.paper_grammar.specs.Nodes.{Node, nodes_of, a_letter, a_duration, a_chop, another, view_of}
use Rattle.paper_meaning.specs.Meaning.{bit, channel_at, Point, truth}
use Rattle.paper_circuit.specs.Gates.{Assignment}
use Rattle.paper_circuit.specs.Circuit.{channel_of, definitions_of, root_of}
use Rattle.paper_clauses.specs.Clauses.{plain, clauses_by, meets_clause, meets_all}

-- "one byte a variable, 0 or 1": variable v is byte v − 1
unfoldable pub value_in : List ℕ → Assignment
value_in A v = eqb (get_or A (v - 1) 0) 1

-- "Channel c at instant t is variable 1 + t·C + c."
unfoldable pub channel_values : ℕ → ℕ → List ℕ → List ℕ
channel_values C k recording = rows k (λ t. tab C (λ c. bit (channel_at recording c t)))

-- a truth "an instant", or on each interval, in order
abbrev pub truth_values : (s : Sort) → ℕ → (Point s → Bool) → List ℕ
truth_values State k f = tab k (λ t. bit (f t))
truth_values Formula k f = map (λ (v : Interval). bit (f v)) (intervals_of k)

-- "one a triple": P on [i, m] and Q on [m, j]
abbrev pub cuts : (Interval → Bool) → (Interval → Bool) → Triple → Bool
cuts f g t = f (record { i = t.i; j = t.m }) && g (record { i = t.m; j = t.j })

abbrev pub cut_values : ℕ → (Interval → Bool) → (Interval → Bool) → List ℕ
cut_values k f g = map (λ (t : Triple). bit (cuts f g t)) (triples_of k)

-- the values of a node's own block: "S node: k variables, one an instant"; "levels 0 to n, each of I variables"; "Chop: I variables,
-- then J, one a triple"; "Any other P: I variables"
unfoldable pub block_values : {s : Sort} → ℕ → List ℕ → Tree s → List ℕ
block_values {s} k recording x =
    let own = truth_values s k (truth recording x) in
    elim (view_of x) [
      | a_letter c ↦ own
      | a_duration S n ↦ rows (suc n) (λ c. truth_values Formula k (truth recording (duration S c)))
      | a_chop P Q ↦ own ++ cut_values k (truth recording P) (truth recording Q)
      | another ↦ own
    ]

-- "each node, in number order, has a block"
unfoldable pub node_values : ℕ → List ℕ → List Node → List ℕ
node_values k recording l = flat_map (λ (w : Node). block_values k recording w.part) l

-- the assignment that extends a recording: the channels, then the nodes' blocks. That it is "the one [..] that extends a recording and
-- meets all clauses but the last" are the laws `extension_meets` and `extension_only`.
unfoldable pub extension_of : ℕ → ℕ → List ℕ → List Node → List ℕ
extension_of C k recording l = channel_values C k recording ++ node_values k recording l

-- "The recording read from its channel variables": byte t has bit c where channel c is high at instant t
unfoldable pub recording_by : ℕ → ℕ → Assignment → List ℕ
recording_by C k a = tab k (λ t. sum (λ c. bit (a (channel_of C t c)) * 2 ^ c) C)

abbrev pub recording_of : ℕ → ℕ → List ℕ → List ℕ
recording_of C k A = recording_by C k (value_in A)

-- "meets all clauses but the last"; "The last clause is the root on [0, k], alone."
abbrev pub MeetsButLast : ℕ → ℕ → Tree Formula → Assignment → Type 0
MeetsButLast C k f a = meets_all a (clauses_by (definitions_of C k (nodes_of f 0))) ≡ true

abbrev pub meets_last : ℕ → ℕ → Tree Formula → Assignment → Bool
meets_last C k f a = meets_clause a (plain (root_of C k f) ∷ [])
