-- Document 01, "Variables" and "Clauses": the variables of a formula of C channels over k steps, and the one gate that defines each
-- variable beyond the channels, in the order in which document 01 lists the clauses (their Tseitin encoding, crate paper_clauses).
use Rattle.std.specs.Prelude.{true, false, cond, List, [], ◌∷◌, ◌++◌, map, ℕ, zero, suc, ◌+◌, ◌-◌, ◌*◌, eqb}
use Rattle.lists.specs.Listing.{rows, tab}
use Rattle.interval.specs.Places.{count_of, triple_count_of, place_of, triple_place_of, intervals_of, triples_of}
use Rattle.interval.specs.declared.Interval.{Interval}
use Rattle.interval.specs.declared.Triple.{Triple}
use Rattle.paper_grammar.specs.Trees.{and, or, chop, Tree, constant, letter, negation, pair, duration, throughout}
use Rattle.paper_grammar.specs.declared.Sort.{Sort}
use Rattle.paper_grammar.specs.declared.Sort.TheVariants.{State, Formula}
use Rattle.paper_grammar.specs.Nodes.{Node, a_letter, a_duration, a_chop, another, view_of, nodes_of}
use Rattle.paper_circuit.specs.declared.Gate.{Gate}
use Rattle.paper_circuit.specs.declared.Gate.TheVariants.{Constant, Copy, Inverse, Both, Either, AnyOf, Step}

-- "Channel c at instant t is variable 1 + t·C + c."
abbrev pub channel_of : ℕ → ℕ → ℕ → ℕ
channel_of C t c = 1 + t * C + c

-- where a node is judged: at each of k instants, or on each of I intervals
abbrev pub points_of : Sort → ℕ → ℕ
points_of State k = k
points_of Formula k = count_of k

-- a node's block: "S node: k variables"; "levels 0 to n, each of I variables"; "Chop: I variables, then J"; "Any other P: I variables"
unfoldable pub width_of : {s : Sort} → ℕ → Tree s → ℕ
width_of {s} k x =
    elim (view_of x) [ a_letter c ↦ k | a_duration S n ↦ suc n * count_of k | a_chop P Q ↦ count_of k + triple_count_of k | another ↦ points_of s k ]

-- "each node, in number order, has a block": the blocks of these nodes together
unfoldable pub blocks_of : ℕ → List Node → ℕ
blocks_of k [] = 0
blocks_of k (w ∷ l) = width_of k w.part + blocks_of k l

-- V: the channels, then the nodes' blocks
unfoldable pub variables_of : ℕ → ℕ → List Node → ℕ
variables_of C k l = k * C + blocks_of k l

-- where in its block a node's truth begins: "Level n is the node's truth"
unfoldable pub truth_of : {s : Sort} → ℕ → Tree s → ℕ
truth_of k x = elim (view_of x) [ a_letter c ↦ 0 | a_duration S n ↦ n * count_of k | a_chop P Q ↦ 0 | another ↦ 0 ]

-- a variable, and the gate that defines it
pub record Definition : Type 0 where
  pub variable : ℕ
  pub gate : Gate

abbrev pub define : ℕ → Gate → Definition
define v g = record { variable = v; gate = g }

-- a gate for each instant or interval, by its place
abbrev pub alike : ℕ → ℕ → (ℕ → Gate) → List Definition
alike b n g = tab n (λ p. define (b + p) (g p))

-- [i, j − 1]
abbrev pub shorter : Interval → Interval
shorter v = record { i = v.i; j = v.j - 1 }

-- `[S]`, its block from b on, S from s on: "On i = j it becomes false", "On j = i + 1 it is S at i" (request C-12); else v is both p and s
abbrev pub throughout_gate : ℕ → ℕ → ℕ → Interval → Gate
throughout_gate k b s v =
    cond (eqb v.i v.j) (Constant false) (cond (eqb (v.i + 1) v.j) (Copy (s + v.i)) (Both (b + place_of k (shorter v)) (s + (v.j - 1))))

-- level c of a duration: v is p, or both q and s
abbrev pub level_of : ℕ → ℕ → ℕ → Interval → ℕ
level_of k b c v = b + c * count_of k + place_of k v

abbrev pub level_gate : ℕ → ℕ → ℕ → ℕ → Interval → Gate
level_gate k b s zero v = Constant true
level_gate k b s (suc c) v = cond (eqb v.i v.j) (Constant false) (Step (level_of k b (suc c) (shorter v)) (level_of k b c (shorter v)) (s + (v.j - 1)))

-- a triple's w: both l on [i, m] and r on [m, j]
abbrev pub triple_gate : ℕ → ℕ → ℕ → Triple → Gate
triple_gate k l r t = Both (l + place_of k (record { i = t.i; j = t.m })) (r + place_of k (record { i = t.m; j = t.j }))

-- chop on [i, j]: any of its triples' w, which stand in a row from that of m = i on (the law `triples_in_a_row` of crate interval)
abbrev pub chop_gate : ℕ → ℕ → Interval → Gate
chop_gate k w v = AnyOf (w + triple_place_of k (record { i = v.i; m = v.i; j = v.j })) (suc (v.j - v.i))

-- the first variables of the truth of a node's parts
pub record Seats : Type 0 where
  pub left : ℕ
  pub right : ℕ

-- the parts' blocks following from p on: the first part's nodes, then the second's; 0 where there is no such part
abbrev pub seats_of : {s : Sort} → ℕ → ℕ → Tree s → Seats
seats_of k p (constant v) = record { left = 0; right = 0 }
seats_of k p (letter c) = record { left = 0; right = 0 }
seats_of k p (negation x) = record { left = p + truth_of k x; right = 0 }
seats_of k p (pair l x y) = record { left = p + truth_of k x; right = p + blocks_of k (nodes_of x 0) + truth_of k y }
seats_of k p (duration x n) = record { left = p + truth_of k x; right = 0 }
seats_of k p (throughout x) = record { left = p + truth_of k x; right = 0 }

-- the definitions of a node's own block from b on, by the seats of its parts
unfoldable pub own_by : {s : Sort} → ℕ → ℕ → ℕ → Seats → Tree s → List Definition
own_by {s} C k b seats (constant v) = alike b (points_of s k) (λ p. Constant v)
own_by C k b seats (letter c) = alike b k (λ t. Copy (channel_of C t c))
own_by {s} C k b seats (negation x) = alike b (points_of s k) (λ p. Inverse (seats.left + p))
own_by {s} C k b seats (pair and x y) = alike b (points_of s k) (λ p. Both (seats.left + p) (seats.right + p))
own_by {s} C k b seats (pair or x y) = alike b (points_of s k) (λ p. Either (seats.left + p) (seats.right + p))
own_by C k b seats (pair chop x y) =
    let w = b + count_of k in
    map (λ (t : Triple). define (w + triple_place_of k t) (triple_gate k seats.left seats.right t)) (triples_of k)
    ++ map (λ (v : Interval). define (b + place_of k v) (chop_gate k w v)) (intervals_of k)
own_by C k b seats (duration x n) = rows (suc n) (λ c. map (λ (v : Interval). define (level_of k b c v) (level_gate k b seats.left c v)) (intervals_of k))
own_by C k b seats (throughout x) = map (λ (v : Interval). define (b + place_of k v) (throughout_gate k b seats.left v)) (intervals_of k)

-- a node's own definitions, its block from b on and its parts' blocks after it
unfoldable pub own_of : {s : Sort} → ℕ → ℕ → ℕ → Tree s → List Definition
own_of C k b x = own_by C k b (seats_of k (b + width_of k x) x) x

-- "Nodes in order": the definitions of these nodes, the first one's block from b on
unfoldable pub defined_from : ℕ → ℕ → ℕ → List Node → List Definition
defined_from C k b [] = []
defined_from C k b (w ∷ l) = own_of C k b w.part ++ defined_from C k (b + width_of k w.part) l

-- every variable beyond the channels, with its gate
unfoldable pub definitions_of : ℕ → ℕ → List Node → List Definition
definitions_of C k l = defined_from C k (1 + k * C) l

-- the root on [0, k]
unfoldable pub root_of : ℕ → ℕ → Tree Formula → ℕ
root_of C k f = 1 + k * C + truth_of k f + place_of k (record { i = 0; j = k })
