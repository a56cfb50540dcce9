-- What gates weigh: 1 in variables; how many clauses; how many literals. Nothing here need be believed: no call open to others cites it.
use Rattle.std.specs.Prelude.{◌≡◌, cond, List, [], ◌∷◌, ℕ, suc, ◌+◌, ◌-◌, ◌*◌, ◌^◌, ◌≤◌, ◌<◌, ltb, length, get_or}
use Rattle.lists.specs.Listing.{sum}
use Rattle.interval.specs.Places.{count_of, triple_count_of}
use Rattle.interval.specs.Limits.{max_steps, max_count}
use Rattle.paper_grammar.specs.Limits.{max_nodes}
use Rattle.paper_circuit.specs.Circuit.{Definition}
use Rattle.paper_circuit.specs.declared.Gate.{Gate}
use Rattle.paper_circuit.specs.declared.Gate.TheVariants.{Constant, Copy, Inverse, Both, Either, AnyOf, Step}
use Rattle.table_blocks.specs.Blocks.{rule_by, is_chop, number_of}
use Rattle.table_blocks.specs.declared.Rule.{Rule}
use Rattle.table_blocks.specs.declared.Rule.TheVariants.{Fixed, Letter, Negation, And, Or, Chop, Duration, Throughout, Cut}
use Rattle.table_sizes.specs.declared.Weight.{Weight}

-- a gate's weight, and the weight of all gates of these definitions
unfoldable pub weight_of : Weight → Gate → ℕ
weight_of w (Constant v) = 1
weight_of w (Copy u) = w.copy
weight_of w (Inverse x) = w.copy
weight_of w (Both x y) = 2 * w.each + 1
weight_of w (Either x y) = 2 * w.each + 1
weight_of w (AnyOf x n) = n * w.each + 1
weight_of w (Step p q s) = w.step

unfoldable pub weight_all : Weight → List Definition → ℕ
weight_all w [] = 0
weight_all w (d ∷ D) = weight_of w d.gate + weight_all w D

-- every gate weighs 1: what the gates weigh is how many variables they define
abbrev pub variable_weight : Weight
variable_weight = record { copy = 1; each = 0; step = 1 }

-- a gate's clauses, and their literals
abbrev pub clause_weight : Weight
clause_weight = record { copy = 2; each = 1; step = 4 }

abbrev pub literal_weight : Weight
literal_weight = record { copy = 4; each = 3; step = 11 }

-- the weight of a block's gates, which is that of its definitions (the law `block_weight`): those on empty intervals weigh 1, those on
-- one step `one`, and `more` on the others
abbrev pub longer_by : ℕ → ℕ → ℕ → ℕ
longer_by k one more = suc k + k * one + (count_of k - suc k - k) * more

unfoldable pub weight_by : Weight → ℕ → ℕ → Rule → ℕ
weight_by w k points (Fixed v) = points
weight_by w k points (Letter c) = points * w.copy
weight_by w k points Negation = points * w.copy
weight_by w k points And = points * (2 * w.each + 1)
weight_by w k points Or = points * (2 * w.each + 1)
weight_by w k points Chop = count_of k + triple_count_of k * w.each
weight_by w k points (Duration n) = count_of k + n * longer_by k w.step w.step
weight_by w k points Throughout = longer_by k w.copy (2 * w.each + 1)
weight_by w k points Cut = triple_count_of k * (2 * w.each + 1)

-- no block weighs more (the law `weighed`), for a weight of copy up to 4, each up to 3 and step up to 11, levels up to 255, and
-- the most steps, were they 64
abbrev pub max_weight : ℕ
max_weight = 2 ^ 23

-- what the code asks of a weight
pub record Small (w : Weight) (k : ℕ) : Type 0 where
  pub copy : w.copy ≤ 4
  pub each : w.each ≤ 3
  pub step : w.step ≤ 11
  pub steps : k ≤ max_steps

-- and of a block beside it
pub record Light (w : Weight) (k n : ℕ) (r : Rule) : Type 0 where
  pub small : Small w k
  pub points : n ≤ max_count
  pub number : number_of r ≤ 255

-- ---- by the rows of the node table

-- how many instants or intervals a node of this kind is judged on
unfoldable pub points_by : ℕ → ℕ → ℕ
points_by k kind = cond (ltb kind 16) k (count_of k)

-- what a node's gates weigh; those of a chop are in two blocks
unfoldable pub row_weight : Weight → ℕ → ℕ → ℕ → ℕ
row_weight w k kind number =
    let points = points_by k kind in
    let own = weight_by w k points (rule_by kind number) in
    cond (is_chop (rule_by kind number)) (own + weight_by w k points Cut) own

-- what the nodes before x weigh, by the columns of their kinds and numbers
unfoldable pub weight_to : Weight → ℕ → List ℕ → List ℕ → ℕ → ℕ
weight_to w k kinds numbers x = sum (λ y. row_weight w k (get_or kinds y 0) (get_or numbers y 0)) x

-- no number of first variables, clauses or literals is more
abbrev pub max_sum : ℕ
max_sum = 2 ^ 30 + 2 ^ 20

-- each row's entry is where what it weighs begins, the rows following each other from `start` on to r
pub record Summed (w : Weight) (k : ℕ) (kinds numbers : List ℕ) (start count : ℕ) (old new : List ℕ) (r : ℕ) : Type 0 where
  pub total : r ≡ start + weight_to w k kinds numbers count
  pub most : r ≤ max_sum
  pub below : (x : ℕ) → x < count → get_or new x 0 ≡ start + weight_to w k kinds numbers x
  pub within : (x : ℕ) → x < count → get_or new x 0 ≤ r
  pub beyond : (x : ℕ) → count ≤ x → get_or new x 0 ≡ get_or old x 0
  pub whole : length new ≡ max_nodes
