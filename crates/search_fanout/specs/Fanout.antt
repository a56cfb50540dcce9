-- The clauses that name a variable, what it is to have visited all of them, and where a node's variables lie. Nothing here need be
-- believed: no call open to others cites it.
use Rattle.std.specs.Prelude.{◌≡◌, Bool, true, false, cond, ◌⊎◌, List, [], ◌∷◌, ◌++◌, ℕ, suc, ◌+◌, ◌-◌, ◌*◌, ◌≤◌, ◌<◌, eqb, length, get_or}
use Rattle.moments.specs.Moments.{old, new, Slice}
use Rattle.lists.specs.Listing.{All}
use Rattle.interval.specs.Places.{count_of, place_of, triple_place_of}
use Rattle.interval.specs.Limits.{max_steps}
use Rattle.interval.specs.declared.Triple.{Triple}
use Rattle.paper_grammar.specs.Limits.{max_nodes, max_channels}
use Rattle.table_blocks.specs.Blocks.{rule_by, is_chop, defined_by}
use Rattle.table_blocks.specs.declared.Block.{Block}
use Rattle.table_blocks.specs.declared.Rule.{Rule}
use Rattle.table_blocks.specs.declared.Rule.TheVariants.{Fixed, Letter, Negation, And, Or, Chop, Duration, Throughout, Cut}
use Rattle.table_sizes.specs.Weights.{variable_weight, points_by, weight_by, row_weight, weight_to}
use Rattle.paper_clauses.specs.Clauses.{Clause, clauses_by}
use Rattle.table_gates.specs.Mentioned.{Variable, AllMentioned}
use Rattle.table_nodes.specs.Nodes.{triple_block, node_by, Fine}
use Rattle.table_layout.specs.Rows.{truth_by, seat_by, block_by, Low, Seated, row_definitions}
use Rattle.paper_closure.specs.Closure.{Literals}
use Rattle.paper_closure.specs.Tree.{closure}
use Rattle.paper_closure.specs.Runs.{clashes}
use Rattle.search_closing.specs.Values.{held_in, Grown, Trailing}
use Rattle.search_closing.specs.declared.Closed.{Closed}
use Rattle.search_visits.specs.Visits.{Touched, Due, raised_by, long_by}
use Rattle.search_clauses.specs.Clauses.{clauses_at}
use Rattle.search_fanout.specs.Walks.{Apart}

-- u is the variable of a literal of the clause
abbrev pub Names : ℕ → Clause → Type 0
Names u [] = ⊥
Names u (l ∷ c) = (u ≡ l.variable) ⊎ Names u c

-- what Due says of one clause
abbrev pub DueAt : Literals → Literals → Clause → Type 0
DueAt R S c = (S ≡ closure (c ∷ []) S) ⊎ Touched R S c

-- values and trail have grown by literals of the closure; each clause that names u is closed or touched since, or it clashes
pub record Reached (T : List Clause) (u : ℕ) (v₀ t₀ : List ℕ) (top₀ : ℕ) (values trail : List ℕ) (r : Closed) : Type 0 where
  pub grown : Grown v₀ t₀ top₀ values trail r.top
  pub same : closure T (held_in values) ≡ closure T (held_in v₀)
  pub due : r.clash ≡ false → All (λ c. Names u c → DueAt (held_in v₀) (held_in values) c) T
  pub clashing : r.clash ≡ true → clashes (length v₀) (closure T (held_in v₀)) ≡ true

abbrev pub Reaches : List Clause → ℕ → Slice → Slice → ℕ → Closed → Type 0
Reaches T u values trail top r = Reached T u (old values) (old trail) top (new values) (new trail) r

-- the first h places of the trail were taken: before the others there were the values `before`
pub record Pending (T : List Clause) (values trail : List ℕ) (h top : ℕ) : Type 0 where
  pub before : List ℕ
  pub since : Grown before trail h values trail top
  pub due : Due (held_in before) (held_in values) T

-- a node's clauses, by its block
abbrev pub node_clauses : ℕ → ℕ → Block → List Clause
node_clauses C k b = clauses_by (node_by C k b (is_chop b.rule))

-- how many variables a node of the rule has, a chop's triples among them; u is one of the block's
abbrev pub width_by : ℕ → ℕ → Rule → ℕ
width_by k points q = cond (is_chop q) (weight_by variable_weight k points q + weight_by variable_weight k points Cut) (weight_by variable_weight k points q)

abbrev pub InBlock : ℕ → Block → ℕ → Type 0
InBlock k b u = (b.first ≤ u) × (u < b.first + width_by k b.points b.rule)

-- a triple's w: its gate, and of its interval's, v, the two clauses that name w
abbrev pub triple_clauses : ℕ → ℕ → Block → Triple → List Clause
triple_clauses C k b t =
    let w = b.first + count_of k in
    let v = b.first + place_of k (record { i = t.i; j = t.j }) in
    let u = w + triple_place_of k (record { i = t.i; m = t.i; j = t.j }) in
    clauses_at (defined_by C k (triple_block w b)) (triple_place_of k t) ++ (raised_by v u (t.m - t.i) ++ long_by v u (suc (t.j - t.i)) ∷ [])

-- a letter's block: its channel is one, its instants are all
abbrev pub Voiced : ℕ → ℕ → Block → Rule → Type 0
Voiced C k b (Fixed v) = Unit
Voiced C k b (Letter c) = (c < C) × (b.points ≡ k)
Voiced C k b Negation = Unit
Voiced C k b And = Unit
Voiced C k b Or = Unit
Voiced C k b Chop = Unit
Voiced C k b (Duration n) = Unit
Voiced C k b Throughout = Unit
Voiced C k b Cut = Unit

-- where a node's block lies: beyond the channels, before its parts
pub record Laid (C k : ℕ) (b : Block) : Type 0 where
  pub beyond : k * C < b.first
  pub apart : Apart k b b.rule
  pub voiced : Voiced C k b b.rule

-- a node's block, all of whose variables have a value, and values and trail that fit
pub record Node (C k : ℕ) (b : Block) (values trail : List ℕ) (top : ℕ) : Type 0 where
  pub fine : Fine C k b
  pub laid : Laid C k b
  pub mentioned : AllMentioned (length values) (node_by C k b (is_chop b.rule))
  pub trailing : Trailing values trail top

-- a duration of n levels, or `[S]`, which has none
abbrev pub Levels : Rule → ℕ → Type 0
Levels r n = (r ≡ Duration n) ⊎ ((r ≡ Throughout) × (n ≡ 0))

-- the levels that go by an instant are n from a on: a duration's but the first, the one of `[S]`
abbrev pub Rising : Rule → ℕ → ℕ → Type 0
Rising r a n = ((r ≡ Duration n) × (a ≡ 1)) ⊎ ((r ≡ Throughout) × (a ≡ 0) × (n ≡ 1))

-- two parts, place by place
abbrev pub Pair : Rule → Type 0
Pair r = (r ≡ And) ⊎ (r ≡ Or)

-- ---- the node table as numbers

-- u is one of the variables of row z's block
abbrev pub InRow : ℕ → List ℕ → List ℕ → List ℕ → ℕ → ℕ → Type 0
InRow k kinds numbers firsts z u = (get_or firsts z 0 ≤ u) × (u < get_or firsts z 0 + row_weight variable_weight k (get_or kinds z 0) (get_or numbers z 0))

-- row z is a part of row y, judged on p instants or intervals: its truth is in its block
abbrev pub PartAt : ℕ → List ℕ → List ℕ → List ℕ → ℕ → ℕ → ℕ → ℕ → Type 0
PartAt k kinds numbers parents n y z p =
    (z < n) × (get_or parents z 0 ≡ y) × (truth_by k (get_or kinds z 0) (get_or numbers z 0) + p ≤ row_weight variable_weight k (get_or kinds z 0) (get_or numbers z 0))

abbrev pub PartsAt : ℕ → ℕ → List ℕ → List ℕ → List ℕ → ℕ → ℕ → ℕ → ℕ → Rule → Type 0
PartsAt C k kinds numbers parents n y z p (Fixed v) = Unit
PartsAt C k kinds numbers parents n y z p (Letter c) = (c < C) × (p ≡ k)
PartsAt C k kinds numbers parents n y z p Negation = PartAt k kinds numbers parents n y (y + 1) p
PartsAt C k kinds numbers parents n y z p And = PartAt k kinds numbers parents n y (y + 1) p × PartAt k kinds numbers parents n y z p
PartsAt C k kinds numbers parents n y z p Or = PartAt k kinds numbers parents n y (y + 1) p × PartAt k kinds numbers parents n y z p
PartsAt C k kinds numbers parents n y z p Chop = PartAt k kinds numbers parents n y (y + 1) (count_of k) × PartAt k kinds numbers parents n y z (count_of k)
PartsAt C k kinds numbers parents n y z p (Duration m) = PartAt k kinds numbers parents n y (y + 1) k
PartsAt C k kinds numbers parents n y z p Throughout = PartAt k kinds numbers parents n y (y + 1) k
PartsAt C k kinds numbers parents n y z p Cut = ⊥

-- the rows one after another from the channels on, each row's parts, its parent and its size; the root on [0, k] is of row 0
pub record Grid (C k : ℕ) (kinds numbers sizes firsts parents : List ℕ) (n : ℕ) : Type 0 where
  pub first : (y : ℕ) → y < n → get_or firsts y 0 ≡ 1 + k * C + weight_to variable_weight k kinds numbers y
  pub parts : (y : ℕ) → y < n → PartsAt C k kinds numbers parents n y (y + 1 + get_or sizes (y + 1) 0) (points_by k (get_or kinds y 0)) (rule_by (get_or kinds y 0) (get_or numbers y 0))
  pub upward : (y : ℕ) → y < n → get_or parents y 0 < n
  pub top : get_or parents 0 0 ≡ 0
  pub under : (z : ℕ) → 0 < z → z < n → get_or parents z 0 < z
  pub full : (y : ℕ) → y < n → 1 ≤ get_or sizes y 0
  pub root : InRow k kinds numbers firsts 0 (seat_by kinds numbers firsts k 0 + k)

-- what stays as it is while a formula is searched, `all` being how many variables there are
pub record Ground (C k : ℕ) (kinds numbers sizes firsts seats parents : List ℕ) (n all : ℕ) : Type 0 where
  pub channels : C ≤ max_channels
  pub steps : k ≤ max_steps
  pub some : 0 < n
  pub few : n ≤ max_nodes
  pub low : Low firsts
  pub seated : Seated kinds numbers firsts k seats max_nodes
  pub grid : Grid C k kinds numbers sizes firsts parents n
  pub total : all ≡ k * C + weight_to variable_weight k kinds numbers n
  pub root : Variable all (seat_by kinds numbers firsts k 0 + k)
  pub mentioned : (x : ℕ) → x < n → AllMentioned all (row_definitions C k kinds numbers sizes firsts x)

-- ---- letters

-- the rule is that of channel e's letter
abbrev pub speaks : ℕ → Rule → Bool
speaks e (Fixed v) = false
speaks e (Letter c) = eqb c e
speaks e Negation = false
speaks e And = false
speaks e Or = false
speaks e Chop = false
speaks e (Duration n) = false
speaks e Throughout = false
speaks e Cut = false

-- the clauses at instant t of row y, if it is channel e's letter
abbrev pub letter_at : ℕ → ℕ → List ℕ → List ℕ → List ℕ → List ℕ → ℕ → ℕ → ℕ → List Clause
letter_at C k kinds numbers sizes firsts t e y = let b = block_by kinds numbers sizes firsts k y in cond (speaks e b.rule) (clauses_at (defined_by C k b) t) []

-- the last row before z whose nodes z is among: what the code puts down as a row's parent; the root's is itself
pub record Nearest (sizes parents : List ℕ) (n : ℕ) : Type 0 where
  pub root : get_or parents 0 0 ≡ 0
  pub before : (z : ℕ) → 0 < z → z < n → get_or parents z 0 < z
  pub holds : (z : ℕ) → 0 < z → z < n → z < get_or parents z 0 + get_or sizes (get_or parents z 0) 0
  pub between : (z : ℕ) → 0 < z → z < n → (v : ℕ) → get_or parents z 0 < v → v < z → v + get_or sizes v 0 ≤ z
