-- Which places of a block the code visits for a variable, and what it asks of the block. Nothing here need be believed: no call open to
-- others cites it.
use Rattle.std.specs.Prelude.{cond, List, [], ◌∷◌, ℕ, suc, ◌+◌, ◌-◌, ◌*◌, ◌≤◌, ltb, length, get_or}
use Rattle.interval.specs.Limits.{max_count}
use Rattle.lists.specs.Listing.{rows}
use Rattle.interval.specs.Places.{count_of, triple_count_of, place_of, triple_place_of}
use Rattle.table_blocks.specs.Blocks.{defined_by, Bounded}
use Rattle.table_blocks.specs.declared.Block.{Block}
use Rattle.table_blocks.specs.declared.Position.{Position}
use Rattle.table_blocks.specs.declared.Rule.{Rule}
use Rattle.table_blocks.specs.declared.Rule.TheVariants.{Fixed, Letter, Negation, And, Or, Chop, Duration, Throughout, Cut}
use Rattle.paper_clauses.specs.Clauses.{Clause}
use Rattle.table_gates.specs.Mentioned.{AllMentioned}
use Rattle.search_closing.specs.Values.{Trailing}
use Rattle.search_clauses.specs.Clauses.{clauses_at}

-- a block all of whose variables have a value, and values and trail that fit
pub record Standing (C k : ℕ) (b : Block) (values trail : List ℕ) (top : ℕ) : Type 0 where
  pub bounded : Bounded C k b
  pub points : b.points ≤ max_count
  pub mentioned : AllMentioned (length values) (defined_by C k b)
  pub trailing : Trailing values trail top

-- a block's variables stand before those of its parts, and the first part's before the second's
abbrev pub Apart : ℕ → Block → Rule → Type 0
Apart k b (Fixed v) = Unit
Apart k b (Letter c) = Unit
Apart k b Negation = b.first + b.points ≤ b.left
Apart k b And = (b.first + b.points ≤ b.left) × (b.left + b.points ≤ b.right)
Apart k b Or = (b.first + b.points ≤ b.left) × (b.left + b.points ≤ b.right)
Apart k b Chop = (b.first + count_of k + triple_count_of k ≤ b.left) × (b.left + count_of k ≤ b.right)
Apart k b (Duration n) = b.first + suc n * count_of k ≤ b.left
Apart k b Throughout = b.first + count_of k ≤ b.left
Apart k b Cut = ⊥

-- ---- a duration's and `[S]`'s own variable, in place x at position p: its gate, that of the interval a step longer, and that of the level
-- above, of n levels

abbrev pub after_count : ℕ → ℕ → Position → ℕ
after_count k n p = cond (ltb (p.line + p.cell) k) (cond (ltb p.row n) 3 2) 1

abbrev pub after_place : ℕ → ℕ → ℕ → ℕ
after_place k x e = get_or (x ∷ (x + 1) ∷ (x + 1 + count_of k) ∷ []) e 0

abbrev pub after_clauses : ℕ → ℕ → Block → ℕ → ℕ → Position → List Clause
after_clauses C k b n x p = rows (after_count k n p) (λ e. clauses_at (defined_by C k b) (after_place k x e))

-- ---- their part at instant t: the intervals that end a step later, on n levels from a on

abbrev pub instant_place : ℕ → ℕ → ℕ → ℕ → ℕ → ℕ
instant_place k a t i e = (a + e) * count_of k + place_of k (record { i = i; j = t + 1 })

abbrev pub rise_clauses : ℕ → ℕ → Block → ℕ → ℕ → ℕ → ℕ → List Clause
rise_clauses C k b a n t i = rows n (λ e. clauses_at (defined_by C k b) (instant_place k a t i e))

abbrev pub instant_clauses : ℕ → ℕ → Block → ℕ → ℕ → ℕ → List Clause
instant_clauses C k b a n t = rows (suc t) (rise_clauses C k b a n t)

-- ---- a chop's triples: those that its first part on [i, m] is in, and its second part on [m, j]

abbrev pub first_clauses : ℕ → ℕ → Block → ℕ → ℕ → List Clause
first_clauses C k b i m = rows (suc (k - m)) (λ e. clauses_at (defined_by C k b) (triple_place_of k (record { i = i; m = m; j = m + e })))

abbrev pub second_clauses : ℕ → ℕ → Block → ℕ → ℕ → List Clause
second_clauses C k b m j = rows (suc m) (λ e. clauses_at (defined_by C k b) (triple_place_of k (record { i = e; m = m; j = j })))
