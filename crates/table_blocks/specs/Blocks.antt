-- A node's block as the code walks it: rows of lines of cells, each cell by its place and its position. Nothing here need be believed: no
-- call open to others cites it.
use Rattle.std.specs.Prelude.{◌≡◌, Bool, true, false, cond, List, [], ◌∷◌, ℕ, suc, ◌+◌, ◌-◌, ◌%◌, ◌^◌, ◌≤◌, ◌<◌, eqb, ltb, get_or}
use Rattle.interval.proofs.Shape.{Shape, line, stack, Inside, place, per}
use Rattle.interval.specs.Places.{count_of, place_of, triple_place_of}
use Rattle.interval.specs.Limits.{max_steps}
use Rattle.paper_grammar.specs.Limits.{max_channels}
use Rattle.paper_grammar.specs.Trees.{and, or, chop, Tree, constant, letter, negation, pair, duration, throughout}
use Rattle.paper_grammar.specs.declared.Sort.{Sort}
use Rattle.paper_circuit.specs.Circuit.{Definition, define, channel_of, points_of}
use Rattle.paper_circuit.specs.declared.Gate.{Gate}
use Rattle.paper_circuit.specs.declared.Gate.TheVariants.{Constant, Copy, Inverse, Both, Either, AnyOf, Step}
use Rattle.table_blocks.specs.declared.Rule.{Rule}
use Rattle.table_blocks.specs.declared.Rule.TheVariants.{Fixed, Letter, Negation, And, Or, Chop, Duration, Throughout, Cut}
use Rattle.table_blocks.specs.declared.Form.{Form}
use Rattle.table_blocks.specs.declared.Form.TheVariants.{Line, Intervals, Triples}
use Rattle.table_blocks.specs.declared.Block.{Block}
use Rattle.table_blocks.specs.declared.Position.{Position}

-- a tree's rule
abbrev pub rule_of : {s : Sort} → Tree s → Rule
rule_of (constant v) = Fixed v
rule_of (letter c) = Letter c
rule_of (negation x) = Negation
rule_of (pair and x y) = And
rule_of (pair or x y) = Or
rule_of (pair chop x y) = Chop
rule_of (duration x n) = Duration n
rule_of (throughout x) = Throughout

-- the same by the kind and number of a row of the node table
abbrev pub rules_for : ℕ → List Rule
rules_for n = Fixed false ∷ Fixed true ∷ Negation ∷ And ∷ Or ∷ Chop ∷ Letter n ∷ Duration n ∷ []

unfoldable pub rule_by : ℕ → ℕ → Rule
rule_by kind n = get_or (rules_for n) (kind % 16) Throughout

-- a chop has two blocks, any other node one
abbrev pub is_chop : Rule → Bool
is_chop (Fixed v) = false
is_chop (Letter c) = false
is_chop Negation = false
is_chop And = false
is_chop Or = false
is_chop Chop = true
is_chop (Duration n) = false
is_chop Throughout = false
is_chop Cut = false

-- how the cells of a block stand
abbrev pub form_of : Rule → Form
form_of (Fixed v) = Line
form_of (Letter c) = Line
form_of Negation = Line
form_of And = Line
form_of Or = Line
form_of Chop = Intervals
form_of (Duration n) = Intervals
form_of Throughout = Intervals
form_of Cut = Triples

-- rows: a duration's levels, the starts of triples
abbrev pub rows_of : ℕ → Rule → ℕ
rows_of k (Duration n) = suc n
rows_of k Cut = suc k
rows_of k (Fixed v) = 1
rows_of k (Letter c) = 1
rows_of k Negation = 1
rows_of k And = 1
rows_of k Or = 1
rows_of k Chop = 1
rows_of k Throughout = 1

-- lines of row a: the starts of intervals; the lengths of triples
abbrev pub lines_of : ℕ → ℕ → Form → ℕ
lines_of k a Line = 1
lines_of k a Intervals = suc k
lines_of k a Triples = suc k - a

-- cells of line i: the lengths of intervals; where a triple is chopped
abbrev pub cells_of : ℕ → ℕ → ℕ → Form → ℕ
cells_of points k i Line = points
cells_of points k i Intervals = suc k - i
cells_of points k i Triples = suc i

abbrev pub shape_of : ℕ → ℕ → Rule → Shape
shape_of points k r = stack (rows_of k r) (λ a. stack (lines_of k a (form_of r)) (λ i. line (cells_of points k i (form_of r))))

-- the position after one
unfoldable pub next_of : ℕ → ℕ → Rule → Position → Position
next_of points k r p =
    cond (ltb (p.cell + 1) (cells_of points k p.line (form_of r))) (record { row = p.row; line = p.line; cell = p.cell + 1; before = p.before + (p.cell + 1) })
    (cond (ltb (p.line + 1) (lines_of k p.row (form_of r))) (record { row = p.row; line = p.line + 1; cell = 0; before = p.before + (p.cell + 1) })
    (record { row = p.row + 1; line = 0; cell = 0; before = 0 }))

-- v is `[S]`, S from s on: p is the variable before
abbrev pub throughout_by : ℕ → ℕ → ℕ → ℕ → Gate
throughout_by v s i d = cond (eqb d 0) (Constant false) (cond (eqb d 1) (Copy (s + i)) (Both (v - 1) (s + (i + (d - 1)))))

-- a duration in place x of its block from b on: p stands in the place before, q one level below p
abbrev pub level_by : ℕ → ℕ → ℕ → ℕ → ℕ → ℕ → ℕ → Gate
level_by k b s x a i d = cond (eqb a 0) (Constant true) (cond (eqb d 0) (Constant false) (Step (b + (x - 1)) (b + (x - 1 - count_of k)) (s + (i + (d - 1)))))

abbrev pub chop_by : ℕ → ℕ → ℕ → ℕ → Gate
chop_by k w i d = AnyOf (w + triple_place_of k (record { i = i; m = i; j = i + d })) (suc d)

abbrev pub triple_by : ℕ → ℕ → ℕ → ℕ → ℕ → ℕ → Gate
triple_by k l r a i d = Both (l + place_of k (record { i = a; j = a + d })) (r + place_of k (record { i = a + d; j = a + i }))

-- the gate in place x: row a, line i, cell d
abbrev pub gate_by : ℕ → ℕ → ℕ → ℕ → ℕ → ℕ → ℕ → ℕ → ℕ → Rule → Gate
gate_by C k b l r x a i d (Fixed v) = Constant v
gate_by C k b l r x a i d (Letter c) = Copy (channel_of C x c)
gate_by C k b l r x a i d Negation = Inverse (l + x)
gate_by C k b l r x a i d And = Both (l + x) (r + x)
gate_by C k b l r x a i d Or = Either (l + x) (r + x)
gate_by C k b l r x a i d Chop = chop_by k l i d
gate_by C k b l r x a i d (Duration n) = level_by k b l x a i d
gate_by C k b l r x a i d Throughout = throughout_by (b + x) l i d
gate_by C k b l r x a i d Cut = triple_by k l r a i d

unfoldable pub gate_of : ℕ → ℕ → Block → ℕ → ℕ → ℕ → ℕ → Gate
gate_of C k block x a i d = gate_by C k block.first block.left block.right x a i d block.rule

-- the definitions of a block
unfoldable pub defined_by : ℕ → ℕ → Block → List Definition
defined_by C k block =
    let s = shape_of block.points k block.rule in
    per s (λ x. define (block.first + place s x) (gate_of C k block (place s x) x.0 x.1.0 x.1.1))

-- the block of a node, l and r being the first variables of its parts' truth; of a chop its intervals, whose gates go by its triples
abbrev pub block_of : {s : Sort} → ℕ → ℕ → ℕ → ℕ → Tree s → Block
block_of {s} k b l r x = record { rule = rule_of x; points = points_of s k; first = b; left = l; right = r }

-- the code's numbers stay below this, so that their sums are numbers of 32 bits
abbrev pub bound : ℕ
bound = 2 ^ 31

-- place x is that of row a, line i, cell d
pub record Placed (points k : ℕ) (r : Rule) (x a i d : ℕ) : Type 0 where
  pub inside : Inside (shape_of points k r) (a, (i, d))
  pub at : x ≡ place (shape_of points k r) (a, (i, d))

-- the cells of row a, each as many entries as its number and one more: where the row is one of intervals, its triples
abbrev pub cuts_of : ℕ → ℕ → Rule → ℕ → Shape
cuts_of points k r a = stack (lines_of k a (form_of r)) (λ i. stack (cells_of points k i (form_of r)) (λ d. line (suc d)))

-- so many stand before those of position p
abbrev pub Before : ℕ → ℕ → Rule → Position → Type 0
Before points k r p = p.before ≡ place (cuts_of points k r p.row) (p.line, (p.cell, 0))

-- a letter's channel, a duration's n
abbrev pub number_of : Rule → ℕ
number_of (Fixed v) = 0
number_of (Letter c) = c
number_of Negation = 0
number_of And = 0
number_of Or = 0
number_of Chop = 0
number_of (Duration n) = n
number_of Throughout = 0
number_of Cut = 0

-- what the code asks of a block; a number in the node table is a byte
pub record Bounded (C k : ℕ) (b : Block) : Type 0 where
  pub channels : C ≤ max_channels
  pub steps : k ≤ max_steps
  pub number : number_of b.rule ≤ 255
  pub first : b.first < bound
  pub left : b.left < bound
  pub right : b.right < bound
