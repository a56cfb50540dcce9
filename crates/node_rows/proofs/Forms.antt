-- A node's kind tells the form of its tree: each of the nine forms has a number of its own, to which its sort adds 0 or 16.
-- So what is told by kind is told by form, and a kind that is known leaves one form.
use mathlib.Core.Path.{◌≡◌, refl, subst}
use mathlib.Core.Bool.{true, false}
use Prim.Native.Nat.{ℕ, ◌+◌, ◌<◌}
use native.Mathlib.Omega.{arith}
use Rattle.paper_grammar.specs.Trees.{and, or, chop, Tree, constant, letter, negation, pair, duration, throughout}
use Rattle.paper_grammar.specs.declared.Sort.{Sort}
use Rattle.paper_grammar.specs.declared.Sort.TheVariants.{State, Formula}
use Rattle.node_rows.specs.Table.{sort_code, head_of}

pub data Form : (s : Sort) → ℕ → Tree s → Type 0 where
  is_false : {s : Sort} → Form s 0 (constant false)
  is_true : {s : Sort} → Form s 1 (constant true)
  is_negation : {s : Sort} (x : Tree s) → Form s 2 (negation x)
  is_and : {s : Sort} (x y : Tree s) → Form s 3 (pair and x y)
  is_or : {s : Sort} (x y : Tree s) → Form s 4 (pair or x y)
  is_chop_lem : (x y : Tree Formula) → Form Formula 5 (pair chop x y)
  is_letter_lem : (c : ℕ) → Form State 6 (letter c)
  is_duration : (x : Tree State) (n : ℕ) → Form Formula 7 (duration x n)
  is_throughout_lem : (x : Tree State) → Form Formula 8 (throughout x)

pub form_of : {s : Sort} (x : Tree s) → (op : ℕ) × (op < 16) × ((head_of x).kind ≡ sort_code s + op) × Form s op x
form_of (constant false) = (0, omega arith, refl, is_false)
form_of (constant true) = (1, omega arith, refl, is_true)
form_of (letter c) = (6, omega arith, refl, is_letter_lem c)
form_of (negation x) = (2, omega arith, refl, is_negation x)
form_of (pair and x y) = (3, omega arith, refl, is_and x y)
form_of (pair or x y) = (4, omega arith, refl, is_or x y)
form_of (pair chop x y) = (5, omega arith, refl, is_chop_lem x y)
form_of (duration x n) = (7, omega arith, refl, is_duration x n)
form_of (throughout x) = (8, omega arith, refl, is_throughout_lem x)

-- by a kind that is known
pub form_by : {s : Sort} (x : Tree s) (op : ℕ) → (head_of x).kind ≡ sort_code s + op → Form s op x
form_by {s} x op h = let (o, l, e, f) = form_of x in subst (λ (n : ℕ). Form s n x) (omega (arith, e, h)) f
