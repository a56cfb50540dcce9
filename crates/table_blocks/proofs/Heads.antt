-- A row's kind and number tell the rule of its node: each of the nine forms of tree has a number, the rule's place among the rules.
-- A chop has two blocks, any other node one.
use mathlib.Core.Path.{◌≡◌, refl, sym}
use mathlib.Core.Bool.{true, false}
use Prim.Native.Nat.{ℕ, ◌+◌, ◌%◌, ◌<◌}
use native.Mathlib.Omega.{arith}
use Rattle.paper_grammar.specs.Trees.{and, or, chop, Tree, constant, letter, negation, pair, duration, throughout}
use Rattle.paper_grammar.specs.declared.Sort.{Sort}
use Rattle.paper_grammar.specs.declared.Sort.TheVariants.{State, Formula}
use Rattle.node_rows.specs.Table.{sort_code, head_of}
use Rattle.table_blocks.specs.Blocks.{rule_of, rule_by, is_chop}
use Rattle.table_blocks.proofs.Positions.{rule_at}

code : (s : Sort) (op : ℕ) → op < 16 → (sort_code s + op) % 16 ≡ op
code State op h = omega arith
code Formula op h = omega arith

pub rule_head : {s : Sort} (x : Tree s) → rule_by (head_of x).kind (head_of x).number ≡ rule_of x
rule_head {s} (constant false) = sym (rule_at _ 0 (code s 0 (omega arith)))
rule_head {s} (constant true) = sym (rule_at _ 0 (code s 1 (omega arith)))
rule_head (letter c) = sym (rule_at _ c (code State 6 (omega arith)))
rule_head {s} (negation x) = sym (rule_at _ 0 (code s 2 (omega arith)))
rule_head {s} (pair and x y) = sym (rule_at _ 0 (code s 3 (omega arith)))
rule_head {s} (pair or x y) = sym (rule_at _ 0 (code s 4 (omega arith)))
rule_head (pair chop x y) = sym (rule_at _ 0 (code Formula 5 (omega arith)))
rule_head (duration x n) = sym (rule_at _ n (code Formula 7 (omega arith)))
rule_head (throughout x) = sym (rule_at _ 0 (code Formula 8 (omega arith)))

-- what holds of every chop, and of every tree that is none, holds of every tree
module _ (P : (s : Sort) → Tree s → Type 0) (chops : (x y : Tree Formula) → P Formula (pair chop x y))
    (others : (s : Sort) (x : Tree s) → is_chop (rule_of x) ≡ false → P s x) where
  pub chop_or_not : {s : Sort} (x : Tree s) → P s x
  chop_or_not {s} (constant v) = others s (constant v) refl
  chop_or_not (letter c) = others State (letter c) refl
  chop_or_not {s} (negation x) = others s (negation x) refl
  chop_or_not {s} (pair and x y) = others s (pair and x y) refl
  chop_or_not {s} (pair or x y) = others s (pair or x y) refl
  chop_or_not (pair chop x y) = chops x y
  chop_or_not (duration x n) = others Formula (duration x n) refl
  chop_or_not (throughout x) = others Formula (throughout x) refl
