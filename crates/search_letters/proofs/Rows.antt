-- A row of the ground is a node as the code asks of it: its block lies beyond the channels and before its parts', and all that it mentions
-- has a value. A letter that speaks of a channel is a block of one line over all instants.
use mathlib.Core.Path.{◌≡◌, refl, sym, ap, subst}
use mathlib.Core.Bool.{true, false}
use mathlib.Core.List.{List}
use Prim.Native.Nat.{ℕ, suc, ◌*◌, ◌<◌}
use native.Mathlib.Nat.{mul-le-mul_right}
use native.Mathlib.Decide.{dec_lt}
use mathlib.Core.Logic.{by_cases}
use native.Mathlib.Omega.{arith}
use lib.ListN.{length, get_or}
use Rattle.paper_circuit.specs.Circuit.{channel_of}
use Rattle.table_blocks.specs.Blocks.{form_of}
use Rattle.table_blocks.specs.declared.Block.{Block}
use Rattle.table_blocks.specs.declared.Form.TheVariants.{Line}
use Rattle.table_blocks.specs.declared.Rule.{Rule}
use Rattle.table_nodes.specs.Nodes.{Fine}
use Rattle.table_layout.specs.Rows.{block_by}
use Rattle.paper_clauses.specs.Clauses.{Clause}
use Rattle.search_decode.specs.Decode.{CellOf}
use Rattle.search_decode.specs.declared.Cell.{Cell}
use Rattle.search_closing.specs.Values.{Trailing}
use Rattle.search_closing.specs.declared.Closed.{Closed}
use Rattle.search_visits.specs.Visits.{Visited}
use Rattle.search_clauses.proofs.Walk.{row_mentioned}
use Rattle.search_fanout.specs.Fanout.{Ground, Node, Voiced, speaks}
use Rattle.search_fanout.proofs.Rows.{laid}
use Rattle.search_fanout.proofs.Letters.{speaks_letter}

pub node_at : {C k : ℕ} {kinds numbers sizes firsts seats parents : List ℕ} {n m : ℕ} {values trail : List ℕ} {top : ℕ} (y : ℕ) {b : Block}
    → Ground C k kinds numbers sizes firsts seats parents n m → length values ≡ m → y < n → b ≡ block_by kinds numbers sizes firsts k y →
    Fine C k b → Trailing values trail top → Node C k b values trail top
node_at {C} {k} {kinds} {numbers} {sizes} {firsts} y {b} g l h e f t = record {
  fine = f;
  laid = laid g.grid y h e;
  mentioned = row_mentioned C k kinds numbers sizes firsts y b e l (g.mentioned y h);
  trailing = t;
}

-- ---- a letter

pub speaks_line : (C k : ℕ) (b : Block) (e : ℕ) (r : Rule) → speaks e r ≡ true → Voiced C k b r → (form_of r ≡ Line) × (b.points ≡ k)
speaks_line C k b e r s = subst (λ (r : Rule). Voiced C k b r → (form_of r ≡ Line) × (b.points ≡ k)) (sym (speaks_letter e r s)) (λ o. (refl, o.1))

-- ---- a channel's variable, by its number

module _ (C k x : ℕ) (h : x < k * C) where
  pub some_channel : 0 < C
  some_channel = by_cases (dec_lt 0 C) (λ l. l) (λ l. let e : C ≡ 0 = omega (arith, l) in absurd (omega (arith, ap (λ (C : ℕ). k * C) e, h, zero k)))
    where
      zero : (k : ℕ) → k * 0 ≡ 0
      zero k = omega arith

  module _ {cell : Cell} (o : CellOf C x cell) where
    pub instant_below : cell.line < k
    instant_below = by_cases (dec_lt cell.line k) (λ l. l) (λ l. absurd (omega (arith, mul-le-mul_right {m = k} {n = cell.line} C (omega (arith, l)), o.at, h)))

    pub channel_is : suc x ≡ channel_of C cell.line cell.cell
    channel_is = omega (arith, o.at)

-- ---- answers

pub visited_done : {T : List Clause} {v₀ t₀ values trail : List ℕ} {top₀ top : ℕ} {r : Closed} → r ≡ record { clash = false; top = top }
    → Visited T v₀ t₀ top₀ values trail (record { clash = false; top = top }) → Visited T v₀ t₀ top₀ values trail r
visited_done {T} {v₀} {t₀} {values} {trail} {top₀} e w = subst (λ (r : Closed). Visited T v₀ t₀ top₀ values trail r) (sym e) w

-- a row but the root is none of its own parts
pub other_row : {C k : ℕ} {kinds numbers sizes firsts seats parents : List ℕ} {n m z : ℕ} → Ground C k kinds numbers sizes firsts seats parents n m →
    z < n → (z ≡ 0 → ⊥) → get_or parents z 0 ≡ z → ⊥
other_row {z = z} g h f e = by_cases (dec_lt 0 z) (λ l. omega (arith, g.grid.under z l h, e)) (λ l. f (omega (arith, l)))
