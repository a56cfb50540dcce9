-- A line's parts by how many there are.
-- And what names no variable of another node: neither its block's, nor its parts' truth.
use mathlib.Core.Path.{◌≡◌, refl, sym, ap, ◌∙◌}
use mathlib.Core.Logic.{◌⊎◌, inl, inr, ⊎_elim}
use mathlib.Core.Bool.{Bool, true, false, ◌&&◌, false≢true}
use Prim.Native.Nat.{ℕ, ◌*◌, ◌≤◌, ◌<◌}
use native.Mathlib.Omega.{arith}
use lib.Dec.{leb}
use borrow.Author.Tests.{leb-true, le-leb}
use Rattle.lists.proofs.Tests.{both}
use Rattle.paper_circuit.proofs.Blocks.{From}
use Rattle.table_blocks.specs.Blocks.{form_of, is_chop}
use Rattle.table_blocks.specs.declared.Block.{Block}
use Rattle.table_blocks.specs.declared.Form.TheVariants.{Line, Intervals}
use Rattle.table_blocks.specs.declared.Rule.{Rule}
use Rattle.table_blocks.specs.declared.Rule.TheVariants.{Fixed, Letter, Negation, And, Or, Chop, Duration, Throughout, Cut}
use Rattle.search_fanout.specs.Fanout.{node_clauses, InBlock, Laid, Pair}
use Rattle.table_blocks.proofs.Rules.{level_rule}
use Rattle.search_fanout.proofs.Cover.{Unnamed}
use Rattle.search_fanout.proofs.Near.{away, letter_away}
use Rattle.search_parts.specs.Part.{parts_of}

-- ---- what the code has tested

pub tested : (m n : ℕ) (b : Bool) → leb m n && b ≡ true → (m ≤ n) × (b ≡ true)
tested m n b e = let w = both (leb m n) b e in (leb-true m n w.0, w.1)

pub untested : (m n : ℕ) (b : Bool) → leb m n && b ≡ false → m ≤ n → b ≡ false
untested m n b e h = sym (ap (λ (a : Bool). a && b) (le-leb m n h)) ∙ e

-- ---- one part, two parts

pub one_part : (r : Rule) {n : ℕ} → n ≡ parts_of r → 1 ≤ n → (r ≡ Negation) ⊎ Pair r
one_part (Fixed v) e h = absurd (omega arith)
one_part (Letter c) e h = absurd (omega arith)
one_part Negation e h = inl refl
one_part And e h = inr (inl refl)
one_part Or e h = inr (inr refl)
one_part Chop e h = absurd (omega arith)
one_part (Duration n) e h = absurd (omega arith)
one_part Throughout e h = absurd (omega arith)
one_part Cut e h = absurd (omega arith)

pub two_parts : (r : Rule) {n : ℕ} → n ≡ parts_of r → 2 ≤ n → Pair r
two_parts r e h = ⊎_elim (λ n. absurd (omega (arith, e, h, ap parts_of n))) (λ p. p) (one_part r e (omega arith))

-- ---- none

module _ (C k u : ℕ) (b : Block) (j : Laid C k b) (n : InBlock k b u → ⊥) where
  pub line_away : (r : Rule) → b.rule ≡ r → form_of r ≡ Line → k * C < u → {m : ℕ} → m ≡ parts_of r →
      (1 ≤ m → From b.left b.points u → ⊥) → (2 ≤ m → From b.right b.points u → ⊥)
      → Unnamed (node_clauses C k b) u
  line_away (Fixed v) e f h g s t = away C k u b e n (λ o. o)
  line_away (Letter c) e f h g s t = letter_away C k u b e j h n
  line_away Negation e f h g s t = away C k u b e n (s (omega arith))
  line_away And e f h g s t = away C k u b e n (⊎_elim (s (omega arith)) (t (omega arith)))
  line_away Or e f h g s t = away C k u b e n (⊎_elim (s (omega arith)) (t (omega arith)))
  line_away Chop e f h g s t = absurd (false≢true cc)
  line_away (Duration m) e f h g s t = absurd (false≢true cc)
  line_away Throughout e f h g s t = absurd (false≢true cc)
  line_away Cut e f h g s t = absurd (false≢true cc)

  pub level_away : (r : Rule) → b.rule ≡ r → form_of r ≡ Intervals → is_chop r ≡ false → (From b.left k u → ⊥) → Unnamed (node_clauses C k b) u
  level_away r e f h s = ⊎_elim (λ d. away C k u b (e ∙ d.1) n s) (λ t. away C k u b (e ∙ t) n s) (level_rule r f h)

-- ---- a test negated
