-- Rules of one line, a gate for each instant or interval: the gate in place x turns on the parts' truth in place x and, a letter's, on its
-- channel at instant x; so a variable of place x is mentioned in place x alone.
use mathlib.Core.Path.{◌≡◌, sym, subst}
use mathlib.Core.Logic.{◌⊎◌, inl, inr, ⊎_elim}
use mathlib.Core.Bool.{false≢true}
use Prim.Native.Nat.{ℕ, ◌+◌, ◌*◌, ◌<◌}
use native.Mathlib.Omega.{arith}
use Rattle.lists.specs.Listing.{sum}
use Rattle.interval.proofs.Shape.{Shape, Entry, Inside, count, place, place_lt}
use Rattle.paper_circuit.proofs.Inputs.{row_lt}
use Rattle.table_blocks.specs.Blocks.{form_of, shape_of, defined_by}
use Rattle.table_blocks.specs.declared.Block.{Block}
use Rattle.table_blocks.specs.declared.Form.TheVariants.{Line}
use Rattle.table_blocks.specs.declared.Rule.{Rule}
use Rattle.table_blocks.specs.declared.Rule.TheVariants.{Fixed, Letter, Negation, And, Or, Chop, Duration, Throughout, Cut}
use Rattle.search_clauses.specs.Clauses.{clauses_at}
use Rattle.search_fanout.specs.Fanout.{node_clauses, Voiced, Laid, Pair}
use Rattle.search_fanout.specs.Walks.{Apart}
use Rattle.search_fanout.proofs.Cover.{Suffices}
use Rattle.search_fanout.proofs.Fine.{ruled, one_place}

module _ (C k u : ℕ) (b : Block) (x : ℕ) (h : x < b.points) where
  abbrev cells : Shape
  cells = shape_of b.points k Negation

  line_count : count cells ≡ b.points
  unfolding sum
  line_count = omega arith

  line_lt : (y : Entry cells) → Inside cells y → place cells y < b.points
  line_lt y i = omega (arith, place_lt cells y i, line_count)

  abbrev Says : Rule → Type 1
  Says q = Suffices (node_clauses C k (ruled q b)) u (clauses_at (defined_by C k (ruled q b)) x)

  -- ---- the block's own variable

  module _ (e : u ≡ b.first + x) (g : k * C < b.first) where
    here : {X : Type 0} {p : ℕ} → (X → ⊥) → (u ≡ b.first + p) ⊎ X → x ≡ p
    here n (inl f) = omega (arith, e, f)
    here n (inr m) = absurd (n m)

    own_line : (q : Rule) → form_of q ≡ Line → Apart k b q → Voiced C k b q → Says q
    own_line (Fixed v) l j c = one_place C k u (ruled (Fixed v) b) x (omega (arith, line_count)) (λ y i m. here (λ m. m) m)
    own_line (Letter a) l j c = one_place C k u (ruled (Letter a) b) x (omega (arith, line_count))
        (λ y i m. here (λ m. omega (arith, e, g, m, line_lt y i, c.1, row_lt C k (place cells y) a (omega (arith, line_lt y i, c.1)) c.0)) m)
    own_line Negation l j c = one_place C k u (ruled Negation b) x (omega (arith, line_count)) (λ y i m. here (λ m. omega (arith, e, m, j)) m)
    own_line And l j c = one_place C k u (ruled And b) x (omega (arith, line_count)) (λ y i m. here (⊎_elim (λ m. omega (arith, e, m, j)) (λ m. omega (arith, e, m, j))) m)
    own_line Or l j c = one_place C k u (ruled Or b) x (omega (arith, line_count)) (λ y i m. here (⊎_elim (λ m. omega (arith, e, m, j)) (λ m. omega (arith, e, m, j))) m)
    own_line Chop l j c = absurd (false≢true cc)
    own_line (Duration n) l j c = absurd (false≢true cc)
    own_line Throughout l j c = absurd (false≢true cc)
    own_line Cut l j c = absurd (false≢true cc)

  pub own_suffices : form_of b.rule ≡ Line → Laid C k b → u ≡ b.first + x → Suffices (node_clauses C k b) u (clauses_at (defined_by C k b) x)
  own_suffices l j e = own_line e j.beyond b.rule l j.apart j.voiced

  -- ---- a part's

  -- in place x alone, of a block with two parts
  abbrev Sole : Type 0
  Sole = (p : ℕ) → p < b.points → (u ≡ b.first + p) ⊎ ((u ≡ b.left + p) ⊎ (u ≡ b.right + p)) → x ≡ p

  pair_line : (q : Rule) → Pair q → Apart k b q → (Apart k b And → Sole) → Says q
  pair_line q (inl e) j f = subst (λ (q : Rule). Apart k b q → Says q) (sym e) (λ j. one_place C k u (ruled And b) x (omega (arith, line_count)) (λ y i m. f j (place cells y) (line_lt y i) m)) j
  pair_line q (inr e) j f = subst (λ (q : Rule). Apart k b q → Says q) (sym e) (λ j. one_place C k u (ruled Or b) x (omega (arith, line_count)) (λ y i m. f j (place cells y) (line_lt y i) m)) j

  left_of : u ≡ b.left + x → Apart k b And → Sole
  left_of e j p l (inl m) = absurd (omega (arith, e, m, j))
  left_of e j p l (inr (inl m)) = omega (arith, e, m)
  left_of e j p l (inr (inr m)) = absurd (omega (arith, e, m, j))

  right_of : u ≡ b.right + x → Apart k b And → Sole
  right_of e j p l (inl m) = absurd (omega (arith, e, m, j))
  right_of e j p l (inr (inl m)) = absurd (omega (arith, e, m, j))
  right_of e j p l (inr (inr m)) = omega (arith, e, m)

  left_not : u ≡ b.left + x → Apart k b Negation → Says Negation
  left_not e j = one_place C k u (ruled Negation b) x (omega (arith, line_count)) (λ y i m. ⊎_elim (λ m. absurd (omega (arith, e, m, line_lt y i))) (λ m. omega (arith, e, m)) m)

  pub left_suffices : (b.rule ≡ Negation) ⊎ Pair b.rule → Laid C k b → u ≡ b.left + x → Suffices (node_clauses C k b) u (clauses_at (defined_by C k b) x)
  left_suffices (inl e) j f = subst (λ (q : Rule). Apart k b q → Says q) (sym e) (left_not f) j.apart
  left_suffices (inr o) j f = pair_line b.rule o j.apart (left_of f)

  pub right_suffices : Pair b.rule → Laid C k b → u ≡ b.right + x → Suffices (node_clauses C k b) u (clauses_at (defined_by C k b) x)
  right_suffices o j f = pair_line b.rule o j.apart (right_of f)
