-- The rows of the node table: blocks follow each other from the channels on, a node's before those of its parts. So a variable lies in one
-- row's block only, and a row that names it is that row or its parent's, or, the variable being a channel, a letter's.
use mathlib.Core.Path.{◌≡◌, refl, sym, ap, ◌∙◌, subst}
use mathlib.Core.Logic.{⊎_elim, by_cases}
use mathlib.Core.List.{List}
use Prim.Native.Nat.{ℕ, ◌+◌, ◌*◌, ◌≤◌, ◌<◌}
use native.Mathlib.Decide.{dec_lt}
use native.Mathlib.Nat.{suc-mul}
use native.Mathlib.Omega.{arith}
use lib.ListN.{get_or}
use Rattle.interval.specs.Places.{count_of}
use Rattle.lists.proofs.Listing.{sum_le, sum_next}
use Rattle.paper_circuit.proofs.Blocks.{From}
use Rattle.paper_circuit.proofs.Inputs.{row_lt}
use Rattle.table_blocks.specs.Blocks.{rule_by}
use Rattle.table_blocks.specs.declared.Block.{Block}
use Rattle.table_blocks.specs.declared.Rule.{Rule}
use Rattle.table_blocks.specs.declared.Rule.TheVariants.{Fixed, Letter, Negation, And, Or, Chop, Duration, Throughout, Cut}
use Rattle.table_sizes.specs.Weights.{variable_weight, points_by, weight_by, row_weight, weight_to}
use Rattle.table_sizes.proofs.Weights.{longer_ones}
use Rattle.paper_clauses.specs.Clauses.{Clause}
use Rattle.table_layout.specs.Rows.{seat_by, block_by}
use Rattle.search_clauses.specs.Clauses.{row_clauses}
use Rattle.search_fanout.specs.Fanout.{width_by, InBlock, Voiced, Laid, InRow, PartAt, PartsAt, Grid}
use Rattle.search_fanout.specs.Walks.{Apart}
use Rattle.search_fanout.proofs.Cover.{Unnamed}
use Rattle.search_fanout.proofs.Near.{Outer, away}

module _ {C k : ℕ} {kinds numbers sizes firsts parents : List ℕ} {n : ℕ} (g : Grid C k kinds numbers sizes firsts parents n) where
  abbrev pub block : ℕ → Block
  block y = block_by kinds numbers sizes firsts k y

  abbrev pub row : ℕ → List Clause
  row y = row_clauses C k kinds numbers sizes firsts y

  abbrev pub In : ℕ → ℕ → Type 0
  In y u = InRow k kinds numbers firsts y u

  abbrev width : ℕ → ℕ
  width y = row_weight variable_weight k (get_or kinds y 0) (get_or numbers y 0)

  -- ---- a variable lies in one row's block only

  -- the rows after y begin where its block ends or later
  follows : (y z : ℕ) → y < z → z < n → get_or firsts y 0 + width y ≤ get_or firsts z 0
  unfolding weight_to
  follows y z l h = omega (arith, sum_le width z (y + 1) (omega arith), sum_next width y, g.first y (omega arith), g.first z h)

  pub one_row : (y z u : ℕ) → y < n → z < n → In y u → In z u → y ≡ z
  one_row y z u h i a b =
      by_cases (dec_lt y z) (λ l. absurd (omega (arith, a, b, follows y z l i))) (λ m. by_cases (dec_lt z y) (λ l. absurd (omega (arith, a, b, follows z y l h))) (λ o. omega arith))

  pub beyond : (z : ℕ) → z < n → k * C < get_or firsts z 0
  beyond z h = omega (arith, g.first z h)

  -- ---- where a node's block lies

  module _ (y : ℕ) (h : y < n) where
    abbrev next : ℕ
    next = y + 1

    abbrev last : ℕ
    last = y + 1 + get_or sizes (y + 1) 0

    abbrev points : ℕ
    points = points_by k (get_or kinds y 0)

    abbrev seat : ℕ → ℕ
    seat z = seat_by kinds numbers firsts k z

    next_from : next < n → get_or firsts y 0 + width y ≤ seat next
    unfolding seat_by
    next_from l = omega (arith, follows y next (omega arith) l)

    last_from : (p : ℕ) → PartAt k kinds numbers parents n y next p → last < n → seat next + p ≤ seat last
    unfolding seat_by
    last_from p q l = omega (arith, q.2, follows next last (omega (arith, g.full next q.0)) l)

    abbrev Wide : Rule → Type 0
    Wide q = width y ≡ width_by k points q

    apart_by : (q : Rule) → Wide q → PartsAt C k kinds numbers parents n y last points q → Apart k (block y) q
    unfolding weight_by block_by
    apart_by (Fixed v) e p = tt
    apart_by (Letter c) e p = tt
    apart_by Negation e p = omega (arith, e, next_from p.0)
    apart_by And e p = (omega (arith, e, next_from p.0.0), last_from points p.0 p.1.0)
    apart_by Or e p = (omega (arith, e, next_from p.0.0), last_from points p.0 p.1.0)
    apart_by Chop e p = (omega (arith, e, next_from p.0.0), last_from (count_of k) p.0 p.1.0)
    apart_by (Duration m) e p = omega (arith, e, next_from p.0, suc-mul m (count_of k), ap (λ c. m * c) (longer_ones k))
    apart_by Throughout e p = omega (arith, e, next_from p.0, longer_ones k)
    apart_by Cut e p = absurd p

    voiced_by : (q : Rule) → PartsAt C k kinds numbers parents n y last points q → Voiced C k (block y) q
    unfolding block_by
    voiced_by (Fixed v) p = tt
    voiced_by (Letter c) p = p
    voiced_by Negation p = tt
    voiced_by And p = tt
    voiced_by Or p = tt
    voiced_by Chop p = tt
    voiced_by (Duration m) p = tt
    voiced_by Throughout p = tt
    voiced_by Cut p = tt

    pub laid : {b : Block} → b ≡ block y → Laid C k b
    unfolding block_by row_weight
    laid e =
        let q = rule_by (get_or kinds y 0) (get_or numbers y 0) in
        subst (Laid C k) (sym e) (record { beyond = beyond y h; apart = apart_by q refl (g.parts y h); voiced = voiced_by q (g.parts y h) })

    pub in_block : {b : Block} → b ≡ block y → {u : ℕ} → In y u → InBlock k b u
    unfolding block_by row_weight
    in_block e {u} i = subst (λ (b : Block). InBlock k b u) (sym e) i

    -- ---- a variable of another row's block

    module _ (z u : ℕ) (i : z < n) (o : In z u) (d : y ≡ z → ⊥) where
      pub not_own : {b : Block} → b ≡ block y → InBlock k b u → ⊥
      unfolding block_by row_weight
      not_own e f = d (one_row y z u h i (subst (λ (b : Block). InBlock k b u) e f) o)

      -- a part's truth is in its block
      in_part : (x p : ℕ) → PartAt k kinds numbers parents n y x p → From (seat x) p u → get_or parents z 0 ≡ y
      unfolding seat_by
      in_part x p q f = ap (λ x. get_or parents x 0) (one_row z x u i q.0 o (omega (arith, f, q.2))) ∙ q.1

      outer_parent : (q : Rule) → PartsAt C k kinds numbers parents n y last points q → Outer C k (block y) u q → get_or parents z 0 ≡ y
      unfolding block_by
      outer_parent (Fixed v) p f = absurd f
      outer_parent (Letter c) p f = absurd (omega (arith, f.2, o, beyond z i, row_lt C k f.0 c (omega (arith, f.1, p.1)) p.0))
      outer_parent Negation p f = in_part next points p f
      outer_parent And p f = ⊎_elim (in_part next points p.0) (in_part last points p.1) f
      outer_parent Or p f = ⊎_elim (in_part next points p.0) (in_part last points p.1) f
      outer_parent Chop p f = ⊎_elim (in_part next (count_of k) p.0) (in_part last (count_of k) p.1) f
      outer_parent (Duration m) p f = in_part next k p f
      outer_parent Throughout p f = in_part next k p f
      outer_parent Cut p f = absurd p

      -- a row that is not the parent's does not name it
      pub elsewhere : (y ≡ get_or parents z 0 → ⊥) → Unnamed (row y) u
      unfolding block_by
      elsewhere m = away C k u (block y) refl (not_own refl) (λ f. m (sym (outer_parent (rule_by (get_or kinds y 0) (get_or numbers y 0)) (g.parts y h) f)))
