-- A channel at instant t: a letter's gate in place t turns on its channel at instant t, and no other rule's gate on a channel. So the rows
-- of the channel's letters, each in place t, suffice in the table.
use mathlib.Core.Path.{◌≡◌, refl, sym, ap, ◌∙◌, subst}
use mathlib.Core.Logic.{⊎_elim, by_cases}
use mathlib.Core.Bool.{Bool, true, false, cond, false≢true}
use mathlib.Core.List.{List, [], ◌++◌}
use Prim.Native.Nat.{ℕ, ◌+◌, ◌*◌, ◌≤◌, ◌<◌}
use native.Mathlib.Decide.{dec_lt}
use native.Mathlib.Omega.{arith}
use lib.ListN.{get_or}
use borrow.Author.Tests.{eqb-true, eqb-false}
use Rattle.lists.specs.Listing.{rows, sum}
use Rattle.interval.proofs.Shape.{place}
use Rattle.paper_circuit.specs.Circuit.{channel_of}
use Rattle.paper_circuit.specs.declared.Gate.TheVariants.{Constant}
use Rattle.paper_circuit.proofs.Inputs.{row_lt}
use Rattle.table_blocks.specs.Blocks.{rule_by, shape_of, defined_by}
use Rattle.table_blocks.specs.declared.Block.{Block}
use Rattle.table_blocks.specs.declared.Rule.{Rule}
use Rattle.table_blocks.specs.declared.Rule.TheVariants.{Fixed, Letter, Negation, And, Or, Chop, Duration, Throughout, Cut}
use Rattle.paper_clauses.specs.Clauses.{Clause, clauses_of}
use Rattle.table_layout.specs.Rows.{seat_by, block_by}
use Rattle.search_closing.specs.Values.{Trailing}
use Rattle.search_closing.specs.declared.Closed.{Closed as Ended}
use Rattle.search_visits.specs.Visits.{Visited}
use Rattle.search_visits.proofs.Parts.{visited_none, part_first}
use Rattle.search_clauses.specs.Clauses.{clauses_at, table_by}
use Rattle.search_fanout.specs.Fanout.{node_clauses, Voiced, Laid, Grid, speaks, letter_at}
use Rattle.search_fanout.specs.Walks.{Apart}
use Rattle.search_fanout.proofs.Cover.{part_row, part_each, Unnamed, covers_none, covers_row, covers_both, covers_rows, Suffices, suffices_none}
use Rattle.search_fanout.proofs.Fine.{ruled, one_place}
use Rattle.search_fanout.proofs.Near.{Outer, away}
use Rattle.search_fanout.proofs.Rows.{block, row, laid}

same_channel : (C x t c e : ℕ) → c < C → e < C → channel_of C x c ≡ channel_of C t e → (x ≡ t) × (c ≡ e)
same_channel C x t c e h g f =
    by_cases (dec_lt x t) (λ m. absurd (omega (arith, row_lt C t x c m h)))
    (λ m. by_cases (dec_lt t x) (λ o. absurd (omega (arith, row_lt C x t e o g))) (λ o. let s : x ≡ t = omega arith in (s, omega (arith, f, ap (λ x. x * C) s))))

-- only a letter of the channel speaks of it
pub speaks_letter : (e : ℕ) (r : Rule) → speaks e r ≡ true → r ≡ Letter e
speaks_letter e (Fixed v) s = absurd (false≢true s)
speaks_letter e (Letter c) s = ap Letter (eqb-true c e s)
speaks_letter e Negation s = absurd (false≢true s)
speaks_letter e And s = absurd (false≢true s)
speaks_letter e Or s = absurd (false≢true s)
speaks_letter e Chop s = absurd (false≢true s)
speaks_letter e (Duration n) s = absurd (false≢true s)
speaks_letter e Throughout s = absurd (false≢true s)
speaks_letter e Cut s = absurd (false≢true s)

-- ---- a block

module _ (C k u t e : ℕ) (h : t < k) (l : e < C) (f : u ≡ channel_of C t e) where
  low : u ≤ k * C
  low = omega (arith, f, row_lt C k t e h l)

  module _ (b : Block) (o : k * C < b.first) where
    -- a letter's block in place t
    letter_at_lem : Voiced C k b (Letter e) → Suffices (node_clauses C k (ruled (Letter e) b)) u (clauses_at (defined_by C k (ruled (Letter e) b)) t)
    unfolding sum
    letter_at_lem v = one_place C k u (ruled (Letter e) b) t (omega (arith, h, v.1))
        (λ y i. ⊎_elim (λ m. absurd (omega (arith, m, o, low))) (λ m. sym (same_channel C (place (shape_of b.points k (Letter e)) y) t e e v.0 l (sym m ∙ f)).0))

    spoken : (q : Rule) → speaks e q ≡ true → Voiced C k b q → Suffices (node_clauses C k (ruled q b)) u (clauses_at (defined_by C k (ruled q b)) t)
    spoken q s = subst (λ (q : Rule). Voiced C k b q → Suffices (node_clauses C k (ruled q b)) u (clauses_at (defined_by C k (ruled q b)) t)) (sym (speaks_letter e q s)) letter_at_lem

    -- no input of another's
    unspoken : (q : Rule) → speaks e q ≡ false → Voiced C k b q → Apart k b q → Outer C k b u q → ⊥
    unspoken (Fixed v) s p j m = m
    unspoken (Letter c) s p j m = eqb-false c e s (same_channel C m.0 t c e p.0 l (sym m.2 ∙ f)).1
    unspoken Negation s p j m = omega (arith, m, j, o, low)
    unspoken And s p j m = ⊎_elim (λ m. omega (arith, m, j, o, low)) (λ m. omega (arith, m, j, o, low)) m
    unspoken Or s p j m = ⊎_elim (λ m. omega (arith, m, j, o, low)) (λ m. omega (arith, m, j, o, low)) m
    unspoken Chop s p j m = ⊎_elim (λ m. omega (arith, m, j, o, low)) (λ m. omega (arith, m, j, o, low)) m
    unspoken (Duration n) s p j m = omega (arith, m, j, o, low)
    unspoken Throughout s p j m = omega (arith, m, j, o, low)
    unspoken Cut s p j m = j

  module _ (b : Block) (j : Laid C k b) where
    pub heard : speaks e b.rule ≡ true → Suffices (node_clauses C k b) u (clauses_at (defined_by C k b) t)
    heard s = spoken b j.beyond b.rule s j.voiced

    pub unheard : speaks e b.rule ≡ false → Unnamed (node_clauses C k b) u
    unheard s = away C k u b refl (λ m. omega (arith, m, j.beyond, low)) (unspoken b j.beyond b.rule s j.voiced j.apart)

  -- ---- the table

  module _ {kinds numbers sizes firsts parents : List ℕ} {n : ℕ} (g : Grid C k kinds numbers sizes firsts parents n) (some : 0 < n) where
    abbrev table : List Clause
    table = table_by C k kinds numbers sizes firsts n

    abbrev letters : ℕ → List Clause
    letters y = letter_at C k kinds numbers sizes firsts t e y

    abbrev root : List Clause
    root = clauses_of (seat_by kinds numbers firsts k 0 + k) (Constant true)

    row_suffices : (y : ℕ) → y < n → Suffices (row g y) u (letters y)
    row_suffices y q = go (speaks e (block g y).rule) refl
      where
        go : (s : Bool) → speaks e (block g y).rule ≡ s → Suffices (row g y) u (cond s (clauses_at (defined_by C k (block g y)) t) [])
        go true s = heard (block g y) (laid g y q refl) s
        go false s = suffices_none (unheard (block g y) (laid g y q refl) s)

    root_unnamed : Unnamed root u
    unfolding clauses_of seat_by
    root_unnamed = record { none = ((⊎_elim (λ m. omega (arith, m, low, g.first 0 some)) (λ m. m)), tt) }

    pub channel_suffices : Suffices table u (rows n letters)
    unfolding table_by
    channel_suffices = record {
      part = part_each (rows n (row g) ++ root) letters n (λ y q S c. (row_suffices y q).part S (part_row (row g) n y q S (part_first (rows n (row g)) root S c)));
      covers = covers_both (covers_rows (row g) n (λ y q. covers_row letters n y q (row_suffices y q).covers)) (covers_none (rows n letters) root_unnamed);
    }

-- ---- a row that the code has looked at, by its rule

module _ (C k : ℕ) (kinds numbers sizes firsts : List ℕ) (t e x : ℕ) {s : Bool} (f : s ≡ speaks e (rule_by (get_or kinds x 0) (get_or numbers x 0))) where
  pub letter_speaks : s ≡ true → {b : Block} → b ≡ block_by kinds numbers sizes firsts k x → speaks e b.rule ≡ true
  unfolding block_by
  letter_speaks h g = ap (λ (b : Block). speaks e b.rule) g ∙ (sym f ∙ h)

  module _ {v₀ t₀ : List ℕ} {top₀ : ℕ} where
    pub letter_visited : s ≡ true → {b : Block} → b ≡ block_by kinds numbers sizes firsts k x → {values trail : List ℕ} {r : Ended} →
        Visited (clauses_at (defined_by C k b) t) v₀ t₀ top₀ values trail r
        → Visited (letter_at C k kinds numbers sizes firsts t e x) v₀ t₀ top₀ values trail r
    letter_visited h {b} g {values} {trail} {r} w =
        subst (λ (b : Block). Visited (cond (speaks e b.rule) (clauses_at (defined_by C k b) t) []) v₀ t₀ top₀ values trail r) g
        (subst (λ (c : Bool). Visited (cond c (clauses_at (defined_by C k b) t) []) v₀ t₀ top₀ values trail r) (sym (letter_speaks h g)) w)

    pub letter_passed : s ≡ false → Trailing v₀ t₀ top₀ → Visited (letter_at C k kinds numbers sizes firsts t e x) v₀ t₀ top₀ v₀ t₀ (record { clash = false; top = top₀ })
    unfolding block_by
    letter_passed h w =
        subst (λ (c : Bool). Visited (cond c (clauses_at (defined_by C k (block_by kinds numbers sizes firsts k x)) t) []) v₀ t₀ top₀ v₀ t₀
        (record { clash = false; top = top₀ })) (sym h ∙ f) (visited_none w)
