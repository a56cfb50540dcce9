-- What a rule's form and the code's tests tell of it: a block of one line has one row, one of triples is a chop's, one of intervals that is
-- no chop's is a duration's or `[S]`'s.
use mathlib.Core.Path.{◌≡◌, refl, sym, ap₂, ◌∙◌}
use mathlib.Core.Logic.{◌⊎◌, inl, inr}
use mathlib.Core.Bool.{true, false, false≢true}
use Prim.Native.Nat.{ℕ}
use native.Mathlib.Omega.{arith}
use Rattle.lists.specs.Listing.{sum}
use Rattle.interval.proofs.Shape.{line, stack, count}
use Rattle.table_blocks.specs.Blocks.{is_chop, form_of, rows_of, lines_of, cells_of, shape_of}
use Rattle.table_blocks.specs.declared.Form.{Form}
use Rattle.table_blocks.specs.declared.Form.TheVariants.{Line, Intervals, Triples}
use Rattle.table_blocks.specs.declared.Rule.{Rule}
use Rattle.table_blocks.specs.declared.Rule.TheVariants.{Fixed, Letter, Negation, And, Or, Chop, Duration, Throughout, Cut}

pub chop_rule : (r : Rule) → is_chop r ≡ true → r ≡ Chop
chop_rule (Fixed v) e = absurd (false≢true e)
chop_rule (Letter c) e = absurd (false≢true e)
chop_rule Negation e = absurd (false≢true e)
chop_rule And e = absurd (false≢true e)
chop_rule Or e = absurd (false≢true e)
chop_rule Chop e = refl
chop_rule (Duration n) e = absurd (false≢true e)
chop_rule Throughout e = absurd (false≢true e)
chop_rule Cut e = absurd (false≢true e)

pub line_rule : (k : ℕ) (r : Rule) → form_of r ≡ Line → (rows_of k r ≡ 1) × (is_chop r ≡ false)
line_rule k (Fixed v) e = (refl, refl)
line_rule k (Letter c) e = (refl, refl)
line_rule k Negation e = (refl, refl)
line_rule k And e = (refl, refl)
line_rule k Or e = (refl, refl)
line_rule k Chop e = absurd (false≢true cc)
line_rule k (Duration n) e = absurd (false≢true cc)
line_rule k Throughout e = absurd (false≢true cc)
line_rule k Cut e = absurd (false≢true cc)

pub level_rule : (r : Rule) → form_of r ≡ Intervals → is_chop r ≡ false → ((n : ℕ) × (r ≡ Duration n)) ⊎ (r ≡ Throughout)
level_rule (Fixed v) e f = absurd (false≢true cc)
level_rule (Letter c) e f = absurd (false≢true cc)
level_rule Negation e f = absurd (false≢true cc)
level_rule And e f = absurd (false≢true cc)
level_rule Or e f = absurd (false≢true cc)
level_rule Chop e f = absurd (false≢true (sym f))
level_rule (Duration n) e f = inl (n, refl)
level_rule Throughout e f = inr refl
level_rule Cut e f = absurd (false≢true cc)

pub triples_rule : (r : Rule) → form_of r ≡ Triples → r ≡ Cut
triples_rule (Fixed v) e = absurd (false≢true cc)
triples_rule (Letter c) e = absurd (false≢true cc)
triples_rule Negation e = absurd (false≢true cc)
triples_rule And e = absurd (false≢true cc)
triples_rule Or e = absurd (false≢true cc)
triples_rule Chop e = absurd (false≢true cc)
triples_rule (Duration n) e = absurd (false≢true cc)
triples_rule Throughout e = absurd (false≢true cc)
triples_rule Cut e = refl

pub line_count : (points k : ℕ) (r : Rule) → form_of r ≡ Line → count (shape_of points k r) ≡ points
unfolding sum
line_count points k r e =
    ap₂ (λ (n : ℕ) (f : Form). count (stack n (λ a. stack (lines_of k a f) (λ i. line (cells_of points k i f))))) (line_rule k r e).0 e ∙ omega arith
