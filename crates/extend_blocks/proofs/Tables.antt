-- A table put into a part of an assignment gives the truths in order: every place is an interval's, and its byte tells the truth there.
-- Bytes that are bits are the table of the truths that they tell.
use mathlib.Core.Path.{◌≡◌, refl, sym, ap, ◌∙◌}
use mathlib.Core.Bool.{Bool, true, false}
use mathlib.Core.List.{List}
use Prim.Native.Nat.{ℕ, ◌/◌, ◌%◌}
use lib.Dec.{eqb}
use lib.ListN.{get_or}
use Rattle.lists.specs.Listing.{tab}
use Rattle.interval.specs.Places.{count_of, place_of}
use Rattle.interval.specs.declared.Interval.{Interval}
use Rattle.interval.proofs.Laws.{intervals_numbered}
use Rattle.paper_grammar.specs.declared.Sort.TheVariants.{Formula}
use Rattle.paper_meaning.specs.Meaning.{bit, bit_at, channel_at}
use Rattle.paper_meaning.specs.Words.{WordOf}
use Rattle.truth_table.specs.Table.{high_at, Binary, TableOf}
use Rattle.paper_assignments.specs.Extension.{truth_values}
use Rattle.paper_assignments.proofs.Values.{truth_tab}
use Rattle.extend_triples.specs.Cuts.{on_places}

pub table_values : (k : ℕ) (f : Interval → Bool) {n : ℕ} {t : List ℕ} → n ≡ count_of k → TableOf k f t → tab n (λ e. get_or t e 0) ≡ truth_values Formula k f
table_values k f {n} {t} c T =
    ap (λ (n : ℕ). tab n (λ e. get_or t e 0)) c
    ∙ truth_tab Formula k f (λ e. get_or t e 0)
    (λ e h. let p = (intervals_numbered k).place_at e (record { i = 0; j = 0 }) h in ap (λ (e : ℕ). get_or t e 0) (sym p.1) ∙ T.at _ p.0)

pub bits_table : {k : ℕ} {p : List ℕ} → Binary p → TableOf k (on_places k (high_at p)) p
bits_table {k} b = record { at = λ v o. b.at (place_of k v) }

-- and a word of their bits 0 is that of these truths
pub bits_word : (k : ℕ) {p : List ℕ} {w : ℕ} → Binary p → WordOf k (channel_at p 0) w → WordOf k (high_at p) w
unfolding channel_at bit_at
bits_word k {p} b W = record { at = λ t l. W.at t l ∙ ap (λ (x : ℕ). eqb (x / 1 % 2) 1) (b.at t) ∙ low_bit (high_at p t) }
  where
    low_bit : (x : Bool) → eqb (bit x / 1 % 2) 1 ≡ x
    low_bit true = refl
    low_bit false = refl
