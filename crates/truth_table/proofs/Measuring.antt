-- A duration and `[S]` look at no instant beyond the interval, so a word of S measures as S does:
-- the count of its ones under the window is how many instants are high.
use mathlib.Core.Path.{◌≡◌, refl, sym, ap, ◌∙◌}
use mathlib.Core.Bool.{Bool}
use mathlib.Core.List.{List}
use Prim.Native.Nat.{ℕ, ◌-◌, ◌≤◌, max}
use native.Mathlib.Omega.{arith}
use lib.Dec.{leb}
use lib.ListN.{get_or, replicate, get_or-replicate}
use Rattle.interval.specs.Limits.{max_steps, max_count, IntervalOf}
use Rattle.interval.specs.Places.{count_of, place_of}
use Rattle.interval.specs.declared.Interval.{Interval}
use Rattle.interval.proofs.Counts.{count_le}
use Rattle.interval.proofs.Laws.{intervals_numbered}
use Rattle.paper_meaning.specs.Meaning.{bit, bit_at, highs, lasts, fills}
use Rattle.paper_meaning.proofs.Laws.{throughout_lasts}
use Rattle.paper_meaning.specs.Words.{WordOf}
use Rattle.truth_word.proofs.Words.{word_highs}
use Rattle.truth_table.specs.Table.{TableOf, least_on, measured}
use Rattle.truth_table.specs.declared.Measure.{Measure}
use Rattle.truth_table.specs.declared.Measure.TheVariants.{AtLeast, Throughout}

module _ (k w : ℕ) (f : ℕ → Bool) (W : WordOf k f w) (v : Interval) (o : IntervalOf k v) where
  lasts_word : (n : ℕ) → lasts n (bit_at w) v ≡ lasts n f v
  unfolding lasts
  lasts_word n = ap (leb n) (word_highs v.i (v.j - v.i) W (omega arith))

  fills_word : fills (bit_at w) v ≡ fills f v
  fills_word = throughout_lasts (bit_at w) v ∙ lasts_word (max 1 (v.j - v.i)) ∙ sym (throughout_lasts f v)

  measured_same : (m : Measure) → measured m (bit_at w) v ≡ measured m f v
  measured_same (AtLeast n) = lasts_word n
  measured_same Throughout = fills_word

pub measured_word : (k : ℕ) (m : Measure) (w : ℕ) (f : ℕ → Bool) (t : List ℕ) → WordOf k f w → TableOf k (measured m (bit_at w)) t → TableOf k (measured m f) t
measured_word k m w f t W T = record { at = λ v o. T.at v o ∙ ap bit (measured_same k w f W v o m) }

-- the same truth at every place
pub constant_places : (k b : ℕ) (v : Bool) (t : List ℕ) → k ≤ max_steps → b ≡ bit v → t ≡ replicate max_count b → TableOf k (λ i. v) t
unfolding count_of
constant_places k b v t h e r = record {
  at = λ i o. ap (λ (t : List ℕ). get_or t (place_of k i) 0) r ∙ get_or-replicate max_count (place_of k i) b 0 (omega (arith, (intervals_numbered k).below i o, count_le max_steps k h)) ∙ e;
}

-- judged by how many must be high
pub measured_least : (m : Measure) (f : ℕ → Bool) (v : Interval) → leb (least_on m v) (highs f v.i (v.j - v.i)) ≡ measured m f v
unfolding lasts
measured_least (AtLeast n) f v = refl
measured_least Throughout f v = sym (throughout_lasts f v)
