-- A byte read from the channel variables is the sum of the powers of two of the channels that are high: it is below 2^C, has those bits and
-- no others, and is the only such number.
use mathlib.Core.Path.{◌≡◌, sym, ap, ◌∙◌}
use mathlib.Core.List.{List}
use Prim.Native.Nat.{ℕ, ◌^◌, ◌<◌}
use native.Mathlib.Omega.{arith}
use lib.ListN.{length, get_or}
use lib.Seq.{ext_get_or}
use Rattle.lists.proofs.Listing.{length_tab, get_or_tab}
use Rattle.lists.proofs.Lists.{all_rows, all_at}
use Rattle.paper_meaning.specs.Meaning.{bit_at, channel_at}
use Rattle.paper_meaning.specs.Recording.{EachBelow}
use Rattle.paper_meaning.proofs.Words.{packed, packed_is, packed_only}
use Rattle.paper_circuit.specs.Gates.{Assignment}
use Rattle.paper_circuit.specs.Circuit.{channel_of}
use Rattle.paper_assignments.specs.Extension.{recording_by}

module _ (C k : ℕ) (a : Assignment) where
  -- "then written, k bytes"
  pub recording_length : length (recording_by C k a) ≡ k
  unfolding recording_by
  recording_length = length_tab k _

  recording_at : (t : ℕ) → t < k → get_or (recording_by C k a) t 0 ≡ packed (λ c. a (channel_of C t c)) C
  unfolding recording_by
  recording_at t h = get_or_tab k _ t 0 h

  -- "bits C and above are 0"
  pub recording_below : EachBelow (2 ^ C) (recording_by C k a)
  unfolding recording_by
  recording_below = all_rows _ k _ (λ t h. ((packed_is (λ c. a (channel_of C t c)) C).0, tt))

  -- "The recording read from its channel variables"
  pub recording_channels : (t c : ℕ) → t < k → c < C → channel_at (recording_by C k a) c t ≡ a (channel_of C t c)
  unfolding channel_at
  recording_channels t c h l = ap (λ b. bit_at b c) (recording_at t h) ∙ (packed_is (λ c. a (channel_of C t c)) C).1.at c l

  -- it is the only recording with these channels
  pub recording_only : (recording : List ℕ) → length recording ≡ k → EachBelow (2 ^ C) recording
      → ((t c : ℕ) → t < k → c < C → a (channel_of C t c) ≡ channel_at recording c t) → recording_by C k a ≡ recording
  unfolding channel_at
  recording_only recording e h s =
      ext_get_or 0 _ recording (recording_length ∙ sym e) (λ t m.
      let o : t < k = omega (arith, recording_length) in
      recording_at t o ∙ packed_only _ (get_or recording t 0) C (all_at _ recording 0 h t (omega arith), record { at = λ c n. sym (s t c o n) }))
