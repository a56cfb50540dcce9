-- A list is filled part after part: after i turns its front is f 0, .., f (i − 1), joined. A turn puts f i in the place of as many
-- entries, and what stands before them stays; after n turns the list is full.
use mathlib.Core.Path.{◌≡◌, refl, sym, ap, ap₂, ◌∙◌}
use mathlib.Core.List.{List, ◌++◌, append_assoc}
use Prim.Native.Nat.{ℕ, ◌+◌, ◌-◌, ◌*◌, ◌≤◌, ◌<◌}
use native.Mathlib.Numerals.{add-one}
use native.Mathlib.Omega.{arith}
use lib.ListN.{length, take, length-append}
use lib.Seq.{take_all, take_at, length-take-le}
use borrow.Rule.Slice.PartMut.{mid_of, put_mid, same_len_mid, mid_len}
use Rattle.lists.specs.Listing.{rows}
use Rattle.lists.proofs.Listing.{rows_le, sum_ones, sum_times, length_rows}

-- part x has w x entries
pub record Parts (f : ℕ → List ℕ) (w : ℕ → ℕ) (n : ℕ) (l₀ : List ℕ) (at : ℕ) (l : List ℕ) (i : ℕ) : Type 0 where
  pub wide : (x : ℕ) → x < n → length (f x) ≡ w x
  pub turns : i ≤ n
  pub long : length l ≡ length l₀
  pub whole : length l ≡ length (rows n f)
  pub starts : at ≡ length (rows i f)
  pub front : take at l ≡ rows i f

pub begun : {f : ℕ → List ℕ} {w : ℕ → ℕ} {n : ℕ} {l : List ℕ} → ((x : ℕ) → x < n → length (f x) ≡ w x) → length l ≡ length (rows n f) → Parts f w n l 0 l 0
begun e o = record { wide = e; turns = omega arith; long = refl; whole = o; starts = unfold rows in refl; front = unfold rows in refl }

-- parts of one length
pub begun_even : {f : ℕ → List ℕ} {w n : ℕ} {l : List ℕ} → ((x : ℕ) → length (f x) ≡ w) → length l ≡ n * w → Parts f (λ x. w) n l 0 l 0
begun_even {f} {w} {n} e o =
    begun (λ x h. e x) (o ∙ sym (length_rows f (λ x. w) e n ∙ omega (arith, sum_times (λ x. w) (λ x. 1) w n (λ i h. omega arith), ap (λ (m : ℕ). m * w) (sum_ones n))))

module _ {f : ℕ → List ℕ} {w : ℕ → ℕ} {n : ℕ} {l₀ : List ℕ} {at : ℕ} {l : List ℕ} {i : ℕ} (p : Parts f w n l₀ at l i) where
  module _ (h : i < n) where
    -- the next part fits
    pub room : at + w i ≤ length l
    room = omega (arith, p.whole, p.starts, p.wide i h, rows_le f n i h)

    module _ (end : ℕ) (e : end ≡ at + w i) where
      pub part_length : length (mid_of at (end - at) l) ≡ w i
      part_length = mid_len at end l (omega (arith, room)) ∙ omega arith

      pub turn : {part : List ℕ} → part ≡ f i → Parts f w n l₀ end (put_mid at (end - at) l part) (i + 1)
      turn {part} q =
          let m : length part ≡ w i = ap length q ∙ p.wide i h in
          let s : length (put_mid at (end - at) l part) ≡ length l = same_len_mid at (end - at) l part (m ∙ sym part_length) in
          let r : take at l ++ part ≡ rows (i + 1) f = unfold rows in rw add-one (ap₂ (λ (a b : List ℕ). a ++ b) p.front q) in
          let t : length (take at l ++ part) ≡ end = length-append (take at l) part ∙ omega (arith, length-take-le at l (omega (arith, room))) in
          record {
            wide = p.wide;
            turns = omega arith;
            long = s ∙ p.long;
            whole = s ∙ p.whole;
            starts = sym t ∙ ap length r;
            front = ap (take end) (sym (append_assoc (take at l) part _)) ∙ take_at (take at l ++ part) _ end t ∙ r;
          }

  pub done : n ≤ i → l ≡ rows n f
  done h =
      let o : i ≡ n = omega (arith, p.turns) in
      let r : length (rows i f) ≡ length (rows n f) = ap (λ (m : ℕ). length (rows m f)) o in
      sym (take_all at l (omega (arith, p.whole, p.starts, r))) ∙ p.front ∙ ap (λ (m : ℕ). rows m f) o
