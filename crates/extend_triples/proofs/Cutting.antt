-- The cuts of [i, i + d], in order: [i, m] stands m − i places after [i, i], and [m + 1, j] stands k − m places after [m, j], since row m has
-- k + 1 − m places. Bytes that are bits join as truths do.
use mathlib.Core.Path.{◌≡◌, ap, ap₂, ◌∙◌}
use mathlib.Core.Bool.{true, ◌&&◌}
use mathlib.Core.List.{List}
use Prim.Native.Nat.{ℕ, ◌+◌, ◌-◌, ◌≤◌, ◌<◌}
use native.Mathlib.Omega.{arith}
use lib.Bits.{bit_and}
use lib.ListN.{get_or}
use Rattle.interval.specs.Limits.{max_steps, max_count}
use Rattle.interval.specs.Places.{count_of, place_of}
use Rattle.interval.specs.Rows.{start_of}
use Rattle.interval.proofs.Counts.{count_le}
use Rattle.interval.proofs.Laws.{intervals_numbered}
use Rattle.interval.proofs.Rows.{place_in_row, row_next}
use Rattle.paper_meaning.specs.Meaning.{bit}
use Rattle.truth_table.specs.Table.{high_at, Binary}
use Rattle.truth_table.proofs.Joined.{joined_bits}
use Rattle.paper_assignments.specs.Extension.{cuts}
use Rattle.extend_triples.specs.Cuts.{on_places}

-- q's byte for the e-th cut of [i, i + d], while there is one
pub record Cutting (k i d e at : ℕ) : Type 0 where
  pub right : e ≤ d → at ≡ place_of k (record { i = i + e; j = i + d })

module _ {k i d e at : ℕ} (s : i + d ≤ k) (w : Cutting k i d e at) where
  pub next_cut : {to : ℕ} → e < d → to ≡ at + (k - (i + e)) → Cutting k i d (e + 1) to
  next_cut h o = record {
    right = λ l.
        let m : i + (e + 1) ≡ i + e + 1 = omega arith in
        omega (
          arith,
          w.right (omega arith),
          row_next k (i + e),
          ap (start_of k) m,
          place_in_row k (record { i = i + e; j = i + d }) (omega arith),
          place_in_row k (record { i = i + (e + 1); j = i + d }) (omega arith),
        );
  }

  pub last_cut : {to : ℕ} → d ≤ e → Cutting k i d (e + 1) to
  last_cut h = record { right = λ l. absurd (omega arith) }

  module _ {first : ℕ} (f : first ≡ place_of k (record { i = i; j = i + 0 })) (h : e ≤ d) where
    left : first + e ≡ place_of k (record { i = i; j = i + e })
    left = omega (arith, place_in_row k (record { i = i; j = i + 0 }) (omega arith), place_in_row k (record { i = i; j = i + e }) (omega arith))

    pub cut_small : k ≤ max_steps → (first + e < max_count) × (at < max_count)
    unfolding count_of
    cut_small l =
        let b = (intervals_numbered k).below in
        omega (arith, left, w.right h, count_le max_steps k l, b (record { i = i; j = i + e }) (omega arith), b (record { i = i + e; j = i + d }) (omega arith))

    pub cut_byte : {p q : List ℕ} → Binary p → Binary q
        → bit_and (get_or p (first + e) 0) (get_or q at 0) ≡ bit (cuts (on_places k (high_at p)) (on_places k (high_at q)) (record { i = i; m = i + e; j = i + d }))
    cut_byte {p} {q} b c =
        ap₂ bit_and (b.at (first + e)) (c.at at) ∙ joined_bits true (high_at p (first + e)) (high_at q at)
        ∙ ap₂ (λ (x y : ℕ). bit (high_at p x && high_at q y)) left (w.right h)
