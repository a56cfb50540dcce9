-- Line after line is stored behind those before it, so what is stored is the strip's beginning; and the call is refused by the first no,
-- or answers with the strip's length, which is as many lines as there are channels and one more.
use mathlib.Core.Path.{◌≡◌, refl, sym, ap, ◌∙◌}
use mathlib.Core.List.{List}
use Prim.Native.Nat.{ℕ, ◌+◌, ◌*◌, ◌≤◌}
use native.Mathlib.Omega.{arith}
use lib.Dec.{leb}
use lib.ListN.{length}
use lib.Seq.{sets, length-sets}
use borrow.Author.Tests.{leb-true}
use Rattle.std.specs.Prelude.{Err, Ok}
use Rattle.moments.specs.Moments.{over}
use Rattle.lists.specs.Listing.{rows}
use Rattle.lists.proofs.Listing.{rows_next}
use Rattle.lists.proofs.Stored.{sets_append, stored_over}
use Rattle.refusal.specs.Asked.{question, ask_places, asked, Reply, ok}
use Rattle.refusal.specs.declared.Refusal.{Refusal}
use Rattle.refusal.proofs.Laws.{earlier_no, last_no, last_yes, all_replied, test_yes}
use Rattle.interval.specs.Limits.{max_steps}
use Rattle.paper_grammar.specs.Limits.{max_channels}
use Rattle.strip.specs.Strip.{line_of, strip_of, line_bytes}
use Rattle.strip.specs.Call.{recorded_questions, Stripped, not_stripped, printed, stripped}
use Rattle.strip.specs.declared.Line.TheVariants.{Ruler, Channel}
use Rattle.strip.proofs.Laws.{Recorded, recorded, line_length, lines_length, strip_length}

-- channels' lines are stored below the ruler's
module _ (k : ℕ) (recording : List ℕ) where
  abbrev lines : ℕ → List ℕ
  lines c = rows c (λ c. line_of k recording (Channel c))

  pub record Stored (ruled : List ℕ) (c : ℕ) (strip : List ℕ) : Type 0 where
    pub is : strip ≡ sets ruled line_bytes (lines c)

  pub begun : {s : List ℕ} → Stored s 0 s
  unfolding rows
  begun = record { is = refl }

  pub turn : {r s t : List ℕ} {c : ℕ} → k ≤ max_steps → Stored r c s → t ≡ sets s ((c + 1) * line_bytes) (line_of k recording (Channel c)) → Stored r (c + 1) t
  turn {r} {c = c} h p e =
      let L : List ℕ = line_of k recording (Channel c) in
      record {
        is =
            e ∙ ap (λ (s : List ℕ). sets s ((c + 1) * line_bytes) L) p.is
            ∙ ap (λ (n : ℕ). sets (sets r line_bytes (lines c)) n L) (omega (arith, lines_length k recording h c))
            ∙ sym (sets_append r line_bytes (lines c) L) ∙ ap (sets r line_bytes) (rows_next (λ c. line_of k recording (Channel c)) c);
      }

  pub ruled_long : (before : List ℕ) {r : List ℕ} → r ≡ sets before 0 (line_of k recording Ruler) → length r ≡ length before
  ruled_long before e = ap length e ∙ length-sets before 0 (line_of k recording Ruler)

  pub long : {r s : List ℕ} {c : ℕ} → Stored r c s → length s ≡ length r
  long {r} {c = c} p = ap length p.is ∙ length-sets r line_bytes (lines c)

  pub done : (before : List ℕ) (n : ℕ) {r s : List ℕ} {c : ℕ} → k ≤ max_steps → r ≡ sets before 0 (line_of k recording Ruler) → Stored r c s → c ≡ n
      → (n + 1) * line_bytes ≤ length before → s ≡ over (strip_of n k recording) before
  unfolding strip_of
  done before n {r} h e p f l =
      let R : List ℕ = line_of k recording Ruler in
      stored_over (strip_of n k recording) before
      (p.is ∙ ap (sets r line_bytes) (ap lines f) ∙ ap (λ (r : List ℕ). sets r line_bytes (lines n)) e
      ∙ ap (λ (m : ℕ). sets (sets before 0 R) m (lines n)) (omega (arith, line_length k recording h Ruler)) ∙ sym (sets_append before 0 R (lines n)))
      (omega (arith, strip_length k recording h n))

-- ---- the call

module _ (C k : ℕ) (recording strip : List ℕ) where
  abbrev questions : List Reply
  questions = recorded_questions C k recording

  abbrev last : Reply
  last = ask_places (length (strip_of C k recording)) (length strip)

  abbrev answer : Stripped
  answer = printed (strip_of C k recording) strip

  pub refused_first : {r : Refusal} → Err r ≡ asked questions Err ok → not_stripped strip r ≡ stripped C k recording strip
  unfolding stripped
  refused_first e = earlier_no (not_stripped strip) answer questions last (sym e)

  -- 1, 2, 10 and 11 are answered with yes; then 18
  module _ (e : ok ≡ asked questions Err ok) where
    is_recording : Recorded C k recording
    is_recording = recorded C k recording (all_replied _ (sym e))

    bytes : length (strip_of C k recording) ≡ (C + 1) * line_bytes
    bytes = strip_length k recording is_recording.steps C

    room : {p : Reply} → p ≡ question 18 0 (leb ((C + 1) * line_bytes) (length strip)) → last ≡ p
    unfolding ask_places
    room a = ap (λ (n : ℕ). question 18 0 (leb n (length strip))) bytes ∙ sym a

    pub no_room : {r : Refusal} → Err r ≡ question 18 0 (leb ((C + 1) * line_bytes) (length strip)) → not_stripped strip r ≡ stripped C k recording strip
    unfolding stripped
    no_room a = last_no (not_stripped strip) answer questions last (sym e) (room a)

    module _ (a : ok ≡ question 18 0 (leb ((C + 1) * line_bytes) (length strip))) where
      -- what the strip's writer asks
      pub writable : (C ≤ max_channels) × (length recording ≤ max_steps) × ((C + 1) * line_bytes ≤ length strip)
      writable = let r = is_recording in (r.channels, omega (arith, r.steps, r.bytes), leb-true _ _ (test_yes 18 0 _ (sym a)))

      pub answered : {s : List ℕ} → s ≡ over (strip_of C (length recording) recording) strip
          → record { answer = Ok ((C + 1) * line_bytes); strip = s } ≡ stripped C k recording strip
      unfolding stripped
      answered {s} o =
          let w : s ≡ over (strip_of C k recording) strip = o ∙ ap (λ (k : ℕ). over (strip_of C k recording) strip) is_recording.bytes in
          (λ i. record { answer = Ok (sym bytes i); strip = w i })
          ∙ last_yes (not_stripped strip) answer questions last (sym e) (room a)
