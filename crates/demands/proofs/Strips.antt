-- Document 02 leaves one strip to a recording: ours follows the demand, since it asks the same questions and its answer is the definition's.
-- What it writes begins with the strip, which has C + 1 lines and tells the recording.
use mathlib.Core.Path.{◌≡◌, refl, sym, ap, ◌∙◌}
use mathlib.Core.List.{List}
use Prim.Native.Nat.{ℕ, ◌+◌, ◌*◌}
use lib.ListN.{length, take, drop}
use lib.Seq.{take_at}
use Rattle.refusal.specs.Asked.{AllYes}
use Rattle.strip.specs.Strip.{strip_of, line_bytes}
use Rattle.strip.specs.Call.{recorded_questions, strip_questions, Stripped, stripped}
use Rattle.strip.proofs.Laws.{recorded, strip_length, one_strip}
use Rattle.demands.specs.Demand2.{Strips}
use Rattle.demands.proofs.Obeyed.{yes_both, asked_follows, follows_two}

module _ (C k : ℕ) (recording strip : List ℕ) where
  pub stripped_follows : Strips C k recording strip (stripped C k recording strip)
  unfolding stripped
  stripped_follows = asked_follows _ _ _ (λ y. refl)

  pub stripped_only : (x : Stripped) → Strips C k recording strip x → x ≡ stripped C k recording strip
  stripped_only x p = follows_two (λ x y. x ≡ y) (λ r. refl) (λ y a b. a ∙ sym b) p stripped_follows

  module _ (y : AllYes (strip_questions C k recording (length strip))) where
    pub strip_bytes : length (strip_of C k recording) ≡ (C + 1) * line_bytes
    strip_bytes = strip_length k recording (recorded C k recording (yes_both (recorded_questions C k recording) _ y).0).steps C

    -- what is written is the strip
    pub strip_first : take ((C + 1) * line_bytes) (stripped C k recording strip).strip ≡ strip_of C k recording
    strip_first =
        let S : List ℕ = strip_of C k recording in
        ap (λ (x : Stripped). take ((C + 1) * line_bytes) x.strip) (stripped_follows.all_yes y)
        ∙ take_at S (drop (length S) strip) ((C + 1) * line_bytes) strip_bytes

-- and tells the recording
pub strips_tell : (C k : ℕ) (r s a b : List ℕ) → AllYes (strip_questions C k r (length a)) → AllYes (strip_questions C k s (length b))
    → take ((C + 1) * line_bytes) (stripped C k r a).strip ≡ take ((C + 1) * line_bytes) (stripped C k s b).strip → r ≡ s
strips_tell C k r s a b y z e =
    one_strip C k r s (recorded C k r (yes_both (recorded_questions C k r) _ y).0) (recorded C k s (yes_both (recorded_questions C k s) _ z).0)
    (sym (strip_first C k r a y) ∙ e ∙ strip_first C k s b z)
