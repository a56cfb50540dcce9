-- A line that is accepted has few channels, few steps and a text that is not long, and a number has no more digits than one more than
-- its value. So a number beyond the limits may stand for any other, and a long input has no output.
use mathlib.Core.Path.{◌≡◌, refl, sym, ap, ◌∙◌}
use mathlib.Core.List.{List, [], ◌∷◌, ◌++◌}
use Prim.Native.Nat.{ℕ, suc, ◌+◌, ◌≤◌, ◌<◌}
use native.Mathlib.Decide.{dec_lt}
use native.Mathlib.Omega.{arith}
use lib.ListN.{length, take, length-append}
use lib.Seq.{take_all, length-take-le}
use Rattle.std.specs.Prelude.{Option, Ok, Err}
use Rattle.refusal.specs.Asked.{asked, Reply}
use Rattle.refusal.proofs.Laws.{asked_append, replied_no}
use Rattle.interval.specs.Limits.{max_steps}
use Rattle.paper_grammar.specs.Limits.{max_length, max_number, max_channels}
use Rattle.paper_grammar.specs.Trees.{decimal}
use Rattle.paper_grammar.proofs.Decimal.{decimal_digit, decimal_more, by_digits}
use Rattle.formula_scan.specs.Scans.{capped}
use Rattle.formula_scan.proofs.Loops.{limited_in, limited_out}
use Rattle.paper_grammar.specs.Questions.{formula_questions, accept_of}
use Rattle.formula_text.proofs.Laws.{accepted}
use Rattle.paper_clauses.specs.Entries.{places_in}
use Rattle.file_line.specs.Line.{line_of, Line, line, other, read_line}
use Rattle.file_line.specs.Output.{ask_literals, file_in, output_for, output_of, max_input}
use Rattle.file_line.specs.Parts.{line_by, capped_line}
use Rattle.file_line.specs.declared.parts.Parts.{Parts}
use Rattle.file_line.proofs.Laws.{line_is}

-- ---- a line within the limits

abbrev Within : ℕ → ℕ → List ℕ → Type 0
Within C k t = (C ≤ max_channels) × (k ≤ max_steps) × (length t ≤ max_length)

module _ (C k : ℕ) (t : List ℕ) where
  abbrev answer : List ℕ
  answer = asked (ask_literals (length (places_in C k t)) ∷ []) (λ r. []) (file_in C k t)

  -- the questions of the formula come first
  output_asked : output_for (line C k t) ≡ asked (formula_questions C k t) (λ r. []) answer
  unfolding output_for
  output_asked = asked_append (λ r. []) (file_in C k t) (formula_questions C k t) (ask_literals (length (places_in C k t)) ∷ [])

  none_beyond : (Within C k t → ⊥) → output_for (line C k t) ≡ []
  unfolding accept_of
  none_beyond h = by (accept_of C k t) refl
    where
      by : (r : Reply) → accept_of C k t ≡ r → output_for (line C k t) ≡ []
      by (Ok _) e = let a = accepted C k t e in absurd (h (a.channels.1, a.steps, a.bytes.1))
      by (Err r) e = output_asked ∙ replied_no (λ r. []) answer (formula_questions C k t) r e

-- ---- numbers beyond the limits

output_limited : (x : Line) → output_for (capped_line x) ≡ output_for x
output_limited other = refl
output_limited (line C k t) = by (dec_lt max_number C) (dec_lt max_number k)
  where
    by : Dec (max_number < C) → Dec (max_number < k) → output_for (line (capped C) (capped k) t) ≡ output_for (line C k t)
    by (no h) (no g) =
        ap (λ (n : ℕ). output_for (line n (capped k) t)) (sym (limited_in max_number C C refl (omega arith))) ∙
        ap (λ (n : ℕ). output_for (line C n t)) (sym (limited_in max_number k k refl (omega arith)))
    by (yes h) g = none_beyond (capped C) (capped k) t (λ w. omega (arith, limited_out max_number C C refl h)) ∙ sym (none_beyond C k t (λ w. omega arith))
    by (no h) (yes g) = none_beyond (capped C) (capped k) t (λ w. omega (arith, limited_out max_number k k refl g)) ∙ sym (none_beyond C k t (λ w. omega arith))

-- what the parts that were read say has the input's output
pub output_read : (l : List ℕ) {p q : Option Parts} → p ≡ q → line_by l p ≡ capped_line (read_line l) → output_for (line_by l q) ≡ output_of l
unfolding output_of
output_read l e w = ap output_for (ap (line_by l) (sym e) ∙ w) ∙ output_limited (read_line l)

-- ---- a long input

decimal_length : (n : ℕ) → length (decimal n) ≤ suc n
decimal_length = by_digits (λ n. length (decimal n) ≤ suc n)
    (λ d h. omega (arith, ap length (decimal_digit d h)))
    (λ m d p h ih. omega (arith, ap length (decimal_more m d p h), length-append (decimal m) ((48 + d) ∷ [])))

line_length : (C k : ℕ) (t : List ℕ) → length (line_of C k t) ≡ length (decimal C) + length (decimal k) + length t + 3
unfolding line_of
line_length C k t = omega (
  arith,
  length-append (decimal C) (32 ∷ (decimal k ++ 32 ∷ (t ++ 10 ∷ []))),
  length-append (decimal k) (32 ∷ (t ++ 10 ∷ [])),
  length-append t (10 ∷ []),
)

-- longer than any line that is accepted
none_long : (l : List ℕ) → max_channels + max_steps + max_length + 5 < length l → output_of l ≡ []
unfolding output_of output_for
none_long l h = by (read_line l) refl
  where
    by : (x : Line) → read_line l ≡ x → output_for x ≡ []
    by other e = refl
    by (line C k t) e = none_beyond C k t (λ w. omega (arith, ap length (line_is l C k t e), line_length C k t, decimal_length C, decimal_length k))

-- what stands beyond so many bytes changes nothing, so the program reads no more
pub long_enough : (l : List ℕ) → output_of l ≡ output_of (take max_input l)
long_enough l = by (dec_lt max_input (length l))
  where
    by : Dec (max_input < length l) → output_of l ≡ output_of (take max_input l)
    by (yes h) = none_long l (omega arith) ∙ sym (none_long (take max_input l) (omega (arith, length-take-le max_input l (omega arith))))
    by (no h) = ap output_of (sym (take_all max_input l (omega arith)))
