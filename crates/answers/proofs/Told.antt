-- A number's halves are what was packed, and a call's cases have different numbers, those of refusals below 64 and the others above:
-- so what is decoded is what was packed, and answers that differ have numbers that differ.
use mathlib.Core.Path.{◌≡◌, sym, ap, ap₂, ◌∙◌}
use mathlib.Core.Bool.{Bool, true, false}
use Prim.Native.Nat.{ℕ, ◌+◌, ◌*◌, ◌/◌, ◌%◌, ◌^◌, ◌<◌}
use native.Mathlib.Nat.{mod-eq_of_lt, div-eq_of_lt, add-mul-mod_self_left, add-mul-div_left}
use native.Mathlib.Omega.{arith}
use lib.Dec.{eqb}
use borrow.Author.Tests.{ne_eqb}
use Rattle.std.specs.Prelude.{Ok, Err}
use Rattle.refusal.specs.Asked.{ok}
use Rattle.refusal.specs.declared.Refusal.{Refusal}
use Rattle.paper_search.specs.declared.Answer.TheVariants as answer
use Rattle.node_calls.specs.declared.Span.{Span}
use Rattle.answers.specs.Answers.{tuv_no, tuv_yes, tuv_written, tuv_accepted, tuv_found, tuv_none, tuv_spent, tuv_node_text, packed, halves, Told}
use Rattle.answers.specs.Answers.{pack_verdict, verdict_by, pack_written, written_by, pack_printed, printed_by, pack_checked, checked_by, pack_answer, answer_by}
use Rattle.answers.specs.Answers.{pack_located, located_by}

-- a number below m, and m times another
low_part : (m x y : ℕ) → 0 < m → x < m → ((x + m * y) % m ≡ x) × ((x + m * y) / m ≡ y)
low_part m x y p h = (add-mul-mod_self_left x m y ∙ mod-eq_of_lt h, add-mul-div_left x y p ∙ ap (λ (q : ℕ). q + y) (div-eq_of_lt h) ∙ omega arith)

-- the two halves of a packed number
pub packed_apart : (code value : ℕ) → code < 2 ^ 32 → (packed code value % 2 ^ 32 ≡ code) × (packed code value / 2 ^ 32 ≡ value)
packed_apart code value h = low_part (2 ^ 32) code value (omega arith) h

by_halves : {A : Type 0} (by : ℕ → ℕ → A) (code value : ℕ) → code < 2 ^ 32 → halves by (packed code value) ≡ by code value
by_halves by code value h = let w = packed_apart code value h in ap₂ by w.0 w.1

-- two answers that are told by their numbers and have one number are the same
pub told_apart : {A : Type 0} (pack : A → ℕ) (by : ℕ → ℕ → A) (a b : A) → Told pack by a → Told pack by b → pack a ≡ pack b → a ≡ b
told_apart pack by a b f g e = sym f ∙ ap (halves by) e ∙ g

-- a refusal by a number below 64
module _ (r : Refusal) (h : r.number < 64) where
  other : (n : ℕ) → 63 < n → eqb r.number n ≡ false
  other n l = ne_eqb r.number n (λ e. absurd (omega arith))

  refused_halves : {A : Type 0} (by : ℕ → ℕ → A) → halves by (packed r.number r.place) ≡ by r.number r.place
  refused_halves by = by_halves by r.number r.place (omega arith)

  pub verdict_refused : Told pack_verdict verdict_by (Err r)
  unfolding pack_verdict
  verdict_refused = refused_halves verdict_by ∙ simp (other tuv_no (omega arith), other tuv_yes (omega arith))

  pub written_refused : Told pack_written written_by (Err r)
  unfolding pack_written
  written_refused = refused_halves written_by ∙ simp (other tuv_written (omega arith))

  pub printed_refused : Told pack_printed printed_by (Err r)
  unfolding pack_printed
  printed_refused = refused_halves printed_by ∙ simp (other tuv_written (omega arith))

  pub checked_refused : Told pack_checked checked_by (Err r)
  unfolding pack_checked
  checked_refused = refused_halves checked_by ∙ simp (other tuv_accepted (omega arith))

  pub answer_refused : Told pack_answer answer_by (Err r)
  unfolding pack_answer
  answer_refused = refused_halves answer_by ∙ simp (other tuv_found (omega arith), other tuv_none (omega arith), other tuv_spent (omega arith))

  pub located_refused : Told pack_located located_by (Err r)
  unfolding pack_located
  located_refused = refused_halves located_by ∙ simp (other tuv_node_text (omega arith))

-- any other answer
pub verdict_told : (b : Bool) → Told pack_verdict verdict_by (Ok b)
unfolding pack_verdict
verdict_told false = by_halves verdict_by tuv_no 0 (omega arith)
verdict_told true = by_halves verdict_by tuv_yes 0 (omega arith)

pub done_told : Told pack_written written_by ok
unfolding pack_written
done_told = by_halves written_by tuv_written 0 (omega arith)

pub bytes_told : (n : ℕ) → Told pack_printed printed_by (Ok n)
unfolding pack_printed
bytes_told n = by_halves printed_by tuv_written n (omega arith)

pub accepted_told : Told pack_checked checked_by ok
unfolding pack_checked
accepted_told = by_halves checked_by tuv_accepted 0 (omega arith)

pub found_told : (n : ℕ) → Told pack_answer answer_by (Ok (answer.Found n))
unfolding pack_answer
found_told n = by_halves answer_by tuv_found n (omega arith)

pub none_told : (n : ℕ) → Told pack_answer answer_by (Ok (answer.None n))
unfolding pack_answer
none_told n = by_halves answer_by tuv_none n (omega arith)

pub spent_told : (n : ℕ) → Told pack_answer answer_by (Ok (answer.Spent n))
unfolding pack_answer
spent_told n = by_halves answer_by tuv_spent n (omega arith)

pub part_told : (s : Span) → s.first < 256 → Told pack_located located_by (Ok s)
unfolding pack_located
part_told s h =
    let w = low_part 256 s.first s.length (omega arith) h in
    by_halves located_by tuv_node_text (s.first + 256 * s.length) (omega arith) ∙ (λ i. Ok (record { first = w.0 i; length = w.1 i }))
