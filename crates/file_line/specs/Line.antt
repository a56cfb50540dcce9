-- Document 01, "Clause file": "the line `1 1 #a>=1` (C, k, text; C and k written like n, one blank between, one line feed last and nothing
-- after)". The reader of it need not be believed: the laws `line_reads_back` and `line_is` say that it reads what `line_of` writes.
use Rattle.std.specs.Prelude.{cond, List, [], ◌∷◌, ◌++◌, ℕ, ◌+◌, ◌*◌, ◌-◌, eqb, length, get_or, take}
use Rattle.paper_grammar.specs.Trees.{decimal}
use Rattle.paper_grammar.specs.Reader.{is_digit}

-- C, a blank, k, a blank, the text, a line feed
unfoldable pub line_of : ℕ → ℕ → List ℕ → List ℕ
line_of C k t = decimal C ++ 32 ∷ (decimal k ++ 32 ∷ (t ++ 10 ∷ []))

-- the line of C, k and a text, or any other input
pub data Line : Type 0 where
  line : ℕ → ℕ → List ℕ → Line
  other : Line

-- a number, and what stands after it; or no number
pub data Taken : Type 0 where
  taken : ℕ → List ℕ → Taken
  none : Taken

-- "`0`, or a digit 1 to 9 and any digits after it": v is the number so far
unfoldable pub digits : ℕ → List ℕ → Taken
digits v [] = taken v []
digits v (b ∷ q) = cond (is_digit b) (digits (v * 10 + (b - 48)) q) (taken v (b ∷ q))

unfoldable pub number : List ℕ → Taken
number [] = none
number (b ∷ q) = cond (eqb b 48) (taken 0 q) (cond (is_digit b) (digits (b - 48) q) none)

-- a blank after it
abbrev pub blank : Taken → Taken
blank (taken n []) = none
blank (taken n (b ∷ q)) = cond (eqb b 32) (taken n q) none
blank none = none

-- the text is all but the last byte, which is a line feed
abbrev pub text_last : ℕ → ℕ → List ℕ → Line
text_last C k q = cond (eqb (get_or q (length q - 1) 0) 10) (line C k (take (length q - 1) q)) other

abbrev pub steps_next : ℕ → Taken → Line
steps_next C (taken k q) = text_last C k q
steps_next C none = other

abbrev pub channels_first : Taken → Line
channels_first (taken C q) = steps_next C (blank (number q))
channels_first none = other

unfoldable pub read_line : List ℕ → Line
read_line l = channels_first (blank (number l))
