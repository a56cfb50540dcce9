-- Questions 5 to 7 as the code asks them, going through the bytes. Nothing here need be believed: the law `found_in` of crate formula_text says
-- that this finds what the tree has.
use Rattle.std.specs.Prelude.{Bool, cond, ◌&&◌, List, [], ◌∷◌, ◌++◌, ℕ, suc, ◌+◌, ◌-◌, eqb, leb, ltb, drop}
use Rattle.paper_grammar.specs.Reader.{is_letter, is_start}
use Rattle.paper_grammar.specs.declared.Sort.TheVariants.{State}
use Rattle.formula_reader.specs.Parts.{value_from, end_of}
use Rattle.paper_grammar.specs.Limits.{max_number}
use Rattle.formula_scan.specs.declared.Ask.{Ask}
use Rattle.formula_scan.specs.declared.Ask.TheVariants.{Letters, Numbers, Nodes}

-- what h answers at each byte and its place, joined
unfoldable pub scan : (ℕ → ℕ → List ℕ) → List ℕ → ℕ → List ℕ
scan h [] at = []
scan h (b ∷ t) at = h b at ++ scan h t (suc at)

-- the first byte of a node
abbrev pub start_at : ℕ → ℕ → List ℕ
start_at b at = cond (is_start b) (at ∷ []) []

-- a letter that is not among the first C
abbrev pub is_outside : ℕ → ℕ → Bool
is_outside C b = is_letter b && leb C (b - 97)

abbrev pub outside_at : ℕ → ℕ → ℕ → List ℕ
outside_at C b at = cond (is_outside C b) (at ∷ []) []

-- a number that goes no further than one above the most
abbrev pub capped_at : ℕ → ℕ → ℕ
capped_at most n = cond (leb n most) n (suc most)

-- a formula's: no further than one above the limit
abbrev pub capped : ℕ → ℕ
capped n = capped_at max_number n

-- the number that a text begins with, v for the digits before it
abbrev pub number_from : ℕ → List ℕ → ℕ
number_from v q = capped (value_from v q)

-- the first digit of the number of the duration at a place: after `#`, a state assertion, `>` and `=`
abbrev pub digit_of : List ℕ → ℕ → ℕ
digit_of t at = end_of t State (at + 1) + 2

abbrev pub number_of : List ℕ → ℕ → ℕ
number_of t at = number_from 0 (drop (digit_of t at) t)

-- the first digit of a duration's number above the limit
abbrev pub above_at : List ℕ → ℕ → ℕ → List ℕ
above_at t b at = cond (eqb b 35) (cond (ltb max_number (number_of t at)) (digit_of t at ∷ []) []) []

-- what each question goes through a text for
abbrev pub answers_at : Ask → List ℕ → ℕ → ℕ → List ℕ
answers_at (Letters C) t = outside_at C
answers_at Numbers t = above_at t
answers_at Nodes t = start_at

unfoldable pub found_in : Ask → List ℕ → List ℕ
found_in a t = scan (answers_at a t) t 0
