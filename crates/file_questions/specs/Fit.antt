-- How the code asks question 16: it looks at the variables first, in an array or in a file. Nothing here need be believed: no call open to
-- others cites it.
use Rattle.std.specs.Prelude.{◌≡◌, Bool, List, ℕ}
use Rattle.table_layout.specs.declared.Sizes.{Sizes}
use Rattle.file_questions.specs.Questions.{all_pass, is_variable}

-- P is so of any variables whose test says `fit`
abbrev pub OfVariables : Sizes → Bool → (List ℕ → Type 0) → Type 0
OfVariables s fit P = (variables : List ℕ) → fit ≡ all_pass (is_variable s.variables) variables → P variables
