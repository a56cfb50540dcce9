-- Document 01, "Questions in order": the numbers of the questions that each call asks, in this order.
use Rattle.std.specs.Prelude.{List, [], ◌∷◌, ◌++◌, ℕ}

-- "A formula is accepted for C and k exactly when 1 to 7 are all answered yes."
abbrev pub formula_numbers : List ℕ
formula_numbers = 1 ∷ 2 ∷ 3 ∷ 4 ∷ 5 ∷ 6 ∷ 7 ∷ []

-- "Node text asks 1 to 8"
abbrev pub node_numbers : List ℕ
node_numbers = formula_numbers ++ 8 ∷ []

-- "evaluation 1 to 7 and 9 to 11"
abbrev pub evaluation_numbers : List ℕ
evaluation_numbers = formula_numbers ++ 9 ∷ 10 ∷ 11 ∷ []

-- "the table and the search 1 to 7 and 18"
abbrev pub table_numbers : List ℕ
table_numbers = formula_numbers ++ 18 ∷ []

abbrev pub search_numbers : List ℕ
search_numbers = table_numbers

-- "the extension of a recording 1 to 7, 10, 11 and 18"
abbrev pub extension_numbers : List ℕ
extension_numbers = formula_numbers ++ 10 ∷ 11 ∷ 18 ∷ []

-- "a proposed assignment 1 to 7, 12 to 14 and 18"
abbrev pub proposal_numbers : List ℕ
proposal_numbers = formula_numbers ++ 12 ∷ 13 ∷ 14 ∷ 18 ∷ []

-- "the file's reader and its writer 15 to 18"
abbrev pub file_numbers : List ℕ
file_numbers = 15 ∷ 16 ∷ 17 ∷ 18 ∷ []

-- document 02, C-11: "Printing asks 1, 2, 10, 11 and 18."
abbrev pub strip_numbers : List ℕ
strip_numbers = 1 ∷ 2 ∷ 10 ∷ 11 ∷ 18 ∷ []
