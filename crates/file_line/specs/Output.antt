-- Document 01, "Clause file": what the file program writes, given an input.
use Rattle.std.specs.Prelude.{List, [], ◌∷◌, ◌++◌, ℕ, leb, length}
use Rattle.refusal.specs.Asked.{question, asked, Reply}
use Rattle.paper_grammar.specs.Questions.{formula_questions}
use Rattle.paper_clauses.specs.Entries.{variables_in, marks_in, places_in}
use Rattle.table_calls.specs.Table.{sizes_in}
use Rattle.file_numbers.specs.File.{file_of, file_length}
use Rattle.file_line.specs.Line.{Line, line, other, read_line}

-- "Its arrays hold 8,192 literals"
abbrev pub max_literals : ℕ
max_literals = 8192

-- and the longest file has so many bytes
abbrev pub max_file : ℕ
max_file = file_length max_literals

-- question 18: "a longer table meets 18"
abbrev pub ask_literals : ℕ → Reply
ask_literals L = question 18 0 (leb L max_literals)

-- the file of a text's table
abbrev pub file_in : ℕ → ℕ → List ℕ → List ℕ
file_in C k t = file_of (sizes_in C k t) (variables_in (places_in C k t)) (marks_in (places_in C k t))

-- "the table [asks] 1 to 7 and 18"
abbrev pub program_questions : ℕ → ℕ → List ℕ → List Reply
program_questions C k t = formula_questions C k t ++ ask_literals (length (places_in C k t)) ∷ []

-- "For a line that doesn't read so, or is refused, it writes no bytes."
unfoldable pub output_for : Line → List ℕ
output_for (line C k t) = asked (program_questions C k t) (λ r. []) (file_in C k t)
output_for other = []

unfoldable pub output_of : List ℕ → List ℕ
output_of l = output_for (read_line l)

-- so many bytes of the input are read: the law `long_enough` says that what stands beyond changes nothing
abbrev pub max_input : ℕ
max_input = 512
