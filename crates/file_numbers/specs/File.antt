-- Document 01, "Clause file": the bytes of a table, and the table that bytes hold.
use mathlib.Core.List.{List, [], ◌∷◌, ◌++◌, flat_map}
use Rattle.std.specs.Prelude.{ℕ, ◌+◌, ◌*◌, ◌/◌, ◌%◌, ◌^◌, ◌<◌, get_or, drop}
use Rattle.lists.specs.Listing.{tab, All}
use Rattle.table_layout.specs.declared.Sizes.{Sizes}

-- a number's byte of a weight; a number of 32 bits, "low byte first"
abbrev pub byte_of : ℕ → ℕ → ℕ
byte_of n weight = n / weight % 256

unfoldable pub bytes_of : ℕ → List ℕ
bytes_of n = byte_of n 1 ∷ byte_of n 256 ∷ byte_of n 65536 ∷ byte_of n 16777216 ∷ []

-- "The sizes come first, five 32-bit unsigned numbers, low byte first: C, k, variables V, clauses M, literals L. Then two parallel
-- arrays: L variable numbers of 32 bits each, then L mark bytes."
unfoldable pub file_of : List ℕ → List ℕ → List ℕ → List ℕ
file_of sizes variables marks = flat_map bytes_of sizes ++ flat_map bytes_of variables ++ marks

-- C, k, V, M and L, listed
abbrev pub sizes_by : List ℕ → Sizes
sizes_by five = record {
  channels = get_or five 0 0;
  steps = get_or five 1 0;
  variables = get_or five 2 0;
  clauses = get_or five 3 0;
  literals = get_or five 4 0;
}

-- "exactly 20 + 5L" bytes
abbrev pub file_length : ℕ → ℕ
file_length L = 20 + 5 * L

-- the number of four bytes, and the one that stands at a place of a file
abbrev pub number_of : ℕ → ℕ → ℕ → ℕ → ℕ
number_of a b c d = a + 256 * b + 65536 * c + 16777216 * d

unfoldable pub number_at : List ℕ → ℕ → ℕ
number_at file at = number_of (get_or file at 0) (get_or file (at + 1) 0) (get_or file (at + 2) 0) (get_or file (at + 3) 0)

-- what a file holds: the sizes, the L variable numbers, the mark bytes
unfoldable pub sizes_at : List ℕ → Sizes
sizes_at file = record {
  channels = number_at file 0;
  steps = number_at file 4;
  variables = number_at file 8;
  clauses = number_at file 12;
  literals = number_at file 16;
}

unfoldable pub variables_at : List ℕ → List ℕ
variables_at file = tab (sizes_at file).literals (λ e. number_at file (20 + 4 * e))

unfoldable pub marks_at : List ℕ → List ℕ
marks_at file = drop (20 + 4 * (sizes_at file).literals) file

-- numbers of 32 bits, and bytes
abbrev pub Words : List ℕ → Type 0
Words l = All (λ n. n < 2 ^ 32) l

abbrev pub Octets : List ℕ → Type 0
Octets l = (i : ℕ) → get_or l i 0 < 256
