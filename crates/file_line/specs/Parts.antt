-- How the code reads a line, by places, with numbers no further than one above the limit; and how it hands the sizes on. Nothing here need be
-- believed: no call open to others cites it.
use Rattle.std.specs.Prelude.{List, ℕ, ◌-◌, ◌≤◌, length, get_or, take, drop, Option, Some, None}
use Rattle.formula_scan.specs.Scans.{capped}
use Rattle.file_numbers.specs.File.{sizes_by}
use Rattle.file_calls.specs.Calls.{FileAfter, file_written}
use Rattle.file_line.specs.Line.{Line, line, other, Taken, taken, none}
use Rattle.file_line.specs.declared.parts.Item.{Item}
use Rattle.file_line.specs.declared.parts.Parts.{Parts}

-- what an item of an input says
abbrev pub taken_by : List ℕ → Option Item → Taken
taken_by l (Some i) = taken i.value (drop i.next l)
taken_by l None = none

abbrev pub capped_taken : Taken → Taken
capped_taken (taken n q) = taken (capped n) q
capped_taken none = none

-- what parts of an input say
abbrev pub line_by : List ℕ → Option Parts → Line
line_by l (Some p) = line p.c p.k (take (p.end - p.first) (drop p.first l))
line_by l None = other

abbrev pub capped_line : Line → Line
capped_line (line C k t) = line (capped C) (capped k) t
capped_line other = other

-- the text lies within the input
abbrev pub PartsWithin : List ℕ → Option Parts → Type 0
PartsWithin l (Some p) = (p.first ≤ p.end) × (p.end ≤ length l)
PartsWithin l None = Unit

-- the file is written of the first L places of either array
abbrev pub file_put : List ℕ → List ℕ → List ℕ → List ℕ → FileAfter
file_put five variables marks file = let L = get_or five 4 0 in file_written (sizes_by five) (take L variables) (take L marks) file
