-- A node's row as the code finds it, from its first byte and the rows of its parts. Nothing here need be believed: the law `row_found` says
-- that it is the tree's row.
use Rattle.std.specs.Prelude.{cond, ◌||◌, List, ℕ, ◌+◌, ◌-◌, eqb, ltb, get_or, drop}
use Rattle.paper_grammar.specs.Reader.{lead_of}
use Rattle.paper_grammar.specs.declared.Sort.TheVariants.{Formula}
use Rattle.paper_grammar.specs.declared.Lead.{Lead}
use Rattle.paper_grammar.specs.declared.Lead.TheVariants.{Leaf, Not, Open, Measure, Enter, Other}
use Rattle.formula_scan.specs.Scans.{number_from}
use Rattle.paper_grammar.specs.Nodes.{Node}
use Rattle.node_rows.specs.Table.{sort_code, constant_code, negation_code, letter_code, duration_code, throughout_code, heading}
use Rattle.node_rows.specs.declared.Part.{Part}
use Rattle.node_rows.specs.declared.Row.{Row}

-- the number of the sort of what stands after a byte: `#` and `[` begin a state assertion, `>` and `]` stand at its end
abbrev pub code_after : ℕ → ℕ → ℕ
code_after code b = cond (eqb b 35 || eqb b 91) 0 (cond (eqb b 62 || eqb b 93) 16 code)

-- a row before its parts are known: the number of its sort, and its first byte
abbrev pub begun_row : ℕ → ℕ → Row
begun_row code at = record { head = heading code 0; size = 0; first = at; length = 0 }

abbrev pub begun : Node → Row
begun w = begun_row (sort_code w.sort) w.first

-- what the byte after its first part says of a node: `&` 3, `|` 4, `;` 5
abbrev pub link_of : ℕ → ℕ
link_of b = cond (eqb b 38) 3 (cond (eqb b 124) 4 (cond (eqb b 59) 5 0))

-- how many digits a number within the limit has
abbrev pub digits_of : ℕ → ℕ
digits_of n = cond (ltb n 10) 1 2

-- the part at a row
abbrev pub part_at : List ℕ → List ℕ → ℕ → Part
part_at sizes lengths x = record { size = get_or sizes x 0; length = get_or lengths x 0 }

-- a duration's row, n its number and p its part
abbrev pub duration_row : ℕ → ℕ → Part → Row
duration_row n at p = record { head = heading (sort_code Formula + duration_code) n; size = 1 + p.size; first = at; length = 1 + p.length + 2 + digits_of n }

-- the row of the node that the byte b begins at a place, p and q its parts: the first follows b
abbrev pub row_by : List ℕ → ℕ → ℕ → ℕ → Part → Part → Lead → Row
row_by t b code at p q Leaf = record { head = heading (code + constant_code (eqb b 84)) 0; size = 1; first = at; length = 1 }
row_by t b code at p q Not = record { head = heading (code + negation_code) 0; size = 1 + p.size; first = at; length = 1 + p.length }
row_by t b code at p q Open = record {
  head = heading (code + link_of (get_or t (at + (1 + p.length)) 0)) 0;
  size = 1 + p.size + q.size;
  first = at;
  length = 1 + p.length + q.length + 2;
}
row_by t b code at p q Measure = duration_row (number_from 0 (drop (at + (1 + p.length) + 2) t)) at p
row_by t b code at p q Enter = record { head = heading (sort_code Formula + throughout_code) 0; size = 1 + p.size; first = at; length = 1 + p.length + 1 }
row_by t b code at p q Other = record { head = heading letter_code (b - 97); size = 1; first = at; length = 1 }

unfoldable pub row_from : List ℕ → ℕ → ℕ → ℕ → Part → Part → Row
row_from t b code at p q = row_by t b code at p q (lead_of Formula b)

-- the row x, from the rows of its parts: the first part's is the next, the second part's comes after all of the first's
unfoldable pub row_at : List ℕ → List ℕ → List ℕ → List ℕ → List ℕ → ℕ → Row
row_at t kinds sizes firsts lengths x =
    let at = get_or firsts x 0 in
    row_from t (get_or t at 0) (get_or kinds x 0) at (part_at sizes lengths (x + 1)) (part_at sizes lengths (x + 1 + get_or sizes (x + 1) 0))
