-- Document 01, "Edges": "Those marked * are shown of the definitions, gathered in a table with a common theorem". The table, in document
-- 01's order, and what each edge says of the call that it speaks of. The theorem is `edges_hold` in proofs/Edges.antt.
use Rattle.std.specs.Prelude.{◌≡◌, List, [], ◌∷◌, ℕ, ◌-◌, ◌^◌, length, replicate, Ok, Bool, true, false}
use Prim.Native.String.{String}
use Rattle.refusal.specs.Asked.{ok}
use Rattle.paper_grammar.specs.Ascii.{ascii}
use Rattle.paper_grammar.specs.Nodes.{nodes_in}
use Rattle.paper_circuit.specs.Circuit.{variables_of}
use Rattle.paper_clauses.specs.Entries.{places_in}
use Rattle.table_calls.specs.Table.{After, tabled}
use Rattle.file_numbers.specs.File.{file_of}
use Rattle.truth_calls.specs.Evaluation.{evaluated}
use Rattle.paper_search.specs.Search.{searched}
use Rattle.paper_search.specs.declared.Answer.{Answer}
use Rattle.paper_search.specs.declared.Answer.TheVariants.{Found, None, Spent}
use Rattle.paper_search.specs.declared.Lent.{Lent}
use Rattle.file_line.specs.Output.{output_of}

-- a whole file: text, C and k, the line that the file program is given, what it writes as numbers, and how many bytes that is
pub record File : Type 0 where
  pub text : String
  pub channels : ℕ
  pub steps : ℕ
  pub line : String
  pub sizes : List ℕ
  pub variables : List ℕ
  pub marks : List ℕ
  pub bytes : ℕ

pub data Edge : Type 0 where
  -- text, C, a recording of k bytes; the verdict on [0, k]
  evaluation : String → ℕ → List ℕ → Bool → Edge
  -- text, C, k; the sizes C, k, V, M, L
  table : String → ℕ → ℕ → List ℕ → Edge
  -- text, C, k, B; the answer, and the recording's bytes, all 255 before
  search : String → ℕ → ℕ → ℕ → Answer → List ℕ → Edge
  file : File → Edge

-- B where none is named: the greatest that there is
abbrev pub most : ℕ
most = 2 ^ 32 - 1

-- "The whole file for `#a>=1`, C = 1, k = 1, as the file program writes it, given on standard input the line `1 1 #a>=1` ([..] one line
-- feed last and nothing after): sizes 1 1 8 12 21; variables 2 3 4 [..]; marks 3 3 3 [..]; 125 bytes."
abbrev pub file_above : File
file_above = record {
  text = "#a>=1";
  channels = 1;
  steps = 1;
  line = "1 1 #a>=1\n";
  sizes = 1 ∷ 1 ∷ 8 ∷ 12 ∷ 21 ∷ [];
  variables = 2 ∷ 3 ∷ 4 ∷ 5 ∷ 6 ∷ 5 ∷ 2 ∷ 6 ∷ 5 ∷ 8 ∷ 6 ∷ 5 ∷ 6 ∷ 2 ∷ 8 ∷ 7 ∷ 8 ∷ 1 ∷ 8 ∷ 1 ∷ 6 ∷ [];
  marks = 3 ∷ 3 ∷ 3 ∷ 2 ∷ 0 ∷ 1 ∷ 3 ∷ 0 ∷ 1 ∷ 3 ∷ 1 ∷ 2 ∷ 1 ∷ 0 ∷ 2 ∷ 2 ∷ 0 ∷ 3 ∷ 1 ∷ 2 ∷ 3 ∷ [];
  bytes = 125;
}

-- the starred edges, each below the words that it states; C is 1 where none is named, and where no recording is, each of C 1 is listed
unfoldable pub edges : List Edge
edges =
    -- "*`T`, C 1, k 0: V 1, M 2, L 2; found, 0 tries."
    table "T" 1 0 (1 ∷ 0 ∷ 1 ∷ 2 ∷ 2 ∷ [])
    ∷ search "T" 1 0 most (Found 0) []
    -- "*`F`, k 0: none, 0."
    ∷ search "F" 1 0 most (None 0) []
    -- "*`!#a>=1`, C 1, k 1: byte 00, 0 tries."
    ∷ search "!#a>=1" 1 1 most (Found 0) (0 ∷ [])
    -- "*`(#a>=1;#a>=1)`, k 1: none, 0."
    ∷ search "(#a>=1;#a>=1)" 1 1 most (None 0) (255 ∷ [])
    -- "*`(#a>=1|#b>=1)`, C 2, k 1: byte 02, 1 try; B 0 gives spent, 0."
    ∷ search "(#a>=1|#b>=1)" 2 1 most (Found 1) (2 ∷ [])
    ∷ search "(#a>=1|#b>=1)" 2 1 0 (Spent 0) (255 ∷ [])
    -- "*`(#a>=1;!#a>=1)` on 01: yes; on 00: no."
    ∷ evaluation "(#a>=1;!#a>=1)" 1 (1 ∷ []) true
    ∷ evaluation "(#a>=1;!#a>=1)" 1 (0 ∷ []) false
    -- "*`#T>=2`: no at k 1, yes at k 2."
    ∷ evaluation "#T>=2" 1 (0 ∷ []) false
    ∷ evaluation "#T>=2" 1 (1 ∷ []) false
    ∷ evaluation "#T>=2" 1 (0 ∷ 0 ∷ []) true
    ∷ evaluation "#T>=2" 1 (0 ∷ 1 ∷ []) true
    ∷ evaluation "#T>=2" 1 (1 ∷ 0 ∷ []) true
    ∷ evaluation "#T>=2" 1 (1 ∷ 1 ∷ []) true
    -- "*`[a]` and `#a>=0` at k 0: yes.", and of request C-12 "`[a]` at k 0 becomes no."
    ∷ evaluation "[a]" 1 [] false
    ∷ evaluation "#a>=0" 1 [] true
    -- "*The file above."
    ∷ file file_above
    ∷ []

-- the table's call on three arrays of 255, just long enough for the sizes and the text's literals
abbrev pub table_left : ℕ → ℕ → List ℕ → After
table_left C k t = tabled C k t (replicate 5 255) (replicate (length (places_in C k t)) 255) (replicate (length (places_in C k t)) 255)

-- the lengths of the search's arrays, just enough for the text
abbrev pub lent : ℕ → ℕ → List ℕ → Lent
lent C k t = record {
  variables = length (places_in C k t);
  marks = length (places_in C k t);
  values = variables_of C k (nodes_in t);
  trail = variables_of C k (nodes_in t);
  recording = k;
}

-- what an edge states: that the call it speaks of answers and leaves what is printed. Of a file: the program writes its numbers as bytes,
-- and "A table in memory is the same two arrays."
abbrev pub Holds : Edge → Type 0
Holds (evaluation text C recording verdict) = evaluated C (length recording) 0 (length recording) (ascii text) recording ≡ Ok verdict
Holds (table text C k sizes) = ((table_left C k (ascii text)).answer ≡ ok) × ((table_left C k (ascii text)).sizes ≡ sizes)
Holds (search text C k B answer recording) =
    searched C k (ascii text) B (lent C k (ascii text)) (replicate k 255) ≡ record { answer = Ok answer; recording = recording }
Holds (file f) =
    (table_left f.channels f.steps (ascii f.text) ≡ record { answer = ok; sizes = f.sizes; variables = f.variables; marks = f.marks })
    × (output_of (ascii f.line) ≡ file_of f.sizes f.variables f.marks)
    × (length (output_of (ascii f.line)) ≡ f.bytes)
