-- Document 02, C-11, "A strip for the lab notebook": "it must print in fixed columns".
use Rattle.std.specs.Prelude.{cond, List, [], ◌∷◌, ◌++◌, ℕ, ◌+◌, ◌-◌, ◌%◌, ltb, length, replicate}
use Rattle.lists.specs.Listing.{rows, tab}
use Rattle.interval.specs.Limits.{max_steps}
use Rattle.paper_grammar.specs.Trees.{decimal}
use Rattle.paper_meaning.specs.Meaning.{channel_at, highs}
use Rattle.strip.specs.declared.Line.{Line}
use Rattle.strip.specs.declared.Line.TheVariants.{Ruler, Channel}

abbrev pub blank : ℕ
blank = 32

-- `#` and `_`, a line feed
abbrev pub high : ℕ
high = 35

abbrev pub low : ℕ
low = 95

abbrev pub line_feed : ℕ
line_feed = 10

-- a line's first byte: a channel's letter, channel 0 being `a`
abbrev pub letter_of : Line → ℕ
letter_of Ruler = blank
letter_of (Channel c) = 97 + c

-- at an instant below k: "the last decimal digit of each instant"; "`#` for high and `_` for low"
abbrev pub glyph_of : List ℕ → Line → ℕ → ℕ
glyph_of recording Ruler t = 48 + t % 10
glyph_of recording (Channel c) t = cond (channel_at recording c t) high low

-- "columns from k on are blank"
abbrev pub column_of : ℕ → List ℕ → Line → ℕ → ℕ
column_of k recording l t = cond (ltb t k) (glyph_of recording l t) blank

-- "right-aligned in 3 places with blanks"
unfoldable pub aligned : ℕ → List ℕ
aligned n = replicate (3 - length (decimal n)) blank ++ decimal n

-- "the count of high instants"
abbrev pub count_of : ℕ → List ℕ → Line → List ℕ
count_of k recording Ruler = replicate 3 blank
count_of k recording (Channel c) = aligned (highs (channel_at recording c) 0 k)

-- "letter, blank, 32 columns, blank, the count [..], line feed"
unfoldable pub line_of : ℕ → List ℕ → Line → List ℕ
line_of k recording l = letter_of l ∷ blank ∷ tab max_steps (column_of k recording l) ++ blank ∷ count_of k recording l ++ line_feed ∷ []

-- "One line a channel, channel a first"; "Above them stands a ruler of the same length"
unfoldable pub strip_of : ℕ → ℕ → List ℕ → List ℕ
strip_of C k recording = line_of k recording Ruler ++ rows C (λ c. line_of k recording (Channel c))

-- "39 bytes" a line: the law `line_length`
abbrev pub line_bytes : ℕ
line_bytes = max_steps + 7
