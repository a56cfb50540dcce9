-- Strips, computed from the definitions and printed, so that a reader sees what they say:
-- a ruler above two channels, a count of two digits, and a recording without instants.
use mathlib.Core.Path.{◌≡◌, refl}
use mathlib.Core.List.{List, [], ◌∷◌, ◌++◌}
use Prim.Native.Nat.{ℕ}
use Prim.Native.String.{String}
use lib.ListN.{replicate}
use Rattle.lists.specs.Listing.{rows}
use Rattle.paper_grammar.specs.Ascii.{ascii}
use Rattle.paper_grammar.specs.Trees.{decimal, decimal_in}
use Rattle.paper_meaning.specs.Meaning.{bit_at, channel_at, highs}
use Rattle.strip.specs.Strip.{line_feed, aligned, line_of, strip_of}

-- lines, each with its line feed
abbrev printed : List String → List ℕ
printed [] = []
printed (line ∷ lines) = ascii line ++ line_feed ∷ printed lines

pub two_channels : strip_of 2 4 (0 ∷ 1 ∷ 3 ∷ 2 ∷ [])
    ≡ printed (
    "  0123                                "
    ∷ "a _##_                               2"
    ∷ "b __##                               2"
    ∷ []
    )
unfolding ascii rows decimal decimal_in bit_at channel_at highs aligned line_of strip_of
two_channels = refl

pub ten_high : strip_of 1 12 (replicate 10 1 ++ 0 ∷ 0 ∷ [])
    ≡ printed ("  012345678901                        " ∷ "a ##########__                      10" ∷ [])
unfolding ascii rows decimal decimal_in bit_at channel_at highs aligned line_of strip_of
ten_high = refl

pub no_instants : strip_of 1 0 [] ≡ printed ("                                      " ∷ "a                                    0" ∷ [])
unfolding ascii rows decimal decimal_in bit_at channel_at highs aligned line_of strip_of
no_instants = refl
