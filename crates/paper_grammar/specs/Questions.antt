-- Document 01, "Questions in order", 1 to 7: when a formula is accepted for C and k.
use Rattle.std.specs.Prelude.{cond, ◌&&◌, ℕ, ◌+◌, leb, ltb, length, drop, Err}
use mathlib.Core.List.{List, [], ◌∷◌, map, flat_map}
use Rattle.refusal.specs.Asked.{question, asked, Reply, ok}
use Rattle.interval.specs.Limits.{ask_steps}
use Rattle.paper_grammar.specs.Limits.{max_length, max_nodes, max_number, max_channels}
use Rattle.paper_grammar.specs.Trees.{Tree, text_of}
use Rattle.paper_grammar.specs.Reader.{Read, parsed, stopped, read}
use Rattle.paper_grammar.specs.declared.Sort.{Sort}
use Rattle.paper_grammar.specs.declared.Sort.TheVariants.{Formula}
use Rattle.paper_grammar.specs.Nodes.{Node, a_letter, a_duration, a_chop, another, view_of, nodes_in}

-- a question that names a place: no at the first of the places that fail it
abbrev pub at_first : ℕ → List ℕ → Reply
at_first number [] = ok
at_first number (p ∷ r) = Err (record { number = number; place = p })

-- question 1: is C from 1 to 8?
unfoldable pub ask_channels : ℕ → Reply
ask_channels C = question 1 0 (leb 1 C && leb C max_channels)

-- question 3: is the text 1 to 255 bytes?
unfoldable pub ask_length : List ℕ → Reply
ask_length t = question 3 0 (leb 1 (length t) && leb (length t) max_length)

-- question 4: does it read by the grammar? Its place is where reading stops: the law `stops_at_place`
-- says that this is the least p such that no grammatical text begins with the first p + 1 bytes, or the length if it only ends early.
abbrev pub on_read : Read Formula → Reply
on_read (parsed f) = ok
on_read (stopped p) = Err (record { number = 4; place = p })

unfoldable pub ask_grammar : List ℕ → Reply
ask_grammar t = on_read (read t)

-- question 5: is each letter among the first C? Its place: first that isn't.
abbrev pub outside : {s : Sort} → ℕ → Tree s → ℕ → List ℕ
outside C x at = elim (view_of x) [ a_letter c ↦ cond (leb C c) (at ∷ []) [] | a_duration S n ↦ [] | a_chop P Q ↦ [] | another ↦ [] ]

unfoldable pub ask_letters : ℕ → List Node → Reply
ask_letters C l = at_first 5 (flat_map (λ (w : Node). outside C w.part w.first) l)

-- question 6: is each n at most 32? Its place: the first digit, after `#`, the state assertion, `>` and `=`.
abbrev pub too_large : {s : Sort} → Tree s → ℕ → List ℕ
too_large x at =
    elim (view_of x) [ a_letter c ↦ [] | a_duration S n ↦ cond (ltb max_number n) ((at + 1 + length (text_of S) + 2) ∷ []) [] | a_chop P Q ↦ [] | another ↦ [] ]

unfoldable pub ask_numbers : List Node → Reply
ask_numbers l = at_first 6 (flat_map (λ (w : Node). too_large w.part w.first) l)

-- question 7: at most 64 nodes? Its place: the first byte of the 65th.
unfoldable pub ask_nodes : List Node → Reply
ask_nodes l = at_first 7 (drop max_nodes (map (λ (w : Node). w.first) l))

-- "A formula is accepted for C and k exactly when 1 to 7 are all answered yes."
abbrev pub text_questions : ℕ → List ℕ → List Reply
text_questions C t = ask_grammar t ∷ ask_letters C (nodes_in t) ∷ ask_numbers (nodes_in t) ∷ ask_nodes (nodes_in t) ∷ []

abbrev pub formula_questions : ℕ → ℕ → List ℕ → List Reply
formula_questions C k t = ask_channels C ∷ ask_steps k ∷ ask_length t ∷ text_questions C t

unfoldable pub accept_of : ℕ → ℕ → List ℕ → Reply
accept_of C k t = asked (formula_questions C k t) Err ok
