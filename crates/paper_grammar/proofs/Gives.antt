-- Questions 1 to 7 answer no with their own numbers, in this order:
-- each is a test with its number, or the first of the places that fail it. Answered with yes, 1 says that the test holds.
use mathlib.Core.Path.{◌≡◌, refl}
use mathlib.Core.Bool.{◌&&◌}
use mathlib.Core.List.{List, [], ◌∷◌, map, flat_map}
use Prim.Native.Nat.{ℕ, ◌≤◌}
use lib.Dec.{leb}
use lib.ListN.{length, drop}
use Rattle.lists.proofs.Tests.{ranged}
use Rattle.refusal.specs.Asked.{Gives, Asks, ok}
use Rattle.refusal.proofs.Laws.{test_yes}
use Rattle.refusal.proofs.Numbers.{question_gives}
use Rattle.interval.proofs.Gives.{steps_gives}
use Rattle.paper_grammar.specs.Limits.{max_length, max_nodes, max_channels}
use Rattle.paper_grammar.specs.Reader.{Read, parsed, stopped, read}
use Rattle.paper_grammar.specs.declared.Sort.TheVariants.{Formula}
use Rattle.paper_grammar.specs.Nodes.{Node, nodes_in}
use Rattle.paper_grammar.specs.Questions.{at_first, ask_channels, ask_length, on_read, ask_grammar, outside, ask_letters, too_large, ask_numbers, ask_nodes, formula_questions}

pub first_gives : (n : ℕ) (places : List ℕ) → Gives n (at_first n places)
first_gives n [] = tt
first_gives n (p ∷ places) = refl

pub channels_gives : (C : ℕ) → Gives 1 (ask_channels C)
unfolding ask_channels
channels_gives C = question_gives 1 0 (leb 1 C && leb C max_channels)

pub channels_yes : (C : ℕ) → ask_channels C ≡ ok → (1 ≤ C) × (C ≤ max_channels)
unfolding ask_channels
channels_yes C e = ranged 1 max_channels C (test_yes 1 0 _ e)

length_gives : (t : List ℕ) → Gives 3 (ask_length t)
unfolding ask_length
length_gives t = question_gives 3 0 (leb 1 (length t) && leb (length t) max_length)

read_gives : (r : Read Formula) → Gives 4 (on_read r)
read_gives (parsed f) = tt
read_gives (stopped p) = refl

grammar_gives : (t : List ℕ) → Gives 4 (ask_grammar t)
unfolding ask_grammar
grammar_gives t = read_gives (read t)

letters_gives : (C : ℕ) (l : List Node) → Gives 5 (ask_letters C l)
unfolding ask_letters
letters_gives C l = first_gives 5 (flat_map (λ (w : Node). outside C w.part w.first) l)

numbers_gives : (l : List Node) → Gives 6 (ask_numbers l)
unfolding ask_numbers
numbers_gives l = first_gives 6 (flat_map (λ (w : Node). too_large w.part w.first) l)

nodes_gives : (l : List Node) → Gives 7 (ask_nodes l)
unfolding ask_nodes
nodes_gives l = first_gives 7 (drop max_nodes (map (λ (w : Node). w.first) l))

pub formula_asks : (C k : ℕ) (t : List ℕ) → Asks (1 ∷ 2 ∷ 3 ∷ 4 ∷ 5 ∷ 6 ∷ 7 ∷ []) (formula_questions C k t)
formula_asks C k t =
    (channels_gives C, (steps_gives k, (length_gives t, (grammar_gives t, (letters_gives C (nodes_in t), (numbers_gives (nodes_in t), (nodes_gives (nodes_in t), tt)))))))
