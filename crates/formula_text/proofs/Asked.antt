-- What the code asks is what document 01 asks: a check of the grammar tells question 4, and the first find after so many tells 5 to 7.
-- Each is a case of its question's definition.
use mathlib.Core.Path.{◌≡◌, refl, ap}
use mathlib.Core.Bool.{false≢true}
use mathlib.Core.List.{List, [], ◌∷◌}
use Prim.Native.Nat.{ℕ, ◌≤◌}
use lib.ListN.{length}
use Rattle.std.specs.Prelude.{Ok, Err}
use Rattle.refusal.specs.Asked.{Reply, ok, asked}
use Rattle.refusal.proofs.Laws.{test_yes}
use Rattle.paper_grammar.specs.Limits.{max_length}
use Rattle.paper_grammar.specs.Reader.{Read, parsed, stopped, read}
use Rattle.paper_grammar.specs.declared.Sort.TheVariants.{Formula}
use Rattle.lists.proofs.Tests.{ranged}
use Rattle.paper_grammar.proofs.Laws.{stops_at_place}
use Rattle.formula_reader.specs.Parts.{parse_of, parse_text}
use Rattle.paper_grammar.specs.Questions.{on_read, ask_length, ask_grammar}

-- what a check of the grammar says
module _ (t : List ℕ) where
  pub grammar_reads : parse_text t ≡ Ok tt → ask_grammar t ≡ ok
  unfolding parse_text ask_grammar
  grammar_reads = go (read t)
    where
      go : (o : Read Formula) → parse_of o ≡ Ok tt → on_read o ≡ ok
      go (parsed f) e = refl
      go (stopped p) e = absurd (false≢true cc)

  pub grammar_stops : (p : ℕ) → parse_text t ≡ Err p → ask_grammar t ≡ Err (record { number = 4; place = p })
  unfolding parse_text ask_grammar
  grammar_stops p = go (read t)
    where
      go : (o : Read Formula) → parse_of o ≡ Err p → on_read o ≡ Err (record { number = 4; place = p })
      go (parsed f) e = absurd (false≢true cc)
      go (stopped q) e = let h : q ≡ p = cc in ap (λ (q : ℕ). Err (record { number = 4; place = q })) h

  pub stop_within : (p : ℕ) → parse_text t ≡ Err p → p ≤ length t
  unfolding parse_text
  stop_within p e = (stops_at_place t p (go (read t) e)).within
    where
      go : (o : Read Formula) → parse_of o ≡ Err p → o ≡ stopped p
      go (parsed f) e = absurd (false≢true cc)
      go (stopped q) e = let h : q ≡ p = cc in ap stopped h

pub asked_one : (r : Reply) → asked (r ∷ []) Err ok ≡ r
asked_one (Ok _) = refl
asked_one (Err r) = refl

pub length_most : (t : List ℕ) → ask_length t ≡ ok → length t ≤ max_length
unfolding ask_length
length_most t e = (ranged 1 max_length (length t) (test_yes 3 0 _ e)).1
