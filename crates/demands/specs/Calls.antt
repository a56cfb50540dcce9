-- Document 01, "Questions in order", of any engine: what it is for a call to answer as its questions say. Nothing in this crate's
-- definitions names what our calls compute. The grammar is printing alone (`text_of`), so that question 4 needs no reader.
use Rattle.std.specs.Prelude.{◌≡◌, List, [], ◌∷◌, ◌++◌, ℕ, Err}
use Rattle.refusal.specs.Asked.{AllYes, FirstNo, Reply, ok}
use Rattle.refusal.specs.declared.Refusal.{Refusal}
use Rattle.interval.specs.Limits.{ask_steps}
use Rattle.paper_grammar.specs.Trees.{Tree, Letters, text_of, Place}
use Rattle.paper_grammar.specs.declared.Sort.TheVariants.{Formula}
use Rattle.paper_grammar.specs.Nodes.{nodes_of}
use Rattle.paper_grammar.specs.Questions.{ask_channels, ask_length, ask_letters, ask_numbers, ask_nodes}

-- the text is this formula's: it "reads by the grammar, channels a to h, length, n and nodes unbounded"
abbrev pub IsText : List ℕ → Tree Formula → Type 0
IsText t f = Letters 8 f × (text_of f ≡ t)

-- the text is no formula's, and p is question 4's place
pub record Ungrammatical (t : List ℕ) (p : ℕ) : Type 0 where
  pub no_formula : (f : Tree Formula) → IsText t f → ⊥
  pub place : Place t p

-- a call that asks these questions: "the first no gives number and place"; where there is none, the answer is right
pub record Follows {A : Type 0} (questions : List Reply) (refused : Refusal → A) (Right : A → Type 0) (x : A) : Type 0 where
  pub first_no : (r : Refusal) → FirstNo questions r → x ≡ refused r
  pub all_yes : AllYes questions → Right x

-- the replies to 1 to 7 where the text is a formula's
abbrev pub formula_replies : ℕ → ℕ → List ℕ → Tree Formula → List Reply
formula_replies C k t f =
    let l = nodes_of f 0 in ask_channels C ∷ ask_steps k ∷ ask_length t ∷ ok ∷ ask_letters C l ∷ ask_numbers l ∷ ask_nodes l ∷ []

-- a call on a text: 1 to 7 and then its own, which may turn on the formula; where the text is none's, 4 is the last that it asks
pub record Obeys {A : Type 0} (C k : ℕ) (t : List ℕ) (own : Tree Formula → List Reply)
    (refused : Refusal → A) (Right : Tree Formula → A → Type 0) (x : A) : Type 0 where
  pub of_formula : (f : Tree Formula) → IsText t f → Follows (formula_replies C k t f ++ own f) refused (Right f) x
  pub of_other : (p : ℕ) → Ungrammatical t p
      → Follows (ask_channels C ∷ ask_steps k ∷ ask_length t ∷ Err (record { number = 4; place = p }) ∷ []) refused (λ y. ⊥) x
