-- Document 01, "First recording" and "Questions in order", 18: the order of recordings, the tree of a formula, and what the search answers
-- and leaves in the recording's array.
use Rattle.std.specs.Prelude.{◌≡◌, ◌≢◌, Bool, true, false, cond, ◌&&◌, List, [], ◌∷◌, ◌++◌, ℕ, ◌*◌, ◌^◌, eqb, leb, ltb, length, Result, Ok, Err}
use Rattle.refusal.specs.Asked.{Reply, question, asked}
use Rattle.refusal.specs.declared.Refusal.{Refusal}
use Rattle.paper_grammar.specs.Trees.{Tree}
use Rattle.paper_grammar.specs.Reader.{parsed, stopped, read}
use Rattle.paper_grammar.specs.declared.Sort.TheVariants.{Formula}
use Rattle.paper_grammar.specs.Nodes.{nodes_of, nodes_in}
use Rattle.paper_grammar.specs.Questions.{formula_questions}
use Rattle.paper_meaning.specs.Meaning.{holds}
use Rattle.paper_circuit.specs.Circuit.{variables_of}
use Rattle.paper_clauses.specs.Clauses.{clause_table}
use Rattle.paper_clauses.specs.Entries.{places_in}
use Rattle.moments.specs.Moments.{over}
use Rattle.paper_meaning.specs.Recording.{EachBelow}
use Rattle.paper_assignments.specs.Extension.{channel_values, recording_by}
use Rattle.paper_closure.specs.Tree as tries
use Rattle.paper_closure.specs.Runs.{dead, found, high_in}
use Rattle.paper_closure.specs.Tree.{Trial, trial}
use Rattle.paper_search.specs.declared.Answer.{Answer}
use Rattle.paper_search.specs.declared.Answer.TheVariants.{Found, None, Spent}
use Rattle.paper_search.specs.declared.Lent.{Lent}

-- "Of two different recordings of equal C and k, the one that is low at the lowest-numbered channel variable where they differ comes
-- earlier in the order": of their channel values, in the variables' order
unfoldable pub low_first : List ℕ → List ℕ → Bool
low_first [] ys = false
low_first (x ∷ xs) [] = false
low_first (x ∷ xs) (y ∷ ys) = elim (eqb x y) [ true ↦ low_first xs ys | false ↦ ltb x y ]

unfoldable pub earlier : ℕ → ℕ → List ℕ → List ℕ → Bool
earlier C k r s = low_first (channel_values C k r) (channel_values C k s)

-- a recording of C channels and k steps that satisfies the formula on [0, k]
pub record Satisfies (C k : ℕ) (f : Tree Formula) (r : List ℕ) : Type 0 where
  pub bytes : length r ≡ k
  pub below : EachBelow (2 ^ C) r
  pub true_on : holds r f (record { i = 0; j = k }) ≡ true

-- r satisfies the formula, and every other recording that does comes later in the order
pub record Earliest (C k : ℕ) (f : Tree Formula) (r : List ℕ) : Type 0 where
  pub satisfies : Satisfies C k f r
  pub others_later : (s : List ℕ) → Satisfies C k f s → s ≢ r → earlier C k r s ≡ true

-- "found, none, spent, each with its count"
abbrev pub count_in : Result Answer Refusal → ℕ
count_in (Ok (Found n)) = n
count_in (Ok (None n)) = n
count_in (Ok (Spent n)) = n
count_in (Err r) = 0

-- the tree of a formula: k·C channel variables. Its number of tries (decisions) is N: "the limit plays no part in it".
unfoldable pub tree_of : ℕ → ℕ → Tree Formula → Trial
tree_of C k f = tries.tree (clause_table C k f) (variables_of C k (nodes_of f 0)) (k * C)

-- of the tree that a text reads as; a text that does not read is refused before
unfoldable pub tree_in : ℕ → ℕ → List ℕ → Trial
tree_in C k t = elim (read t) [ parsed f ↦ tree_of C k f | stopped p ↦ trial dead 0 ]

-- the answer, and the recording's array after it
pub record Searched : Type 0 where
  pub answer : Result Answer Refusal
  pub recording : List ℕ

abbrev pub unwritten : List ℕ → Result Answer Refusal → Searched
unwritten recording a = record { answer = a; recording = recording }

-- "Answers: found, none, spent, each with its count. The recording array is written only on found."
abbrev pub ended : ℕ → ℕ → List ℕ → Trial → Searched
ended C k recording t =
    elim t.outcome [
      | found S ↦ record { answer = Ok (Found t.tries); recording = over (recording_by C k (high_in S)) recording }
      | dead ↦ unwritten recording (Ok (None t.tries))
    ]

-- "Limit B": where it allows fewer than N tries, it is spent
unfoldable pub limited : ℕ → ℕ → ℕ → List ℕ → Trial → Searched
limited C k B recording t = cond (leb t.tries B) (ended C k recording t) (unwritten recording (Ok (Spent B)))

-- the five lent arrays
pub record Arrays : Type 0 where
  pub variables : List ℕ
  pub marks : List ℕ
  pub values : List ℕ
  pub trail : List ℕ
  pub recording : List ℕ

-- the lengths of the lent arrays
abbrev pub lent_of : List ℕ → List ℕ → List ℕ → List ℕ → List ℕ → Lent
lent_of variables marks values trail recording = record {
  variables = length variables;
  marks = length marks;
  values = length values;
  trail = length trail;
  recording = length recording;
}

-- question 18: "Lent to the search: L variables, L marks, V value bytes, V places of 32 bits for a trail, k bytes for the recording."
unfoldable pub ask_lent : ℕ → ℕ → ℕ → Lent → Reply
ask_lent literals variables k n =
    question 18 0 (leb literals n.variables && leb literals n.marks && leb variables n.values && leb variables n.trail && leb k n.recording)

-- "the table and the search [ask] 1 to 7 and 18"
abbrev pub search_questions : ℕ → ℕ → List ℕ → Lent → List Reply
search_questions C k t n = formula_questions C k t ++ ask_lent (length (places_in C k t)) (variables_of C k (nodes_in t)) k n ∷ []

-- the call: "the first no gives number and place"; where there is none, the first recording is drawn
unfoldable pub searched : ℕ → ℕ → List ℕ → ℕ → Lent → List ℕ → Searched
searched C k t B n recording =
    asked (search_questions C k t n) (λ r. unwritten recording (Err r)) (limited C k B recording (tree_in C k t))

-- a work array: "What the first four hold after a search is free"; a call that is refused is no search, and leaves it as it was
abbrev pub Unchanged : Result Answer Refusal → List ℕ → List ℕ → Type 0
Unchanged a before after = (r : Refusal) → a ≡ Err r → after ≡ before
