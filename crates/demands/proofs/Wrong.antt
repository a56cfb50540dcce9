-- Document 01's checklist, "Engines that must be unprovable", as theorems: none of them fulfils the demands, since whatever does answers
-- as document 01's starred edges print, and each of these parts from one of them.
use mathlib.Core.Path.{◌≡◌, sym, ap, ◌∙◌}
use mathlib.Core.Logic.{◌≢◌}
use mathlib.Core.Bool.{Bool, false≢true}
use mathlib.Core.List.{List, [], ◌∷◌}
use Prim.Native.Nat.{ℕ}
use native.Mathlib.Omega.{arith}
use lib.ListN.{length, get_or, replicate, length-replicate}
use Rattle.std.specs.Prelude.{Result, Ok, Err}
use Rattle.refusal.specs.declared.Refusal.{Refusal}
use Rattle.paper_grammar.specs.Ascii.{ascii}
use Rattle.paper_grammar.specs.Nodes.{nodes_in}
use Rattle.paper_circuit.specs.Circuit.{variables_of}
use Rattle.paper_clauses.specs.Entries.{places_in}
use Rattle.table_calls.specs.Table.{After}
use Rattle.paper_search.specs.Search.{Arrays, Searched, searched}
use Rattle.paper_search.specs.declared.Answer.{Answer}
use Rattle.paper_search.specs.declared.Answer.TheVariants.{Found, None, Spent}
use Rattle.paper_search.specs.declared.Lent.{Lent}
use Rattle.demands_starred.specs.Edges.{most, lent, edges}
use Rattle.demands_starred.proofs.Edges.{edges_hold}
use Rattle.demands.specs.Demand2.{Evaluates, Tables}
use Rattle.demands.specs.Demand3.{Search, Searches}
use Rattle.demands.proofs.Answers.{evaluated_only, tabled_only}
use Rattle.demands.proofs.Search.{lengths, searches_contract}

-- ---- the search

-- arrays that are just long enough
abbrev lend : ℕ → ℕ → List ℕ → Arrays
lend C k t =
    let table : List ℕ = replicate (length (places_in C k t)) 255 in
    let work : List ℕ = replicate (variables_of C k (nodes_in t)) 255 in
    record { variables = table; marks = table; values = work; trail = work; recording = replicate k 255 }

lend_enough : (C k : ℕ) (t : List ℕ) → lengths (lend C k t) ≡ lent C k t
lend_enough C k t =
    let l = length-replicate {A = ℕ} (length (places_in C k t)) 255 in
    let v = length-replicate {A = ℕ} (variables_of C k (nodes_in t)) 255 in
    let r = length-replicate {A = ℕ} k 255 in
    λ i. record { variables = l i; marks = l i; values = v i; trail = v i; recording = r i }

-- what an engine that fulfils demand 3 makes of them is what `searched` does
as_searched : (C k : ℕ) (t : List ℕ) (B : ℕ) (x : Search) {a : Result Answer Refusal} {r : List ℕ} → Searches C k t B (lend C k t) x
    → searched C k t B (lent C k t) (replicate k 255) ≡ record { answer = a; recording = r } → (x.answer ≡ a) × (x.arrays.recording ≡ r)
as_searched C k t B x w e =
    let c = searches_contract C k t B (lend C k t) x w in
    let p = ap (λ (n : Lent). searched C k t B n (replicate k 255)) (lend_enough C k t) ∙ e in
    (c.answer ∙ ap (λ (s : Searched). s.answer) p, c.recording ∙ ap (λ (s : Searched). s.recording) p)

abbrev text : List ℕ
text = ascii "(#a>=1|#b>=1)"

-- an engine's search: C, k, text, limit and arrays to an answer and arrays
module _ (E : ℕ → ℕ → List ℕ → ℕ → Arrays → Search) (good : (C k : ℕ) (t : List ℕ) (B : ℕ) (before : Arrays) → Searches C k t B before (E C k t B before)) where
  abbrev drawn : Search
  drawn = E 2 1 text most (lend 2 1 text)

  -- "`(#a>=1|#b>=1)`, C 2, k 1: byte 02, 1 try"
  printed : (drawn.answer ≡ Ok (Found 1)) × (drawn.arrays.recording ≡ 2 ∷ [])
  unfolding edges
  printed = as_searched 2 1 text most drawn (good 2 1 text most (lend 2 1 text)) edges_hold.1.1.1.1.1.0

  first : {l m : List ℕ} → l ≡ m → get_or l 0 0 ≡ get_or m 0 0
  first = ap (λ (l : List ℕ). get_or l 0 0)

  -- every search of the engine is so
  abbrev Always : (ℕ → Arrays → Search → Type 0) → Type 0
  Always X = (C k : ℕ) (t : List ℕ) (B : ℕ) (before : Arrays) → X k before (E C k t B before)

  -- "spent before any try"
  pub not_spent_at_once : Always (λ k before x. x.answer ≡ Ok (Spent 0)) → ⊥
  not_spent_at_once h = let p = printed.0 in let e = h 2 1 text most (lend 2 1 text) in absurd (false≢true cc)

  -- "none for every formula"
  pub not_always_none : Always (λ k before x. (n : ℕ) × (x.answer ≡ Ok (None n))) → ⊥
  not_always_none h = let p = printed.0 in let e = (h 2 1 text most (lend 2 1 text)).1 in absurd (false≢true cc)

  -- "every text refused"
  pub not_always_refused : Always (λ k before x. (r : Refusal) × (x.answer ≡ Err r)) → ⊥
  not_always_refused h = let p = printed.0 in let e = (h 2 1 text most (lend 2 1 text)).1 in absurd (false≢true cc)

  -- "an invented trial count"
  pub not_uncounted : Always (λ k before x. (n : ℕ) → x.answer ≡ Ok (Found n) → n ≡ 0) → ⊥
  not_uncounted h = let z = h 2 1 text most (lend 2 1 text) 1 printed.0 in omega arith

  -- "a recording of all low always"
  pub not_always_low : Always (λ k before x. (n : ℕ) → x.answer ≡ Ok (Found n) → x.arrays.recording ≡ replicate k 0) → ⊥
  not_always_low h = let z : ◌≡◌ {A = ℕ} 2 0 = first (sym printed.1 ∙ h 2 1 text most (lend 2 1 text) 1 printed.0) in omega arith

  -- "nothing written"
  pub nothing_drawn : Always (λ k before x. x.arrays.recording ≡ before.recording) → ⊥
  nothing_drawn h = let z : ◌≡◌ {A = ℕ} 2 255 = first (sym printed.1 ∙ h 2 1 text most (lend 2 1 text)) in omega arith

-- ---- evaluation

-- "a recording of all low always": `(#a>=1;!#a>=1)` is true on 01 and not on 00
pub not_deaf : (E : List ℕ → Result Bool Refusal) → ((recording : List ℕ) → Evaluates 1 1 0 1 (ascii "(#a>=1;!#a>=1)") recording (E recording)) → E (1 ∷ []) ≢ E (0 ∷ [])
unfolding edges
not_deaf E good e =
    let p = evaluated_only 1 1 0 1 _ (1 ∷ []) _ (good (1 ∷ [])) ∙ edges_hold.1.1.1.1.1.1.1.0 in
    let q = evaluated_only 1 1 0 1 _ (0 ∷ []) _ (good (0 ∷ [])) ∙ edges_hold.1.1.1.1.1.1.1.1.0 in
    absurd (false≢true cc)

-- ---- the table

-- "nothing written": `T`, C 1, k 0 has the sizes 1 0 1 2 2
pub nothing_tabled : (x : After) → (let n = length (places_in 1 0 (ascii "T")) in Tables 1 0 (ascii "T") (replicate 5 255) (replicate n 255) (replicate n 255) x) → x.sizes ≢ replicate 5 255
unfolding edges
nothing_tabled x good e =
    let p = ap (λ (y : After). y.sizes) (tabled_only 1 0 (ascii "T") _ _ _ x good) ∙ edges_hold.0.1 in
    let z : ◌≡◌ {A = ℕ} 1 255 = ap (λ (l : List ℕ). get_or l 0 0) (sym p ∙ e) in omega arith
