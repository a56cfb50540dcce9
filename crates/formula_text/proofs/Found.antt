-- What questions 5 to 7 find in the bytes of a text that reads is what its tree has: a scan meets the nodes in their order, and at
-- each node its first byte, and for a duration the number after it, tell what the tree's question asks.
use mathlib.Core.Path.{◌≡◌, refl, sym, ap, ◌∙◌}
use mathlib.Core.Bool.{Bool, true, false, cond, ◌||◌, false≢true}
use mathlib.Core.List.{List, [], ◌∷◌, append-nil, flat_map}
use Prim.Native.Nat.{ℕ, zero, suc, ◌+◌, ◌-◌, ◌<◌}
use native.Mathlib.Decide.{dec_lt}
use native.Mathlib.Omega.{arith}
use lib.Dec.{eqb, ltb}
use lib.ListN.{length, get_or, drop}
use borrow.Author.Tests.{ne_eqb, lt-leb, le-leb, lt-ltb}
use Rattle.refusal.specs.Asked.{ok}
use Rattle.paper_grammar.specs.Limits.{max_number, max_nodes}
use Rattle.paper_grammar.specs.Trees.{Link, and, or, chop, Tree, constant, letter, negation, pair, duration, throughout, text_of, link_byte}
use Rattle.paper_grammar.specs.Reader.{is_letter, is_start, Read, parsed, stopped, read}
use Rattle.paper_grammar.specs.declared.Sort.{Sort}
use Rattle.paper_grammar.specs.declared.Sort.TheVariants.{Formula}
use Rattle.lists.proofs.Tests.{at_each, neither}
use Rattle.paper_grammar.proofs.Laws.{prints_as_text}
use Rattle.paper_grammar.specs.Nodes.{Node, nodes_of, nodes_read, nodes_in}
use Rattle.paper_grammar.specs.Questions.{at_first, on_read, ask_grammar, outside, too_large, ask_letters, ask_numbers, ask_nodes}
use Rattle.formula_scan.specs.Scans.{scan, start_at, is_outside, outside_at, capped, digit_of, number_of, above_at, answers_at, found_in}
use Rattle.formula_scan.specs.declared.Ask.{Ask}
use Rattle.formula_scan.specs.declared.Ask.TheVariants.{Letters as AskLetters, Numbers, Nodes}
use Rattle.lists.proofs.Lists.{flat_same, flat_map_lem}
use Rattle.formula_text.proofs.InOrder.{first_byte, Quiet, scan_tree}
use Rattle.paper_grammar.proofs.EachNode.{each_node, each_all}
use Rattle.formula_text.proofs.Standing.{Stands, StandsNode, stands_pass, digit_place, number_is}

-- the bytes that begin no node: `&`, `|`, `;`, `)`, `]`, `>`, `=` and the digits
abbrev signs : List ℕ
signs = 38 ∷ 124 ∷ 59 ∷ 41 ∷ 93 ∷ 62 ∷ 61 ∷ 48 ∷ 49 ∷ 50 ∷ 51 ∷ 52 ∷ 53 ∷ 54 ∷ 55 ∷ 56 ∷ 57 ∷ []

-- a test picks none of a list
abbrev any : (ℕ → Bool) → List ℕ → Bool
any g [] = false
any g (b ∷ l) = g b || any g l

none : (g : ℕ → Bool) (l : List ℕ) → any g l ≡ false → (k : ℕ) → k < length l → g (get_or l k 0) ≡ false
none g [] e k h = absurd (omega arith)
none g (b ∷ l) e zero h = (neither (g b) (any g l) e).0
none g (b ∷ l) e (suc k) h = none g l (neither (g b) (any g l) e).1 k (omega arith)

digit_sign : (d : ℕ) → d < 10 → get_or signs (7 + d) 0 ≡ 48 + d
digit_sign = at_each (λ d. get_or signs (7 + d) 0 ≡ 48 + d) 10 refl refl refl refl refl refl refl refl refl refl

-- a test that picks no sign is quiet
quiet : (g : ℕ → Bool) (f : ℕ → List ℕ) → any g signs ≡ false → Quiet (λ b at. cond (g b) (f at) [])
quiet g f e = record {
  links = links;
  close = λ at. off at (p 3 (omega arith));
  shut = λ at. off at (p 4 (omega arith));
  more = λ at. off at (p 5 (omega arith));
  equal = λ at. off at (p 6 (omega arith));
  digit = λ d h at. off at (ap g (sym (digit_sign d h)) ∙ p (7 + d) (omega arith));
}
  where
    p : (k : ℕ) → k < 17 → g (get_or signs k 0) ≡ false
    p = none g signs e

    off : {c : Bool} (at : ℕ) → c ≡ false → cond c (f at) [] ≡ []
    off at e = ap (λ (c : Bool). cond c (f at) []) e

    links : {s : Sort} (l : Link s) (at : ℕ) → cond (g (link_byte l)) (f at) [] ≡ []
    links and at = off at (p 0 (omega arith))
    links or at = off at (p 1 (omega arith))
    links chop at = off at (p 2 (omega arith))

letter_is : (c : ℕ) → c < 8 → is_letter (97 + c) ≡ true
letter_is = at_each (λ c. is_letter (97 + c) ≡ true) 8 refl refl refl refl refl refl refl refl

letter_starts : (c : ℕ) → c < 8 → is_start (97 + c) ≡ true
letter_starts = at_each (λ c. is_start (97 + c) ≡ true) 8 refl refl refl refl refl refl refl refl

-- what stands for an answer at a node
abbrev answer : Ask → {s : Sort} → Tree s → ℕ → List ℕ
answer (AskLetters C) x at = outside C x at
answer Numbers x at = too_large x at
answer Nodes x at = at ∷ []

module _ (t : List ℕ) where
  quiet_at : (a : Ask) → Quiet (answers_at a t)
  quiet_at (AskLetters C) = quiet (is_outside C) (λ at. at ∷ []) refl
  quiet_at Numbers = quiet (λ b. eqb b 35) (λ at. cond (ltb max_number (number_of t at)) (digit_of t at ∷ []) []) refl
  quiet_at Nodes = quiet is_start (λ at. at ∷ []) refl

  limited_above : (n : ℕ) → ltb max_number (capped n) ≡ ltb max_number n
  limited_above n = go (dec_lt max_number n)
    where
      go : Dec (max_number < n) → ltb max_number (capped n) ≡ ltb max_number n
      go (yes h) = rw (lt-leb n max_number h, lt-ltb max_number n h)
      go (no h) = rw (le-leb n max_number (omega arith))

  -- what a node's first byte tells to each question
  first_tells : (C : ℕ) {s : Sort} (x : Tree s) (at : ℕ) → Stands t x at
      → (outside_at C (first_byte x) at ≡ outside C x at) × (above_at t (first_byte x) at ≡ too_large x at) × (start_at (first_byte x) at ≡ at ∷ [])
  first_tells C (constant true) at w = (refl, refl, refl)
  first_tells C (constant false) at w = (refl, refl, refl)
  first_tells C (letter c) at w =
      let e : 97 + c - 97 ≡ c = omega arith in
      (rw (letter_is c w.letters, e), rw (ne_eqb (97 + c) 35 (λ e. omega arith)), rw (letter_starts c w.letters))
  first_tells C (negation x) at w = (refl, refl, refl)
  first_tells C (pair and x y) at w = (refl, refl, refl)
  first_tells C (pair or x y) at w = (refl, refl, refl)
  first_tells C (pair chop x y) at w = (refl, refl, refl)
  first_tells C (duration x n) at w = (refl, rw (number_is t x n at w, digit_place t x n at w, limited_above n), refl)
  first_tells C (throughout x) at w = (refl, refl, refl)

  answered : (a : Ask) {s : Sort} (x : Tree s) (at : ℕ) → Stands t x at → answers_at a t (first_byte x) at ≡ answer a x at
  answered (AskLetters C) x at w = (first_tells C x at w).0
  answered Numbers x at w = (first_tells 0 x at w).1
  answered Nodes x at w = (first_tells 0 x at w).2

  -- a scan of a part's bytes finds what its tree has
  found_part : (a : Ask) {s : Sort} (x : Tree s) (at : ℕ) → Stands t x at → scan (answers_at a t) (text_of x) at ≡ flat_map (λ (w : Node). answer a w.part w.first) (nodes_of x at)
  unfolding scan
  found_part a x at w =
      scan_tree (answers_at a t) (quiet_at a) x at [] ∙ append-nil _
      ∙ flat_same _ _ (nodes_of x at) (each_all (StandsNode t) _ (λ v s. answered a v.part v.first s) (nodes_of x at) (each_node (StandsNode t) (stands_pass t) x at w))

  -- a text that reads has a tree
  pub read_tree : ask_grammar t ≡ ok → (f : Tree Formula) × (read t ≡ parsed f)
  unfolding ask_grammar
  read_tree = go (read t)
    where
      go : (o : Read Formula) → on_read o ≡ ok → (f : Tree Formula) × (o ≡ parsed f)
      go (parsed f) e = (f, refl)
      go (stopped p) e = absurd (false≢true cc)

  pub root_stands : (f : Tree Formula) → read t ≡ parsed f → Stands t f 0
  root_stands f r = let w = prints_as_text t f r in record { rest = []; here = sym w.1; clear = tt; letters = w.0 }

  pub found_in_lem : (a : Ask) → ask_grammar t ≡ ok → found_in a t ≡ flat_map (λ (w : Node). answer a w.part w.first) (nodes_in t)
  unfolding nodes_in found_in
  found_in_lem a e =
      let (f, r) = read_tree e in
      ap (λ (q : List ℕ). scan (answers_at a t) q 0) (sym (prints_as_text t f r).1) ∙ found_part a f 0 (root_stands f r) ∙
      ap (λ (o : Read Formula). flat_map (λ (w : Node). answer a w.part w.first) (nodes_read o)) (sym r)

  pub letters_asked : (C : ℕ) → ask_grammar t ≡ ok → ask_letters C (nodes_in t) ≡ at_first 5 (drop 0 (found_in (AskLetters C) t))
  unfolding ask_letters
  letters_asked C e = ap (at_first 5) (sym (found_in_lem (AskLetters C) e))

  pub numbers_asked : ask_grammar t ≡ ok → ask_numbers (nodes_in t) ≡ at_first 6 (drop 0 (found_in Numbers t))
  unfolding ask_numbers
  numbers_asked e = ap (at_first 6) (sym (found_in_lem Numbers e))

  pub nodes_asked : ask_grammar t ≡ ok → ask_nodes (nodes_in t) ≡ at_first 7 (drop max_nodes (found_in Nodes t))
  unfolding ask_nodes
  nodes_asked e = ap (λ (l : List ℕ). at_first 7 (drop max_nodes l)) (sym (found_in_lem Nodes e ∙ flat_map_lem (λ (w : Node). w.first) (nodes_in t)))
