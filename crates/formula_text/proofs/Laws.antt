-- What acceptance says of the tree: each question was answered with yes, so the text reads, and the questions about letters, numbers
-- and nodes found nothing in it.
use mathlib.Core.Path.{◌≡◌, refl, sym, ap, ◌∙◌, subst}
use mathlib.Core.Bool.{Bool, true, false, cond, false≢true}
use mathlib.Core.List.{List, [], ◌∷◌, ◌++◌, map, flat_map}
use Prim.Native.Nat.{ℕ, suc, ◌+◌, ◌≤◌}
use native.Mathlib.Omega.{arith}
use lib.Dec.{leb, ltb}
use lib.ListN.{length, drop, length-drop, length-map}
use borrow.Author.Tests.{leb-false, ltb-false}
use Rattle.std.specs.Prelude.{Err, Ok}
use Rattle.refusal.specs.Asked.{asked, Reply, ok}
use Rattle.interval.specs.Limits.{max_steps}
use Rattle.interval.proofs.Gives.{steps_yes}
use Rattle.paper_grammar.specs.Limits.{max_length, max_nodes, max_number, max_channels}
use Rattle.paper_grammar.specs.Trees.{Tree, constant, letter, negation, pair, duration, throughout, Letters, Numbers, text_of}
use Rattle.paper_grammar.specs.Reader.{is_start, parsed, read}
use Rattle.paper_grammar.specs.declared.Sort.{Sort}
use Rattle.paper_grammar.specs.declared.Sort.TheVariants.{Formula}
use Rattle.lists.proofs.Tests.{ranged}
use Rattle.formula_scan.specs.Scans.{scan, start_at, found_in}
use Rattle.formula_scan.specs.declared.Ask.TheVariants.{Nodes}
use Rattle.paper_grammar.specs.Nodes.{Node, nodes_of, nodes_read, nodes_in, node}
use Rattle.paper_grammar.specs.Questions.{at_first, ask_length, ask_grammar, outside, too_large, ask_letters, ask_numbers, ask_nodes, formula_questions, accept_of}
use Rattle.lists.specs.Listing.{All}
use Rattle.lists.proofs.Lists.{flat_append, flat_map_lem}
use Rattle.paper_grammar.proofs.EachNode.{OnParts, LettersNode, NumbersNode}
use Rattle.paper_grammar.proofs.Gives.{channels_yes}
use Rattle.formula_text.proofs.Found.{read_tree, found_in_lem}
use Rattle.refusal.proofs.Laws.{test_yes}

-- a formula accepted for C and k
pub record Accepted (C k : ℕ) (t : List ℕ) : Type 0 where
  pub channels : (1 ≤ C) × (C ≤ max_channels)
  pub steps : k ≤ max_steps
  pub bytes : (1 ≤ length t) × (length t ≤ max_length)
  pub grammar : ask_grammar t ≡ ok
  pub root : Tree Formula
  pub reads : read t ≡ parsed root
  pub letters : Letters C root
  pub numbers : Numbers max_number root
  pub nodes : length (nodes_of root 0) ≤ max_nodes

-- each was answered with yes
pub all_yes : (q : List Reply) → asked q Err ok ≡ ok → All (λ r. r ≡ ok) q
all_yes [] e = tt
all_yes (Ok _ ∷ q) e = (refl, all_yes q e)
all_yes (Err p ∷ q) e = absurd (false≢true cc)

none_first : (n : ℕ) (l : List ℕ) → at_first n l ≡ ok → l ≡ []
none_first n [] e = refl
none_first n (p ∷ l) e = absurd (false≢true cc)

both_empty : (l m : List ℕ) → l ++ m ≡ [] → (l ≡ []) × (m ≡ [])
both_empty [] m e = (refl, e)
both_empty (p ∷ l) m e = absurd (false≢true cc)

none_append : (f : Node → List ℕ) (l m : List Node) → flat_map f (l ++ m) ≡ [] → (flat_map f l ≡ []) × (flat_map f m ≡ [])
none_append f l m e = both_empty (flat_map f l) (flat_map f m) (sym (flat_append f l m) ∙ e)

-- what a question that finds nothing at a node says of it, its parts being so
module _ (f : (s : Sort) → Tree s → ℕ → List ℕ) (P : Node → Type 0) (q : (s : Sort) (x : Tree s) (at : ℕ) → f s x at ≡ [] → OnParts P (λ u. P) x at → P (node x at)) where
  abbrev finds : List Node → List ℕ
  finds = flat_map (λ (w : Node). f w.sort w.part w.first)

  own_none : (w : Node) (l : List Node) → finds (w ∷ l) ≡ [] → (f w.sort w.part w.first ≡ []) × (finds l ≡ [])
  unfolding flat_map
  own_none w l e = both_empty (f w.sort w.part w.first) (finds l) e

  none_says : {s : Sort} (x : Tree s) (at : ℕ) → finds (nodes_of x at) ≡ [] → P (node x at)
  unfolding nodes_of
  none_says {s} (constant v) at e = q s (constant v) at (own_none _ _ e).0 tt
  none_says (letter c) at e = q _ (letter c) at (own_none _ _ e).0 tt
  none_says (negation x) at e = let w = own_none _ _ e in q _ (negation x) at w.0 (none_says x (suc at) w.1)
  none_says (pair l x y) at e =
      let w = own_none _ _ e in
      let v = none_append (λ (w : Node). f w.sort w.part w.first) (nodes_of x (suc at)) (nodes_of y (suc (suc at + length (text_of x)))) w.1 in
      q _ (pair l x y) at w.0 (none_says x (suc at) v.0, none_says y (suc (suc at + length (text_of x))) v.1)
  none_says (duration x n) at e = let w = own_none _ _ e in q _ (duration x n) at w.0 (none_says x (suc at) w.1)
  none_says (throughout x) at e = let w = own_none _ _ e in q _ (throughout x) at w.0 (none_says x (suc at) w.1)

test_empty : (c : Bool) (p : ℕ) → cond c (p ∷ []) [] ≡ [] → c ≡ false
test_empty true p e = absurd (false≢true cc)
test_empty false p e = refl

letters_say : (C : ℕ) {s : Sort} (x : Tree s) (at : ℕ) → outside C x at ≡ [] → OnParts (LettersNode C) (λ u. LettersNode C) x at → Letters C x
letters_say C (constant v) at e p = tt
letters_say C (letter c) at e p = leb-false C c (test_empty (leb C c) at e)
letters_say C (negation x) at e p = p
letters_say C (pair l x y) at e p = p
letters_say C (duration x n) at e p = p
letters_say C (throughout x) at e p = p

numbers_say : {s : Sort} (x : Tree s) (at : ℕ) → too_large x at ≡ [] → OnParts (NumbersNode max_number) (λ u. NumbersNode max_number) x at → Numbers max_number x
numbers_say (constant v) at e p = tt
numbers_say (letter c) at e p = tt
numbers_say (negation x) at e p = p
numbers_say (pair l x y) at e p = p
numbers_say (duration x n) at e p = ltb-false max_number n (test_empty (ltb max_number n) (at + 1 + length (text_of x) + 2) e)
numbers_say (throughout x) at e p = tt

pub nodes_read_lem : (t : List ℕ) (f : Tree Formula) → read t ≡ parsed f → nodes_in t ≡ nodes_of f 0
unfolding nodes_in
nodes_read_lem t f e = ap nodes_read e

-- what acceptance says
pub accepted : (C k : ℕ) (t : List ℕ) → accept_of C k t ≡ ok → Accepted C k t
unfolding accept_of ask_length ask_letters ask_numbers ask_nodes
accepted C k t e =
    let q = all_yes (formula_questions C k t) e in
    let (f, r) = read_tree t q.1.1.1.0 in
    let n = nodes_read_lem t f r in
    let firsts : List ℕ = map (λ (w : Node). w.first) (nodes_in t) in
    record {
      channels = channels_yes C q.0;
      steps = steps_yes k q.1.0;
      bytes = ranged 1 max_length (length t) (test_yes 3 0 _ q.1.1.0);
      grammar = q.1.1.1.0;
      root = f;
      reads = r;
      letters = none_says (λ s. outside C) (LettersNode C) (λ s. letters_say C) f 0 (ap (flat_map (λ (w : Node). outside C w.part w.first)) (sym n) ∙ none_first 5 _ q.1.1.1.1.0);
      numbers =
          none_says (λ s. too_large) (NumbersNode max_number) (λ s. numbers_say) f 0
          (ap (flat_map (λ (w : Node). too_large w.part w.first)) (sym n) ∙ none_first 6 _ q.1.1.1.1.1.0);
      nodes = omega (arith, ap length n, ap length (none_first 7 (drop max_nodes firsts) q.1.1.1.1.1.1.0), length-drop max_nodes firsts, length-map (nodes_in t) (λ (w : Node). w.first));
    }

-- places one behind the other, from a place on
abbrev pub Rising : ℕ → List ℕ → Type 0
Rising at [] = Unit
Rising at (p ∷ l) = (at ≤ p) × Rising (suc p) l

rising_later : (at : ℕ) (l : List ℕ) → Rising (suc at) l → Rising at l
rising_later at [] w = tt
rising_later at (p ∷ l) w = (omega (arith, w.0), w.1)

rising_scan : (t : List ℕ) (at : ℕ) → Rising at (scan start_at t at)
unfolding scan
rising_scan [] at = tt
rising_scan (b ∷ t) at = go (is_start b) (rising_scan t (suc at))
  where
    go : (c : Bool) → Rising (suc at) (scan start_at t (suc at)) → Rising at (cond c (at ∷ []) [] ++ scan start_at t (suc at))
    go true w = (omega arith, w)
    go false w = rising_later at (scan start_at t (suc at)) w

-- the nodes stand in the order of their first bytes
pub nodes_in_order : (t : List ℕ) → ask_grammar t ≡ ok → Rising 0 (map (λ (w : Node). w.first) (nodes_in t))
unfolding found_in
nodes_in_order t e = subst (Rising 0) (found_in_lem t Nodes e ∙ flat_map_lem (λ (w : Node). w.first) (nodes_in t)) (rising_scan t 0)
