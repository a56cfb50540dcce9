-- Going through the bytes of a printed tree and answering at first bytes only, one meets the nodes in their order: what stands
-- within a node beside its parts is a sign, a link or a digit, and none of these begins a node.
use mathlib.Core.Path.{◌≡◌, refl, sym, ap, ◌∙◌}
use mathlib.Core.List.{List, [], ◌∷◌, ◌++◌, append_assoc, flat_map}
use Prim.Native.Nat.{ℕ, suc, ◌+◌, ◌<◌}
use native.Mathlib.Omega.{arith}
use lib.ListN.{length, drop, length-append}
use Rattle.paper_grammar.specs.Trees.{Link, Tree, constant, letter, negation, pair, duration, throughout, decimal, link_byte, constant_byte, write, text_of}
use Rattle.paper_grammar.specs.declared.Sort.{Sort}
use Rattle.paper_grammar.proofs.Decimal.{decimal_digit, decimal_more, by_digits}
use Rattle.paper_grammar.proofs.Written.{length_write}
use Rattle.paper_grammar.specs.Nodes.{Node, nodes_of}
use Rattle.formula_scan.specs.Scans.{scan}
use Rattle.lists.proofs.Lists.{flat_append}

abbrev pub first_byte : {s : Sort} → Tree s → ℕ
first_byte (constant v) = constant_byte v
first_byte (letter c) = 97 + c
first_byte (negation x) = 33
first_byte (pair l x y) = 40
first_byte (duration x n) = 35
first_byte (throughout x) = 91

pub write_first : {s : Sort} (x : Tree s) (q : List ℕ) → write x q ≡ first_byte x ∷ drop 1 (write x q)
unfolding write
write_first (constant v) q = refl
write_first (letter c) q = refl
write_first (negation x) q = refl
write_first (pair l x y) q = refl
write_first (duration x n) q = refl
write_first (throughout x) q = refl

-- no answer at a byte that begins no node
pub record Quiet (h : ℕ → ℕ → List ℕ) : Type 0 where
  pub links : {s : Sort} (l : Link s) (at : ℕ) → h (link_byte l) at ≡ []
  pub close : (at : ℕ) → h 41 at ≡ []
  pub shut : (at : ℕ) → h 93 at ≡ []
  pub more : (at : ℕ) → h 62 at ≡ []
  pub equal : (at : ℕ) → h 61 at ≡ []
  pub digit : (d : ℕ) → d < 10 → (at : ℕ) → h (48 + d) at ≡ []

module _ (h : ℕ → ℕ → List ℕ) (w : Quiet h) where
  skip : (b at : ℕ) (q : List ℕ) → h b at ≡ [] → scan h (b ∷ q) at ≡ scan h q (suc at)
  unfolding scan
  skip b at q e = ap (λ (l : List ℕ). l ++ scan h q (suc at)) e

  skip_number : (n at : ℕ) (q : List ℕ) → scan h (decimal n ++ q) at ≡ scan h q (at + length (decimal n))
  skip_number n = by_digits (λ n. (at : ℕ) (q : List ℕ) → scan h (decimal n ++ q) at ≡ scan h q (at + length (decimal n)))
      (λ d k at q. rw (decimal_digit d k) (skip (48 + d) at q (w.digit d k at) ∙ ap (scan h q) (omega arith)))
      (λ m d p k ih at q. rw (decimal_more m d p k, append_assoc (decimal m) ((48 + d) ∷ []) q, length-append (decimal m) ((48 + d) ∷ []))
      (ih at ((48 + d) ∷ q) ∙ skip (48 + d) (at + length (decimal m)) q (w.digit d k (at + length (decimal m))) ∙ ap (scan h q) (omega arith))) n

  -- the answers at a tree's nodes
  abbrev pub answers : {s : Sort} → Tree s → ℕ → List ℕ
  answers x at = flat_map (λ (v : Node). h (first_byte v.part) v.first) (nodes_of x at)

  -- a byte, a part, and what is left of the text
  then : (a b c d : List ℕ) → b ≡ c ++ d → a ++ b ≡ (a ++ c) ++ d
  then a b c d e = ap (λ (l : List ℕ). a ++ l) e ∙ sym (append_assoc a c d)

  pub scan_tree : {s : Sort} (x : Tree s) (at : ℕ) (q : List ℕ) → scan h (write x q) at ≡ answers x at ++ scan h q (at + length (text_of x))
  unfolding scan write nodes_of flat_map
  scan_tree (constant v) at q = then (h (constant_byte v) at) _ [] _ (ap (scan h q) (omega arith))
  scan_tree (letter c) at q = then (h (97 + c) at) _ [] _ (ap (scan h q) (omega arith))
  scan_tree (negation x) at q = then (h 33 at) _ (answers x (suc at)) _ (scan_tree x (suc at) q ∙ ap (λ (p : ℕ). answers x (suc at) ++ scan h q p) (omega arith))
  scan_tree (pair l x y) at q = then (h 40 at) _ _ _
      (scan_tree x (suc at) (link_byte l ∷ write y (41 ∷ q))
      ∙ ap (λ (p : List ℕ). answers x (suc at) ++ p) (skip (link_byte l) (suc at + length (text_of x)) (write y (41 ∷ q)) (w.links l _)
      ∙ scan_tree y (suc (suc at + length (text_of x))) (41 ∷ q)
      ∙ ap (λ (p : List ℕ). answers y (suc (suc at + length (text_of x))) ++ p)
      (skip 41 _ q (w.close _) ∙ ap (scan h q) (omega (arith, length_write x (link_byte l ∷ write y (41 ∷ [])), length_write y (41 ∷ [])))))
      ∙ sym (append_assoc (answers x (suc at)) (answers y (suc (suc at + length (text_of x)))) _)
      ∙ ap (λ (p : List ℕ). p ++ scan h q (at + length (text_of (pair l x y))))
      (sym (flat_append (λ (v : Node). h (first_byte v.part) v.first) (nodes_of x (suc at)) (nodes_of y (suc (suc at + length (text_of x)))))))
  scan_tree (duration x n) at q = then (h 35 at) _ _ _
      (scan_tree x (suc at) (62 ∷ 61 ∷ decimal n ++ q)
      ∙ ap (λ (p : List ℕ). answers x (suc at) ++ p) (skip 62 _ (61 ∷ decimal n ++ q) (w.more _) ∙ skip 61 _ (decimal n ++ q) (w.equal _) ∙ skip_number n _ q
      ∙ ap (scan h q) (omega (arith, length_write x (62 ∷ 61 ∷ decimal n ++ []), length-append (decimal n) []))))
  scan_tree (throughout x) at q = then (h 91 at) _ _ _
      (scan_tree x (suc at) (93 ∷ q)
      ∙ ap (λ (p : List ℕ). answers x (suc at) ++ p) (skip 93 _ q (w.shut _) ∙ ap (scan h q) (omega (arith, length_write x (93 ∷ [])))))
