-- What stands after a part changes nothing of its text: the text is the part's own, then the rest. So a part that stands at a
-- place ends at that place and its own length.
use mathlib.Core.Path.{◌≡◌, refl, sym, ap, ◌∙◌}
use mathlib.Core.List.{List, [], ◌∷◌, ◌++◌, append_assoc}
use Prim.Native.Nat.{ℕ, suc, ◌+◌}
use native.Mathlib.Numerals.{add-one}
use lib.ListN.{length, drop, length-append}
use lib.Seq.{drop-drop, drop-append_seam}
use Rattle.paper_grammar.specs.Trees.{Tree, constant, letter, negation, pair, duration, throughout, decimal, link_byte, write, text_of}
use Rattle.paper_grammar.specs.declared.Sort.{Sort}

write_append : {s : Sort} (x : Tree s) (q r : List ℕ) → write x (q ++ r) ≡ write x q ++ r
unfolding write
write_append (constant v) q r = refl
write_append (letter c) q r = refl
write_append (negation x) q r = ap (λ (l : List ℕ). 33 ∷ l) (write_append x q r)
write_append (pair l x y) q r =
    ap (λ (k : List ℕ). 40 ∷ k) (ap (λ (k : List ℕ). write x (link_byte l ∷ k)) (write_append y (41 ∷ q) r) ∙ write_append x (link_byte l ∷ write y (41 ∷ q)) r)
write_append (duration x n) q r =
    ap (λ (k : List ℕ). 35 ∷ k) (ap (λ (k : List ℕ). write x (62 ∷ 61 ∷ k)) (sym (append_assoc (decimal n) q r)) ∙ write_append x (62 ∷ 61 ∷ decimal n ++ q) r)
write_append (throughout x) q r = ap (λ (k : List ℕ). 91 ∷ k) (write_append x (93 ∷ q) r)

module _ {s : Sort} (x : Tree s) (q : List ℕ) where
  pub write_text : write x q ≡ text_of x ++ q
  write_text = write_append x [] q

  pub length_write : length (write x q) ≡ length (text_of x) + length q
  length_write = ap length write_text ∙ length-append (text_of x) q

pub drop_front : {A : Type 0} (t : List A) (at : ℕ) (a q : List A) → drop at t ≡ a ++ q → drop (at + length a) t ≡ q
drop_front t at a q e = sym (drop-drop (length a) at t) ∙ ap (drop (length a)) e ∙ drop-append_seam a q

module _ (t : List ℕ) (at : ℕ) where
  pub drop_byte : (b : ℕ) (q : List ℕ) → drop at t ≡ b ∷ q → drop (suc at) t ≡ q
  drop_byte b q e = rw (sym (add-one at)) (drop_front t at (b ∷ []) q e)

  pub drop_part : {s : Sort} (x : Tree s) (q : List ℕ) → drop at t ≡ write x q → drop (at + length (text_of x)) t ≡ q
  drop_part x q e = drop_front t at (text_of x) q (e ∙ write_text x q)
