-- Each node of a printed tree stands at its place: from there on the text is the node's own and a rest that begins with no digit.
-- So reading the part from there on ends at its last byte, and what is told of a node by its place is the node's.
use mathlib.Core.Path.{◌≡◌, refl, sym, ap, ◌∙◌}
use mathlib.Core.List.{List, [], ◌∷◌, ◌++◌, append_assoc}
use Prim.Native.Nat.{ℕ, suc, ◌+◌, ◌*◌, ◌-◌, ◌≤◌}
use native.Mathlib.Nat.{add-zero}
use native.Mathlib.Omega.{arith}
use native.Mathlib.Numerals.{add-one}
use lib.ListN.{length, get_or, take, drop, length-drop}
use lib.Seq.{take-append_seam, get_or-drop}
use Rattle.paper_grammar.specs.Trees.{Link, Tree, constant, letter, negation, pair, duration, throughout, Letters, decimal, link_byte, write, text_of}
use Rattle.paper_grammar.specs.Reader.{whole, part, run}
use Rattle.paper_grammar.specs.declared.Sort.{Sort}
use Rattle.paper_grammar.specs.declared.Sort.TheVariants.{State}
use Rattle.paper_grammar.proofs.Bytes.{Clear, link_clear, digit_is}
use Rattle.paper_grammar.proofs.Decimal.{decimal_digit, decimal_more, by_digits}
use Rattle.paper_grammar.proofs.Printed.{part_read}
use Rattle.paper_grammar.proofs.Written.{write_text, length_write, drop_byte, drop_part}
use Rattle.formula_reader.specs.Parts.{value_from, rest_of, end_of}
use Rattle.formula_reader.proofs.Parts.{rest_whole, in_place}
use Rattle.paper_grammar.specs.Nodes.{Node}
use Rattle.formula_scan.specs.Scans.{capped, number_from, digit_of, number_of}
use Rattle.formula_text.proofs.InOrder.{first_byte, write_first}
use Rattle.paper_grammar.proofs.EachNode.{Passes}

-- a part stands at a place of a text
pub record Stands (t : List ℕ) {s : Sort} (x : Tree s) (at : ℕ) : Type 0 where
  pub rest : List ℕ
  pub here : drop at t ≡ write x rest
  pub clear : Clear rest
  pub letters : Letters 8 x

digits_read : (n : ℕ) (q : List ℕ) → value_from 0 (decimal n ++ q) ≡ value_from n q
digits_read = by_digits (λ n. (q : List ℕ) → value_from 0 (decimal n ++ q) ≡ value_from n q)
    (λ d h q. let e : 0 * 10 + (48 + d - 48) ≡ d = omega arith in rw (decimal_digit d h) (rw (digit_is d h) (ap (λ (v : ℕ). value_from v q) e)))
    (λ m d p h ih q. let e : 48 + d - 48 ≡ d = omega arith in
    rw (decimal_more m d p h, append_assoc (decimal m) ((48 + d) ∷ []) q) (ih ((48 + d) ∷ q) ∙ rw (digit_is d h, e)))

pub read_number : (n : ℕ) (q : List ℕ) → Clear q → number_from 0 (decimal n ++ q) ≡ capped n
read_number n [] c = ap capped (digits_read n [])
read_number n (b ∷ q) c = ap capped (digits_read n (b ∷ q)) ∙ rw c

module _ (t : List ℕ) where
  module _ {s : Sort} (x : Tree s) (at : ℕ) (w : Stands t x at) where
    -- it ends within the text
    pub end_within : at + length (text_of x) ≤ length t
    end_within = omega (arith, ap length w.here, length-drop at t, length_write x w.rest, ap length (write_first x []))

    end_is : end_of t s at ≡ at + length (text_of x)
    unfolding end_of
    end_is =
        let e = ap (λ q. rest_of (run (part s whole) q)) w.here ∙ ap rest_of (part_read x whole w.rest w.letters w.clear) ∙ rest_whole x w.rest in
        ap (λ (q : List ℕ). length t - length q) e ∙ sym (in_place t w.rest (at + length (text_of x)) end_within (sym (drop_part t at x w.rest w.here)))

    -- its own text is that part of the text
    pub text_is : take (length (text_of x)) (drop at t) ≡ text_of x
    text_is = ap (take (length (text_of x))) (w.here ∙ write_text x w.rest) ∙ take-append_seam (text_of x) w.rest

  abbrev pub StandsNode : Node → Type 0
  StandsNode w = Stands t w.part w.first

  -- the parts of a node stand
  pub stands_pass : Passes StandsNode
  unfolding write
  stands_pass s (constant v) at w = tt
  stands_pass s (letter c) at w = tt
  stands_pass s (negation x) at w = record { rest = w.rest; here = drop_byte t at 33 (write x w.rest) w.here; clear = w.clear; letters = w.letters }
  stands_pass s (pair l x y) at w =
      let q : List ℕ = link_byte l ∷ write y (41 ∷ w.rest) in
      let e = drop_byte t at 40 (write x q) w.here in
      let p : ℕ = suc at + length (text_of x) in (
        record { rest = q; here = e; clear = link_clear l; letters = w.letters.0 },
        record { rest = 41 ∷ w.rest; here = drop_byte t p (link_byte l) (write y (41 ∷ w.rest)) (drop_part t (suc at) x q e); clear = refl; letters = w.letters.1 },
      )
  stands_pass s (duration x n) at w =
      let q : List ℕ = 62 ∷ 61 ∷ decimal n ++ w.rest in
      record { rest = q; here = drop_byte t at 35 (write x q) w.here; clear = refl; letters = w.letters }
  stands_pass s (throughout x) at w = record { rest = 93 ∷ w.rest; here = drop_byte t at 91 (write x (93 ∷ w.rest)) w.here; clear = refl; letters = w.letters }

  -- a node's first byte, and the byte that joins its parts
  byte_at : (at b : ℕ) (q : List ℕ) → drop at t ≡ b ∷ q → get_or t at 0 ≡ b
  byte_at at b q e = ap (λ (n : ℕ). get_or t n 0) (sym (add-zero at)) ∙ sym (get_or-drop at t 0 0) ∙ ap (λ (l : List ℕ). get_or l 0 0) e

  pub first_is : {s : Sort} (x : Tree s) (at : ℕ) → Stands t x at → get_or t at 0 ≡ first_byte x
  first_is x at w = byte_at at (first_byte x) _ (w.here ∙ write_first x w.rest)

  pub link_is : {s : Sort} (l : Link s) (x y : Tree s) (at : ℕ) → Stands t (pair l x y) at → get_or t (suc at + length (text_of x)) 0 ≡ link_byte l
  unfolding stands_pass
  link_is l x y at w = let v = (stands_pass _ (pair l x y) at w).0 in byte_at (suc at + length (text_of x)) (link_byte l) _ (drop_part t (suc at) x v.rest v.here)

  -- a duration's number
  pub digit_place : (x : Tree State) (n at : ℕ) → Stands t (duration x n) at → digit_of t at ≡ at + 1 + length (text_of x) + 2
  digit_place x n at w = rw (add-one at) (ap (λ (p : ℕ). p + 2) (end_is x (suc at) (stands_pass _ (duration x n) at w)))

  digits_stand : (x : Tree State) (n at : ℕ) (w : Stands t (duration x n) at) → drop (digit_of t at) t ≡ decimal n ++ w.rest
  unfolding stands_pass
  digits_stand x n at w =
      let p : ℕ = suc at + length (text_of x) in
      let e : digit_of t at ≡ suc (suc p) = omega (arith, digit_place x n at w) in
      let v = stands_pass _ (duration x n) at w in
      ap (λ (m : ℕ). drop m t) e ∙ drop_byte t (suc p) 61 (decimal n ++ w.rest) (drop_byte t p 62 (61 ∷ decimal n ++ w.rest) (drop_part t (suc at) x v.rest v.here))

  pub number_is : (x : Tree State) (n at : ℕ) → Stands t (duration x n) at → number_of t at ≡ capped n
  number_is x n at w = ap (number_from 0) (digits_stand x n at w) ∙ read_number n w.rest w.clear
