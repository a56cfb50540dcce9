-- A node's row follows from its parts: its size is theirs and one, its length theirs and its own signs, and its first byte, the byte
-- after its first part and the number there tell the rest.
use mathlib.Core.Path.{◌≡◌, refl, sym, ap, ◌∙◌}
use mathlib.Core.Bool.{true, false}
use mathlib.Core.List.{List, [], ◌∷◌, ◌++◌}
use Prim.Native.Nat.{ℕ, suc, ◌+◌, ◌*◌, ◌-◌, ◌/◌, ◌%◌, ◌≤◌, ◌<◌}
use native.Mathlib.Decide.{dec_lt}
use native.Mathlib.Omega.{arith}
use lib.ListN.{length, get_or, drop, length-append}
use borrow.Author.Tests.{le-leb, lt-ltb, le-ltb}
use Rattle.paper_grammar.specs.Limits.{max_number}
use Rattle.paper_grammar.specs.Trees.{Link, and, or, chop, Tree, constant, letter, negation, pair, duration, throughout, Numbers, decimal, link_byte, write, text_of}
use Rattle.paper_grammar.specs.Reader.{lead_of}
use Rattle.paper_grammar.specs.declared.Sort.{Sort}
use Rattle.paper_grammar.specs.declared.Sort.TheVariants.{Formula}
use Rattle.paper_grammar.specs.declared.Lead.{Lead}
use Rattle.paper_grammar.specs.declared.Lead.TheVariants.{Other}
use Rattle.lists.proofs.Tests.{at_each}
use Rattle.paper_grammar.proofs.Decimal.{decimal_digit, decimal_more}
use Rattle.paper_grammar.proofs.Written.{length_write}
use Rattle.formula_scan.specs.Scans.{number_from}
use Rattle.paper_grammar.specs.Nodes.{node, nodes_of, Node}
use Rattle.paper_grammar.proofs.EachNode.{OnParts}
use Rattle.formula_text.proofs.Standing.{Stands, first_is, link_is, digit_place, number_is}
use Rattle.formula_text.proofs.InOrder.{first_byte}
use Rattle.node_rows.specs.Table.{sort_code, link_code, heading, row_of}
use Rattle.node_rows.specs.Rows.{link_of, digits_of, part_at, duration_row, row_by, row_from, row_at}
use Rattle.node_rows.specs.declared.Head.{Head}
use Rattle.node_rows.specs.declared.Part.{Part}
use Rattle.node_rows.specs.declared.Row.{Row}

link_code_lem : {s : Sort} (l : Link s) → link_of (link_byte l) ≡ link_code l
link_code_lem and = refl
link_code_lem or = refl
link_code_lem chop = refl

letter_leads : (c : ℕ) → c < 8 → lead_of Formula (97 + c) ≡ Other
letter_leads = at_each (λ c. lead_of Formula (97 + c) ≡ Other) 8 refl refl refl refl refl refl refl refl

digits_are : (n : ℕ) → n ≤ max_number → length (decimal n) ≡ digits_of n
digits_are n h = go (dec_lt n 10)
  where
    two : (m d : ℕ) → 0 < m → m < 10 → d < 10 → length (decimal (m * 10 + d)) ≡ 2
    two m d a b c = rw (decimal_more m d a c, decimal_digit m b)

    go : Dec (n < 10) → length (decimal n) ≡ digits_of n
    go (yes l) = rw (lt-ltb n 10 l, decimal_digit n l)
    go (no l) =
        let e : n ≡ n / 10 * 10 + n % 10 = omega arith in
        rw (le-ltb n 10 (omega arith)) (ap (λ (m : ℕ). length (decimal m)) e ∙ two (n / 10) (n % 10) (omega arith) (omega arith) (omega arith))

-- a part's size and length are the node's
pub record PartIs (w : Node) (p : Part) : Type 0 where
  pub nodes : p.size ≡ length (nodes_of w.part w.first)
  pub bytes : p.length ≡ length (text_of w.part)

abbrev pub PartsAre : {s : Sort} → Tree s → ℕ → Part → Part → Type 0
PartsAre x at p q = OnParts (λ u. PartIs u p) (λ u w. PartIs w q) x at

pub same_row : (h h' : Head) (at n n' m m' : ℕ) → h ≡ h' → n ≡ n' → m ≡ m' →
    ◌≡◌ {A = Row} (record { head = h; size = n; first = at; length = m }) (record { head = h'; size = n'; first = at; length = m' })
same_row h h' at n n' m m' e f g = rw (e, f, g)

pub from_lead : (t : List ℕ) (b code at : ℕ) (p q : Part) (l : Lead) → lead_of Formula b ≡ l → row_by t b code at p q l ≡ row_from t b code at p q
unfolding row_from
from_lead t b code at p q l e = ap (row_by t b code at p q) (sym e)

pub from_parts : (t K S F L : List ℕ) (x at b code : ℕ) (p q : Part) → at ≡ get_or F x 0 → p ≡ part_at S L (x + 1) →
    q ≡ part_at S L (x + 1 + p.size) → b ≡ get_or t at 0 → code ≡ get_or K x 0
    → row_from t b code at p q ≡ row_at t K S F L x
unfolding row_at
from_parts t K S F L x at b code p q e f g h i = rw (h, i, g, e, f)

module _ (t : List ℕ) where
  pub row_found : {s : Sort} (x : Tree s) (at : ℕ) (p q : Part) → Stands t x at → Numbers max_number x → PartsAre x at p q → row_from t (get_or t at 0) (sort_code s) at p q ≡ row_of (node x at)
  unfolding row_from nodes_of write
  row_found {s} x at p q w n u = ap (λ (b : ℕ). row_from t b (sort_code s) at p q) (first_is t x at w) ∙ own x at p q w n u
    where
      own : {s : Sort} (x : Tree s) (at : ℕ) (p q : Part) → Stands t x at → Numbers max_number x → PartsAre x at p q → row_from t (first_byte x) (sort_code s) at p q ≡ row_of (node x at)
      own (constant true) at p q w n u = refl
      own (constant false) at p q w n u = refl
      own (letter c) at p q w n u =
          let e : 97 + c - 97 ≡ c = omega arith in
          ap (row_by t (97 + c) 0 at p q) (letter_leads c w.letters) ∙ ap (λ (c : ℕ). record { head = heading 6 c; size = 1; first = at; length = 1 }) e
      own (negation x) at p q w n u = same_row _ _ at _ _ _ _ refl (omega arith) (omega arith)
      own {s} (pair l x y) at p q w n u =
          let e : at + (1 + p.length) ≡ suc at + length (text_of x) = omega arith in
          let b : link_of (get_or t (at + (1 + p.length)) 0) ≡ link_code l = ap (λ (m : ℕ). link_of (get_or t m 0)) e ∙ ap link_of (link_is t l x y at w) ∙ link_code_lem l in
          same_row _ _ at _ _ _ _ (ap (λ (c : ℕ). heading (sort_code s + c) 0) b)
          (omega (arith, length-append (nodes_of x (suc at)) (nodes_of y (suc (suc at + length (text_of x))))))
          (omega (arith, length_write x (link_byte l ∷ write y (41 ∷ [])), length_write y (41 ∷ [])))
      own (duration x m) at p q w n u =
          let e : at + (1 + p.length) + 2 ≡ at + 1 + length (text_of x) + 2 = omega arith in
          let b : number_from 0 (drop (at + (1 + p.length) + 2) t) ≡ m =
          ap (λ (i : ℕ). number_from 0 (drop i t)) (e ∙ sym (digit_place t x m at w)) ∙ number_is t x m at w ∙ rw (le-leb m max_number n) in
          ap (λ (m : ℕ). duration_row m at p) b ∙
          same_row _ _ at _ _ _ _ refl (omega arith)
          (omega (arith, digits_are m n, length_write x (62 ∷ 61 ∷ decimal m ++ []), length-append (decimal m) []))
      own (throughout x) at p q w n u = same_row _ _ at _ _ _ _ refl (omega arith) (omega (arith, length_write x (93 ∷ [])))
