-- Going through the bytes of a printed tree with the number of its sort, one meets its nodes in order, each with the number of its own
-- sort: `#` and `[` change it before a state assertion, `>` and `]` change it back after; no other byte does.
use mathlib.Core.Path.{◌≡◌, refl, sym, ap, ap₂, ◌∙◌}
use mathlib.Core.Bool.{Bool, true, false, cond}
use mathlib.Core.List.{List, [], ◌∷◌, ◌++◌, append_assoc, append-nil, map, map-append}
use Prim.Native.Nat.{ℕ, suc, ◌+◌, ◌≤◌, ◌<◌}
use native.Mathlib.Omega.{arith}
use native.Mathlib.Numerals.{add-one}
use lib.ListN.{length, get_or, drop, set, drop_of_length-le, length-append, length-map}
use Rattle.refusal.specs.Asked.{ok}
use Rattle.paper_grammar.specs.Limits.{max_length, max_nodes}
use Rattle.paper_grammar.specs.Trees.{Link, and, or, chop, Tree, constant, letter, negation, pair, duration, throughout, Letters, decimal, link_byte, write, text_of}
use Rattle.paper_grammar.specs.Reader.{is_start}
use Rattle.paper_grammar.specs.declared.Sort.{Sort}
use Rattle.lists.proofs.Tests.{at_each}
use Rattle.paper_grammar.proofs.Decimal.{decimal_digit, decimal_more, by_digits}
use Rattle.paper_grammar.proofs.Laws.{prints_as_text}
use Rattle.paper_grammar.proofs.Written.{length_write}
use Rattle.formula_reader.proofs.Parts.{at_byte}
use Rattle.paper_grammar.specs.Nodes.{nodes_of, nodes_in}
use Rattle.paper_grammar.specs.Questions.{accept_of}
use Rattle.formula_text.proofs.Laws.{accepted, nodes_read_lem}
use Rattle.node_rows.specs.Table.{sort_code, table_of}
use Rattle.node_rows.specs.Rows.{code_after, begun_row, begun}
use Rattle.node_rows.specs.declared.Row.{Row}
use Rattle.node_rows.specs.declared.NodeTable.{NodeTable}
use Rattle.node_rows.proofs.Steps.{stored_more, kept_more}

-- the row that begins at a byte, if any
abbrev begun_at : ℕ → ℕ → ℕ → List Row
begun_at code b at = cond (is_start b) (begun_row code at ∷ []) []

unfoldable pub begun_in : ℕ → List ℕ → ℕ → List Row
begun_in code [] at = []
begun_in code (b ∷ q) at = begun_at code b at ++ begun_in (code_after code b) q (suc at)

-- a byte that begins no node and leaves the sort
abbrev Silent : ℕ → ℕ → Type 0
Silent code b = (is_start b ≡ false) × (code_after code b ≡ code)

skip : (code b at : ℕ) (q : List ℕ) → Silent code b → begun_in code (b ∷ q) at ≡ begun_in code q (suc at)
unfolding begun_in
skip code b at q w = ap₂ (λ (c : Bool) (n : ℕ). cond c (begun_row code at ∷ []) [] ++ begun_in n q (suc at)) w.0 w.1

link_silent : {s : Sort} (code : ℕ) (l : Link s) → Silent code (link_byte l)
link_silent code and = (refl, refl)
link_silent code or = (refl, refl)
link_silent code chop = (refl, refl)

digit_silent : (d : ℕ) → d < 10 → Silent 16 (48 + d)
digit_silent = at_each (λ d. Silent 16 (48 + d)) 10 (refl, refl) (refl, refl) (refl, refl) (refl, refl) (refl, refl) (refl, refl) (refl, refl) (refl, refl) (refl, refl) (refl, refl)

letter_begins : (c : ℕ) → c < 8 → (is_start (97 + c) ≡ true) × (code_after 0 (97 + c) ≡ 0)
letter_begins = at_each (λ c. (is_start (97 + c) ≡ true) × (code_after 0 (97 + c) ≡ 0)) 8 (refl, refl) (refl, refl) (refl, refl) (refl, refl) (refl, refl) (refl, refl) (refl, refl) (refl, refl)

skip_number : (n at : ℕ) (q : List ℕ) → begun_in 16 (decimal n ++ q) at ≡ begun_in 16 q (at + length (decimal n))
skip_number = by_digits (λ n. (at : ℕ) (q : List ℕ) → begun_in 16 (decimal n ++ q) at ≡ begun_in 16 q (at + length (decimal n)))
    (λ d k at q. rw (decimal_digit d k) (skip 16 (48 + d) at q (digit_silent d k) ∙ ap (begun_in 16 q) (omega arith)))
    (λ m d p k ih at q. rw (decimal_more m d p k, append_assoc (decimal m) ((48 + d) ∷ []) q, length-append (decimal m) ((48 + d) ∷ []))
    (ih at ((48 + d) ∷ q) ∙ skip 16 (48 + d) (at + length (decimal m)) q (digit_silent d k) ∙ ap (begun_in 16 q) (omega arith)))

begun_tree : {s : Sort} (x : Tree s) (at : ℕ) (q : List ℕ) → Letters 8 x → begun_in (sort_code s) (write x q) at ≡ map begun (nodes_of x at) ++ begun_in (sort_code s) q (at + length (text_of x))
unfolding begun_in write nodes_of
begun_tree {s} (constant true) at q w = ap (λ (n : ℕ). begun_row (sort_code s) at ∷ begun_in (sort_code s) q n) (omega arith)
begun_tree {s} (constant false) at q w = ap (λ (n : ℕ). begun_row (sort_code s) at ∷ begun_in (sort_code s) q n) (omega arith)
begun_tree (letter c) at q w =
    let e = letter_begins c w in
    ap₂ (λ (b : Bool) (n : ℕ). cond b (begun_row 0 at ∷ []) [] ++ begun_in n q (suc at)) e.0 e.1 ∙ ap (λ (n : ℕ). begun_row 0 at ∷ begun_in 0 q n) (omega arith)
begun_tree {s} (negation x) at q w =
    ap (λ (l : List Row). begun_row (sort_code s) at ∷ l) (begun_tree x (suc at) q w ∙ ap (λ (n : ℕ). map begun (nodes_of x (suc at)) ++ begun_in (sort_code s) q n) (omega arith))
begun_tree {s} (pair l x y) at q w =
    let X = nodes_of x (suc at) in
    let m : ℕ = suc (suc at + length (text_of x)) in
    let Y = nodes_of y m in
    ap (λ (r : List Row). begun_row (sort_code s) at ∷ r) (begun_tree x (suc at) (link_byte l ∷ write y (41 ∷ q)) w.0
    ∙ ap (λ (r : List Row). map begun X ++ r) (skip (sort_code s) (link_byte l) (suc at + length (text_of x)) (write y (41 ∷ q)) (link_silent (sort_code s) l) ∙ begun_tree y m (41 ∷ q) w.1
    ∙ ap (λ (n : ℕ). map begun Y ++ begun_in (sort_code s) q n) (omega (arith, length_write x (link_byte l ∷ write y (41 ∷ [])), length_write y (41 ∷ []))))
    ∙ sym (append_assoc (map begun X) (map begun Y) _) ∙ ap (λ (r : List Row). r ++ begun_in (sort_code s) q (at + length (text_of (pair l x y)))) (sym (map-append begun X Y)))
begun_tree (duration x n) at q w =
    ap (λ (l : List Row). begun_row 16 at ∷ l) (begun_tree x (suc at) (62 ∷ 61 ∷ decimal n ++ q) w
    ∙ ap (λ (l : List Row). map begun (nodes_of x (suc at)) ++ l)
    (skip_number n _ q ∙ ap (begun_in 16 q) (omega (arith, length_write x (62 ∷ 61 ∷ decimal n ++ []), length-append (decimal n) []))))
begun_tree (throughout x) at q w =
    ap (λ (l : List Row). begun_row 16 at ∷ l) (begun_tree x (suc at) (93 ∷ q) w
    ∙ ap (λ (n : ℕ). map begun (nodes_of x (suc at)) ++ begun_in 16 q n) (omega (arith, length_write x (93 ∷ []))))

-- an accepted text
module _ (C k : ℕ) (t : List ℕ) (e : accept_of C k t ≡ ok) where
  begun_text : begun_in 16 t 0 ≡ map begun (nodes_in t)
  unfolding begun_in
  begun_text =
      let a = accepted C k t e in
      let p = prints_as_text t a.root a.reads in
      ap (λ (q : List ℕ). begun_in 16 q 0) (sym p.1) ∙ begun_tree a.root 0 [] p.0 ∙ append-nil _ ∙ ap (map begun) (sym (nodes_read_lem t a.root a.reads))

  pub nodes_most : length (nodes_in t) ≤ max_nodes
  nodes_most = let a = accepted C k t e in omega (arith, a.nodes, ap length (nodes_read_lem t a.root a.reads))

  pub bytes_most : length t ≤ max_length
  bytes_most = (accepted C k t e).bytes.1

-- a table with one begun row more
abbrev pub with_begun : ℕ → ℕ → NodeTable → NodeTable
with_begun code at n = record {
  count = n.count + 1;
  kinds = set n.kinds n.count code;
  numbers = n.numbers;
  sizes = n.sizes;
  firsts = set n.firsts n.count at;
  lengths = n.lengths;
}

table_more : (done : List Row) (code at : ℕ) → length done < max_nodes → with_begun code at (table_of done) ≡ table_of (done ++ begun_row code at ∷ [])
unfolding table_of
table_more done code at h =
    let r = begun_row code at in
    rw (
      stored_more (λ (r : Row). r.head.kind) done r h,
      kept_more (λ (r : Row). r.head.number) done r h refl,
      kept_more (λ (r : Row). r.size) done r h refl,
      stored_more (λ (r : Row). r.first) done r h,
      kept_more (λ (r : Row). r.length) done r h refl,
      length-append done (r ∷ []),
    )

-- the rows so far, and those that are left
pub record Begun (t : List ℕ) (table : NodeTable) (code i : ℕ) : Type 0 where
  pub done : List Row
  pub is : table ≡ table_of done
  pub same : done ++ begun_in code (drop i t) i ≡ begun_in 16 t 0

module _ (C k : ℕ) (t : List ℕ) (a : accept_of C k t ≡ ok) (table : NodeTable) (code i : ℕ) (w : Begun t table code i) where
  pub begun_done : length t ≤ i → table ≡ table_of (map begun (nodes_in t))
  unfolding begun_in
  begun_done h = w.is ∙ ap table_of (sym (append-nil w.done) ∙ ap (λ (l : List ℕ). w.done ++ begun_in code l i) (sym (drop_of_length-le t h)) ∙ w.same ∙ begun_text C k t a)

  module _ (h : i < length t) (code' : ℕ) (c : code' ≡ code_after code (get_or t i 0)) where
    left : (s : Bool) → is_start (get_or t i 0) ≡ s → w.done ++ (cond s (begun_row code i ∷ []) [] ++ begun_in code' (drop (i + 1) t) (i + 1)) ≡ begun_in 16 t 0
    unfolding begun_in
    left s e =
        ap₂ (λ (s : Bool) (n : ℕ). w.done ++ (cond s (begun_row code i ∷ []) [] ++ begun_in n (drop (i + 1) t) (i + 1))) (sym e) c
        ∙ ap (λ (l : List Row). w.done ++ l) (rw (add-one i) (rw (add-one i) at (ap (λ (q : List ℕ). begun_in code q i) (sym (at_byte t i h))))) ∙ w.same

    pub begun_skip : is_start (get_or t i 0) ≡ false → Begun t table code' (i + 1)
    begun_skip e = record { done = w.done; is = w.is; same = left false e }

    module _ (e : is_start (get_or t i 0) ≡ true) where
      room : length w.done < max_nodes
      room =
          omega (
            arith,
            nodes_most C k t a,
            ap length (left true e),
            length-append w.done (begun_row code i ∷ begun_in code' (drop (i + 1) t) (i + 1)),
            ap length (begun_text C k t a),
            length-map (nodes_in t) begun,
          )

      pub begun_room : table.count < max_nodes
      unfolding table_of
      begun_room = omega (arith, room, ap (λ (n : NodeTable). n.count) w.is)

      pub begun_more : Begun t (with_begun code i table) code' (i + 1)
      begun_more = record {
        done = w.done ++ begun_row code i ∷ [];
        is = ap (with_begun code i) w.is ∙ table_more w.done code i room;
        same = append_assoc w.done (begun_row code i ∷ []) _ ∙ left true e;
      }
