-- Each variable beyond the channels is defined once, since each node's definitions define its block and the blocks follow each other.
-- Definitions of the variables from b to before e, each once, define v as often as "v is below e" exceeds "v is below b"; this adds up along lists.
use mathlib.Core.Path.{◌≡◌, sym, ap, ◌∙◌}
use mathlib.Core.Bool.{cond}
use mathlib.Core.List.{List, [], ◌∷◌, ◌++◌, map, map-map, map-append}
use Prim.Native.Nat.{ℕ, zero, suc, ◌+◌, ◌-◌, ◌*◌, ◌<◌, min}
use native.Mathlib.Nat.{add_assoc, suc-mul, zero-mul}
use native.Mathlib.Omega.{arith}
use lib.Dec.{eqb}
use borrow.Author.Tests.{eqb-true, eqb-false}
use Rattle.lists.specs.Listing.{rows, tab, All}
use Rattle.interval.specs.Places.{count_of, triple_count_of}
use Rattle.lists.proofs.Listing.{map_rows}
use Rattle.interval.proofs.Shape.{Numbered}
use Rattle.interval.proofs.Laws.{intervals_numbered, triples_numbered}
use Rattle.paper_grammar.specs.Trees.{and, or, chop, Tree, constant, letter, negation, pair, duration, throughout}
use Rattle.paper_grammar.specs.declared.Sort.{Sort}
use Rattle.lists.proofs.Tests.{cond_elim}
use Rattle.paper_grammar.specs.Nodes.{Node}
use Rattle.paper_circuit.specs.Circuit.{Definition, define, alike, points_of, width_of, blocks_of, variables_of, level_gate, triple_gate, chop_gate}
use Rattle.paper_circuit.specs.Circuit.{throughout_gate, Seats, own_by, own_of, defined_from, definitions_of}
use Rattle.paper_circuit.specs.declared.Gate.{Gate}
use Rattle.paper_circuit.proofs.Blocks.{From}

-- how often v occurs in a list
unfoldable pub occurs : ℕ → List ℕ → ℕ
occurs v [] = 0
occurs v (u ∷ l) = cond (eqb v u) 1 0 + occurs v l

abbrev variables : List Definition → List ℕ
variables D = map (λ (d : Definition). d.variable) D

-- how many of the definitions define v
abbrev pub times : ℕ → List Definition → ℕ
times v D = occurs v (variables D)

-- 1 if v is below b, else 0
below : ℕ → ℕ → ℕ
below v b = min 1 (b - v)

module _ (v : ℕ) where
  -- the list has the numbers from b to before e, each once
  abbrev Fills : ℕ → ℕ → List ℕ → Type 0
  Fills b e l = occurs v l + below v b ≡ below v e

  occurs_append : (l m : List ℕ) → occurs v (l ++ m) ≡ occurs v l + occurs v m
  unfolding occurs
  occurs_append [] m = omega arith
  occurs_append (u ∷ l) m = omega (arith, occurs_append l m)

  fills_none : (b e : ℕ) → b ≡ e → Fills b e []
  unfolding occurs
  fills_none b e q = omega (arith, ap (below v) q)

  fills_one : (b : ℕ) → Fills b (b + 1) (b ∷ [])
  unfolding occurs below
  fills_one b = cond_elim (λ n. n + 0 + below v b ≡ below v (b + 1)) (eqb v b) (λ t. omega (arith, eqb-true v b t)) (λ t. omega (arith, eqb-false v b t))

  fills_append : (b c e f : ℕ) (l m : List ℕ) → Fills b c l → Fills c e m → e ≡ f → Fills b f (l ++ m)
  fills_append b c e f l m h g q = omega (arith, occurs_append l m, ap (below v) q)

  fills_rows : (b w n : ℕ) (f : ℕ → List ℕ) → ((i : ℕ) → Fills (b + i * w) (b + i * w + w) (f i)) → Fills b (b + n * w) (rows n f)
  unfolding rows
  fills_rows b w zero f h = fills_none b _ (omega (arith, zero-mul w))
  fills_rows b w (suc n) f h = fills_append b _ _ _ (rows n f) (f n) (fills_rows b w n f h) (h n) (omega (arith, suc-mul n w))

  fills_tab : (b n : ℕ) → Fills b (b + n) (tab n (λ p. b + p))
  unfolding rows
  fills_tab b zero = fills_none b _ (omega arith)
  fills_tab b (suc n) = fills_append b _ _ _ (tab n (λ p. b + p)) ((b + n) ∷ []) (fills_tab b n) (fills_one (b + n)) (omega arith)

  fills_alike : (b n : ℕ) (g : ℕ → Gate) → Fills b (b + n) (variables (alike b n g))
  fills_alike b n g = simp map_rows (fills_tab b n)

  module _ {A : Type 0} {In : A → Type 0} {placed : A → ℕ} {listed : List A} {n : ℕ} (m : Numbered In placed listed n) where
    fills_numbered : (b : ℕ) (g : A → Gate) → Fills b (b + n) (variables (map (λ a. define (b + placed a) (g a)) listed))
    fills_numbered b g =
        let e : variables (map (λ a. define (b + placed a) (g a)) listed) ≡ tab n (λ p. b + p) =
        map-map _ _ listed ∙ sym (map-map (λ p. b + p) placed listed) ∙ ap (map (λ p. b + p)) m.in_order ∙ map_rows (λ p. b + p) (λ p. p ∷ []) n in
        rw e (fills_tab b n)

  own_fills : (C k b : ℕ) (S : Seats) {s : Sort} (x : Tree s) → Fills b (b + width_of k x) (variables (own_by C k b S x))
  unfolding width_of own_by
  own_fills C k b S {s} (constant v) = fills_alike b (points_of s k) _
  own_fills C k b S (letter c) = fills_alike b k _
  own_fills C k b S {s} (negation x) = fills_alike b (points_of s k) _
  own_fills C k b S {s} (pair and x y) = fills_alike b (points_of s k) _
  own_fills C k b S {s} (pair or x y) = fills_alike b (points_of s k) _
  own_fills C k b S (pair chop x y) =
      let w = b + count_of k in
      rw (map-append, occurs_append)
      (omega (
        arith,
        fills_numbered (intervals_numbered k) b (chop_gate k w),
        fills_numbered (triples_numbered k) w (triple_gate k S.left S.right),
        ap (below v) (add_assoc b (count_of k) (triple_count_of k)),
      ))
  own_fills C k b S (duration x n) =
      simp map_rows (fills_rows b (count_of k) (suc n) _ (λ c. fills_numbered (intervals_numbered k) (b + c * count_of k) (level_gate k b S.left c)))
  own_fills C k b S (throughout x) = fills_numbered (intervals_numbered k) b (throughout_gate k b S.left)

  defined_fills : (C k b : ℕ) (l : List Node) → Fills b (b + blocks_of k l) (variables (defined_from C k b l))
  unfolding blocks_of defined_from own_of
  defined_fills C k b [] = fills_none b _ (omega arith)
  defined_fills C k b (w ∷ l) =
      rw map-append (fills_append b _ _ _ _ _ (own_fills C k b _ w.part) (defined_fills C k (b + width_of k w.part) l) (omega arith))

-- the definitions define the variables from 1 + k·C to V, each once, and no others
pub record DefinedOnce (C k : ℕ) (l : List Node) (v : ℕ) : Type 0 where
  pub once : From (1 + k * C) (blocks_of k l) v → times v (definitions_of C k l) ≡ 1
  pub none_below : v < 1 + k * C → times v (definitions_of C k l) ≡ 0
  pub none_above : variables_of C k l < v → times v (definitions_of C k l) ≡ 0

pub defined_once : (C k : ℕ) (l : List Node) (v : ℕ) → DefinedOnce C k l v
unfolding variables_of definitions_of below
defined_once C k l v = omega (arith, defined_fills v C k (1 + k * C) l)

-- so do a node's own definitions with its block
pub own_once : (C k b v : ℕ) {s : Sort} (x : Tree s) → From b (width_of k x) v → times v (own_of C k b x) ≡ 1
unfolding own_of below
own_once C k b v x h = let f : Fills v b (b + width_of k x) (variables (own_of C k b x)) = own_fills v C k b _ x in omega arith

-- what is defined once has a definition
pub definition_of : (P Q : Definition → Type 0) (v : ℕ) (D : List Definition) → times v D ≡ 1 → All P D → All Q D
    → (d : Definition) × (d.variable ≡ v) × P d × Q d
unfolding occurs
definition_of P Q v [] e p q = absurd (omega arith)
definition_of P Q v (d ∷ D) e p q =
    cond_elim (λ n. n + times v D ≡ 1 → (d : Definition) × (d.variable ≡ v) × P d × Q d) (eqb v d.variable)
    (λ t e. (d, sym (eqb-true v d.variable t), p.0, q.0))
    (λ t e. definition_of P Q v D (omega arith) p.1 q.1)
    e
