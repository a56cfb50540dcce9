-- A block that the code walks defines what document 01 lists: an interval is a start and a length, its place is the position's, and the
-- interval one shorter stands in the place before.
use mathlib.Core.Path.{◌≡◌, refl, sym, ap, ap₂, ◌∙◌}
use mathlib.Core.Bool.{false, false≢true}
use mathlib.Core.List.{List, ◌++◌, map}
use Prim.Native.Nat.{ℕ, zero, suc, ◌+◌, ◌-◌, ◌*◌, ◌≤◌}
use native.Mathlib.Nat.{suc-mul}
use native.Mathlib.Omega.{arith}
use lib.Dec.{eqb}
use borrow.Author.Tests.{eq-eqb, ne_eqb}
use Rattle.lists.specs.Listing.{rows, tab, sum}
use Rattle.interval.specs.Places.{count_of, place_of, triple_place_of, intervals_of}
use Rattle.lists.proofs.Listing.{rows_same, sum_alike}
use Rattle.interval.proofs.Shape.{line, place, per, intervals, triples, per_same, map_per}
use Rattle.interval.proofs.Counts.{intervals_count}
use Rattle.interval.proofs.Laws.{interval, triple, intervals_listed, interval_entry, triples_listed, triple_entry}
use Rattle.interval.specs.declared.Interval.{Interval}
use Rattle.paper_grammar.specs.Trees.{and, or, chop, Tree, constant, letter, negation, pair, duration, throughout}
use Rattle.paper_grammar.specs.declared.Sort.{Sort}
use Rattle.paper_grammar.specs.declared.Sort.TheVariants.{Formula}
use Rattle.paper_circuit.specs.Circuit.{Definition, define, alike, channel_of, points_of, throughout_gate, level_of, level_gate, triple_gate, chop_gate, Seats, own_by}
use Rattle.paper_circuit.specs.declared.Gate.{Gate}
use Rattle.paper_circuit.specs.declared.Gate.TheVariants.{Constant, Copy, Inverse, Both, Either, AnyOf, Step}
use Rattle.table_blocks.specs.Blocks.{throughout_by, level_by, chop_by, rule_of, is_chop, gate_of, defined_by, block_of}
use Rattle.table_blocks.specs.declared.Block.{Block}
use Rattle.table_blocks.specs.declared.Rule.TheVariants.{Cut}

-- ---- the gates on an interval of d steps from i on

not_zero : (d : ℕ) → eqb (suc d) 0 ≡ false
not_zero d = ne_eqb (suc d) 0 (λ o. omega arith)

module _ (k b s : ℕ) where
  -- the place before is that of the interval one shorter
  before : (i d : ℕ) → i + suc d ≤ k → place_of k (record { i = i; j = i + suc d - 1 }) ≡ place (intervals k) (i, d)
  before i d h = let e : i + suc d - 1 ≡ i + d = omega arith in ap (λ (j : ℕ). place_of k (record { i = i; j = j })) e ∙ (interval_entry k (i, d) (omega arith)).1

  throughout_same : (i d : ℕ) → i + d ≤ k → throughout_gate k b s (record { i = i; j = i + d }) ≡ throughout_by (b + place (intervals k) (i, d)) s i d
  throughout_same i zero h = rw (eq-eqb i (i + 0) (omega arith)) refl
  throughout_same i (suc zero) h = rw (throughout_by, ne_eqb i (i + 1) (λ o. omega arith), eq-eqb (i + 1) (i + 1) refl) refl
  throughout_same i (suc (suc d)) h =
      rw (throughout_by, not_zero (suc d), ne_eqb (suc (suc d)) 1 (λ o. omega arith), ne_eqb i (i + suc (suc d)) (λ o. omega arith), ne_eqb (i + 1) (i + suc (suc d)) (λ o. omega arith))
      (ap₂ Both (omega (arith, before i (suc d) h)) (omega arith))

  level_same : (c i d : ℕ) → i + d ≤ k → level_gate k b s c (record { i = i; j = i + d }) ≡ level_by k b s (c * count_of k + place (intervals k) (i, d)) c i d
  level_same zero i d h = refl
  level_same (suc c) i zero h = rw (level_by, not_zero c, eq-eqb i (i + 0) (omega arith)) refl
  level_same (suc c) i (suc d) h =
      let p = before i d h in
      let m = suc-mul c (count_of k) in
      rw (level_by, not_zero c, not_zero d, ne_eqb i (i + suc d) (λ o. omega arith)) (step_same (omega (arith, p, m)) (omega (arith, p, m)) (omega arith))
    where
      step_same : {p q s p' q' s' : ℕ} → p ≡ p' → q ≡ q' → s ≡ s' → Step p q s ≡ Step p' q' s'
      step_same e f g = λ i. Step (e i) (f i) (g i)

  chop_same : (i d : ℕ) → chop_gate k s (record { i = i; j = i + d }) ≡ chop_by k s i d
  chop_same i d = ap (λ (n : ℕ). AnyOf (s + triple_place_of k (record { i = i; m = i; j = i + d })) (suc n)) (omega arith)

-- ---- blocks

-- a block of one line, its gates by place alone
one_line : (b n : ℕ) (g : ℕ → Gate) → alike b n g ≡ tab n (λ p. define (b + (0 + (0 + p))) (g (0 + (0 + p))))
one_line b n g = per_same (line n) _ _ (λ p h. ap (λ (q : ℕ). define (b + q) (g q)) (omega arith))

module _ (k b l : ℕ) where
  -- document 01's intervals, one after another, as starts and lengths
  on_intervals : (g : Interval → Definition) (h : ℕ → ℕ → Definition)
      → ((i d : ℕ) → i + d ≤ k → place_of k (record { i = i; j = i + d }) ≡ place (intervals k) (i, d) → g (record { i = i; j = i + d }) ≡ h i d)
      → map g (intervals_of k) ≡ per (intervals k) (λ x. h x.0 x.1)
  on_intervals g h e =
      ap (map g) (intervals_listed k) ∙ map_per g (intervals k) (interval k)
      ∙ per_same (intervals k) (λ x. g (interval k x)) (λ x. h x.0 x.1) (λ x m. e x.0 x.1 (omega arith) (interval_entry k x m).1)

  -- the places before level c
  abbrev below : ℕ → ℕ
  below c = sum (λ _. sum (λ i. suc k - i) (suc k)) c

  level_defined : (c : ℕ)
      → map (λ (v : Interval). define (level_of k b c v) (level_gate k b l c v)) (intervals_of k)
      ≡ per (intervals k) (λ x. define (b + (below c + place (intervals k) x)) (level_by k b l (below c + place (intervals k) x) c x.0 x.1))
  level_defined c =
      on_intervals _ _
      (λ i d h p.
      let w = sum (λ i. suc k - i) (suc k) in
      let e = sum_alike w c ∙ ap (λ (n : ℕ). c * n) (intervals_count k) in
      let v : level_of k b c (record { i = i; j = i + d }) ≡ b + (below c + place (intervals k) (i, d)) = omega (arith, e, p) in
      ap₂ define v (level_same k b l c i d h ∙ ap (λ (n : ℕ). level_by k b l (n + place (intervals k) (i, d)) c i d) (sym e)))

-- the triples' block of a chop
abbrev pub tripled : ℕ → ℕ → ℕ → ℕ → Block
tripled k b l r = record { rule = Cut; points = count_of k; first = b + count_of k; left = l; right = r }

module _ (C k b : ℕ) (S : Seats) where
  -- the definitions of a node's own block, of a chop those of its triples and then of its intervals
  pub own_defined : {s : Sort} (x : Tree s) → is_chop (rule_of x) ≡ false → own_by C k b S x ≡ defined_by C k (block_of k b S.left S.right x)
  unfolding own_by defined_by gate_of rows sum
  own_defined {s} (constant v) n = one_line b (points_of s k) (λ p. Constant v)
  own_defined (letter c) n = one_line b k (λ p. Copy (channel_of C p c))
  own_defined {s} (negation x) n = one_line b (points_of s k) (λ p. Inverse (S.left + p))
  own_defined {s} (pair and x y) n = one_line b (points_of s k) (λ p. Both (S.left + p) (S.right + p))
  own_defined {s} (pair or x y) n = one_line b (points_of s k) (λ p. Either (S.left + p) (S.right + p))
  own_defined (pair chop x y) n = absurd (false≢true (sym n))
  own_defined (duration x n) _ = rows_same (suc n) _ _ (λ c h. level_defined k b S.left c)
  own_defined (throughout x) n =
      on_intervals k b S.left _ _
      (λ i d h p. ap₂ define (omega (arith, p)) (throughout_same k b S.left i d h ∙ ap (λ (p : ℕ). throughout_by (b + p) S.left i d) (omega arith)))

  pub chop_defined : (x y : Tree Formula) → own_by C k b S (pair chop x y) ≡ defined_by C k (tripled k b S.left S.right) ++
      defined_by C k (block_of k b (b + count_of k) S.right (pair chop x y))
  unfolding own_by defined_by gate_of rows sum
  chop_defined x y =
      ap₂ (λ (m n : List Definition). m ++ n)
      (ap (map _) (triples_listed k) ∙ map_per _ (triples k) (triple k) ∙
      per_same (triples k) _ _ (λ t m. ap (λ (p : ℕ). define (b + count_of k + p) (triple_gate k S.left S.right (triple k t)))
      (triple_entry k t m).1))
      (on_intervals k b S.left _ _
      (λ i d h p.
      let v : b + place_of k (record { i = i; j = i + d }) ≡ b + (0 + place (intervals k) (i, d)) = omega (arith, p) in
      ap₂ define v (chop_same k b (b + count_of k) i d)))
