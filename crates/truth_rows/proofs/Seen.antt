-- A node's kind tells which tree stands at its row, where the tree's parts stand, and how its truth comes from theirs:
-- each kind belongs to one form of tree, and its row says the kind of the tree that stands there.
use mathlib.Core.Path.{◌≡◌, refl, sym, ap, ◌∙◌, subst}
use mathlib.Core.Bool.{Bool, true, false, not}
use mathlib.Core.List.{List}
use Prim.Native.Nat.{ℕ, zero, suc, ◌+◌, ◌%◌, ◌≤◌, ◌<◌}
use native.Mathlib.Omega.{arith}
use lib.ListN.{get_or}
use Rattle.paper_grammar.specs.Trees.{Link, Tree, constant, letter, negation, pair, duration, throughout, Letters}
use Rattle.paper_grammar.specs.declared.Sort.{Sort}
use Rattle.paper_grammar.specs.declared.Sort.TheVariants.{State, Formula}
use Rattle.node_rows.specs.Table.{sort_code, constant_code, link_code}
use Rattle.node_rows.proofs.Forms.{Form, is_false, is_true, is_negation, is_letter_lem, is_duration, is_throughout_lem, form_of, form_by}
use Rattle.node_calls.specs.Parts.{Stands}
use Rattle.paper_meaning.specs.Meaning.{channel_at, Point, truth}
use Rattle.truth_table.specs.Table.{measured}
use Rattle.truth_table.specs.declared.Measure.{Measure}
use Rattle.truth_table.specs.declared.Measure.TheVariants.{AtLeast, Throughout}

constant_most : (v : Bool) → constant_code v ≤ 1
constant_most true = omega arith
constant_most false = omega arith

-- neither a constant's kind nor that of `!`
pub beyond_negation : (k : ℕ) → (k ≡ 0 → ⊥) → (k ≡ 1 → ⊥) → (k ≡ 2 → ⊥) → 2 < k
beyond_negation zero a b c = absurd (a refl)
beyond_negation (suc zero) a b c = absurd (b refl)
beyond_negation (suc (suc zero)) a b c = absurd (c refl)
beyond_negation (suc (suc (suc k))) a b c = omega arith

-- a kind that has two parts, of those that a tree of the sort can have
abbrev pub Joins : Sort → ℕ → Type 0
Joins State k = (2 < k) × (k ≡ 6 → ⊥)
Joins Formula k = (2 < k) × (k ≡ 7 → ⊥) × (k ≡ 8 → ⊥)

joins_more : (s : Sort) (k : ℕ) → Joins s k → 2 < k
joins_more State k h = h.0
joins_more Formula k h = h.0

module _ (recording K N S : List ℕ) (C n : ℕ) where
  -- a part that stands at a row
  pub record PartAt (s : Sort) (m : ℕ) : Type 0 where
    pub part : Tree s
    pub letters : Letters C part
    pub stands : Stands K N S m part

  abbrev pub truth_of : {s : Sort} {m : ℕ} → PartAt s m → Point s → Bool
  truth_of w = truth recording w.part

  -- what is left of a formula's kind without its sort
  pub formula_kind : (b : ℕ) → b ≡ get_or K n 0 → (x : Tree Formula) → Stands K N S n x → get_or K n 0 ≡ sort_code Formula + b % 16
  formula_kind b e x w = let (op, l, f, _) = form_of x in omega (arith, w.own.kind, f, l)

  -- the form of a tree of a known kind
  pub form_at : {s : Sort} (x : Tree s) → Stands K N S n x → (op : ℕ) → get_or K n 0 ≡ sort_code s + op → Form s op x
  form_at x w op h = form_by x op (sym w.own.kind ∙ h)

  pub constant_seen : (v : Bool) {s : Sort} {x : Tree s} → Form s (constant_code v) x → (p : Point s) → v ≡ truth recording x p
  unfolding truth
  constant_seen true is_true p = refl
  constant_seen false is_false p = refl

  pub negation_seen : {s : Sort} {x : Tree s} → Letters C x → Stands K N S n x → Form s 2 x → (y : PartAt s (n + 1)) × ((p : Point s) → not (truth_of y p) ≡ truth recording x p)
  unfolding truth
  negation_seen a w (is_negation x) = (record { part = x; letters = a; stands = record { own = w.parts.0; parts = w.parts.1 } }, λ p. refl)

  -- two parts
  pub record PairSeen (s : Sort) (x : Tree s) : Type 0 where
    pub link : Link s
    pub first : PartAt s (n + 1)
    pub second : PartAt s (n + 1 + get_or S (n + 1) 0)
    pub kind : get_or K n 0 ≡ sort_code s + link_code link
    pub is : truth recording x ≡ truth recording (pair link first.part second.part)

  pub pair_seen : (op : ℕ) {s : Sort} (x : Tree s) → Letters C x → Stands K N S n x → get_or K n 0 ≡ sort_code s + op → Joins s op → PairSeen s x
  pair_seen op {s} (constant v) a w e h = absurd (omega (arith, w.own.kind, constant_most v, joins_more s op h))
  pair_seen op (letter c) a w e h = absurd (h.1 (omega (arith, w.own.kind)))
  pair_seen op {s} (negation x) a w e h = absurd (omega (arith, w.own.kind, joins_more s op h))
  pair_seen op {s} (pair l x y) a w e h = record {
    link = l;
    first = record { part = x; letters = a.0; stands = record { own = w.parts.0.0; parts = w.parts.0.1 } };
    second = record { part = y; letters = a.1; stands = subst (λ (m : ℕ). Stands K N S (n + 1 + m) y) (sym w.parts.0.0.size) (record { own = w.parts.1.0; parts = w.parts.1.1 }) };
    kind = w.own.kind;
    is = refl;
  }
  pair_seen op (duration x m) a w e h = absurd (h.1 (omega (arith, w.own.kind)))
  pair_seen op (throughout x) a w e h = absurd (h.2 (omega (arith, w.own.kind)))

  pub letter_seen : {x : Tree State} → Letters C x → Stands K N S n x → Form State 6 x → (get_or N n 0 < C) × (channel_at recording (get_or N n 0) ≡ truth recording x)
  unfolding truth
  letter_seen a w (is_letter_lem c) = (omega (arith, w.own.number), ap (channel_at recording) w.own.number)

  -- a duration or `[S]`: its part, and what is asked of it
  abbrev pub MeasureSeen : Measure → Tree Formula → Type 0
  MeasureSeen m x = (y : PartAt State (n + 1)) × (measured m (truth_of y) ≡ truth recording x)

  pub duration_seen : {x : Tree Formula} → Letters C x → Stands K N S n x → Form Formula 7 x → MeasureSeen (AtLeast (get_or N n 0)) x
  unfolding truth
  duration_seen a w (is_duration x m) =
      (record { part = x; letters = a; stands = record { own = w.parts.0; parts = w.parts.1 } }, ap (λ (m : ℕ). measured (AtLeast m) (truth recording x)) w.own.number)

  pub throughout_seen : {x : Tree Formula} → Letters C x → Stands K N S n x → Form Formula 8 x → MeasureSeen Throughout x
  unfolding truth
  throughout_seen a w (is_throughout_lem x) = (record { part = x; letters = a; stands = record { own = w.parts.0; parts = w.parts.1 } }, refl)
