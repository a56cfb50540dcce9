-- What the whole tree comes to, seen from a set in it: the tries made so far, what comes of that set, and where that is dead what comes of
-- the tries high that are left to make, the innermost first. A try takes one from what is to come and adds it to what was made.
use mathlib.Core.Path.{◌≡◌, refl, ap, ◌∙◌}
use mathlib.Core.Bool.{true, false}
use mathlib.Core.List.{List, [], ◌∷◌}
use Prim.Native.Nat.{ℕ, ◌+◌, ◌<◌}
use native.Mathlib.Omega.{arith}
use Rattle.paper_clauses.specs.Clauses.{Clause, plain, negated}
use Rattle.paper_closure.specs.Closure.{Literals, nothing}
use Rattle.paper_closure.specs.Runs.{clashes, Outcome, dead, found, NoneOpen, Lowest, clash, complete}
use Rattle.paper_closure.specs.Tree.{closure, Trial, trial, low_then_high, tried, tree_below, tree}
use Rattle.paper_closure.proofs.Runs.{below_run, below_tries}

-- m tries before
abbrev plus : ℕ → Trial → Trial
plus m t = trial t.outcome (m + t.tries)

plus_plus : (m n : ℕ) (t : Trial) → plus m (plus n t) ≡ plus (m + n) t
plus_plus m n t = ap (trial t.outcome) (omega arith)

-- a try low, which is counted, and where it is dead the try high
abbrev or_high : Trial → Trial → Trial
or_high t h = elim t.outcome [ found S ↦ trial (found S) t.tries | dead ↦ trial h.outcome (t.tries + (1 + h.tries)) ]

high_plus : (m : ℕ) (t h : Trial) → or_high (plus m t) h ≡ plus m (or_high t h)
high_plus m t h = go t.outcome
  where
    go : (o : Outcome) → or_high (trial o (m + t.tries)) h ≡ plus m (or_high (trial o t.tries) h)
    go dead = ap (trial h.outcome) (omega arith)
    go (found S) = refl

both_tries : (t h : Trial) → low_then_high t (λ _. h) ≡ plus 1 (or_high t h)
both_tries t h = go t.outcome
  where
    go : (o : Outcome) → low_then_high (trial o t.tries) (λ _. h) ≡ plus 1 (or_high (trial o t.tries) h)
    go dead = ap (trial h.outcome) (omega arith)
    go (found S) = refl

module _ (T : List Clause) (variables channels : ℕ) where
  abbrev below : Literals → Trial
  below S = tree_below T variables channels channels S

  -- what comes of these tries high after t
  abbrev onward : List Literals → Trial → Trial
  onward [] t = t
  onward (H ∷ due) t = onward due (or_high t (below H))

  onward_plus : (due : List Literals) (m : ℕ) (t : Trial) → onward due (plus m t) ≡ plus m (onward due t)
  onward_plus [] m t = refl
  onward_plus (H ∷ due) m t = ap (onward due) (high_plus m t (below H)) ∙ onward_plus due m (or_high t (below H))

  onward_found : (due : List Literals) (S : Literals) → onward due (trial (found S) 0) ≡ trial (found S) 0
  onward_found [] S = refl
  onward_found (H ∷ due) S = onward_found due S

  -- n tries were made, S is the set at hand, and these are the sets of the tries high that are left to make
  abbrev pub Whole : ℕ → List Literals → Literals → Type 0
  Whole n due S = tree T variables channels ≡ plus n (onward due (below S))

  pub whole_begun : Whole 0 [] (closure T nothing)
  unfolding tree
  whole_begun = ap (trial (below (closure T nothing)).outcome) (omega arith)

  -- a try more, whatever comes of it
  one_more : (n : ℕ) (due : List Literals) (t : Trial) → plus n (onward due (plus 1 t)) ≡ plus (n + 1) (onward due t)
  one_more n due t = ap (plus n) (onward_plus due 1 t) ∙ plus_plus n 1 (onward due t)

  pub whole_spent : (n : ℕ) (due : List Literals) (S : Literals) → Whole (n + 1) due S → n < (tree T variables channels).tries
  whole_spent n due S w = omega (arith, ap (λ (t : Trial). t.tries) w)

  module _ (n : ℕ) (due : List Literals) (S : Literals) where
    -- the set clashes, and the innermost try high is made
    pub whole_high : (H : Literals) → clashes variables S ≡ true → Whole n (H ∷ due) S → Whole (n + 1) due H
    whole_high H e w =
        let z : 0 + (1 + (below H).tries) ≡ 1 + (below H).tries = omega arith in
        w ∙ ap (λ (t : Trial). plus n (onward due (or_high t (below H)))) (below_run T variables channels (clash e))
        ∙ ap (λ (m : ℕ). plus n (onward due (trial (below H).outcome m))) z ∙ one_more n due (below H)

    -- the lowest open channel variable is tried low, and its try high is left to make
    pub whole_low : (v : ℕ) → clashes variables S ≡ false → Lowest S channels v → Whole n due S → Whole (n + 1) (tried T S (plain v) ∷ due) (tried T S (negated v))
    whole_low v e l w =
        w ∙ ap (λ (t : Trial). plus n (onward due t)) (below_tries T variables channels S v e l ∙ both_tries (below (tried T S (negated v))) (below (tried T S (plain v))))
        ∙ one_more n due (or_high (below (tried T S (negated v))) (below (tried T S (plain v))))

    -- no channel variable is open
    pub whole_found : clashes variables S ≡ false → NoneOpen S channels → Whole n due S → tree T variables channels ≡ trial (found S) n
    whole_found e d w =
        w ∙ ap (λ (t : Trial). plus n (onward due t)) (below_run T variables channels (complete e d)) ∙ ap (plus n) (onward_found due S)
        ∙ ap (trial (found S)) (omega arith)

  -- the set clashes, and no try high is left to make
  pub whole_dead : (n : ℕ) (S : Literals) → clashes variables S ≡ true → Whole n [] S → tree T variables channels ≡ trial dead n
  whole_dead n S e w = w ∙ ap (plus n) (below_run T variables channels (clash e)) ∙ ap (trial dead) (omega arith)
