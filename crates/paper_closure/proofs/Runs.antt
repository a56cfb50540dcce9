-- The tree makes a run from every set: each try shuts the lowest open channel variable, so that the tree never lacks tries to go on.
-- A run has no choice, so there is one; and n open variables make at most 2^(n + 1) − 2 tries, twice as many with each variable more.
use mathlib.Core.Path.{◌≡◌, refl, sym, ap, ◌∙◌}
use mathlib.Core.Bool.{Bool, true, false, true≢false}
use mathlib.Core.List.{List}
use mathlib.Core.Option.{Option, none, some}
use Prim.Native.Nat.{ℕ, zero, suc, ◌+◌, ◌-◌, ◌^◌, ◌≤◌, ◌<◌}
use native.Mathlib.Nat.{pow-suc}
use native.Mathlib.Decide.{dec_lt}
use native.Mathlib.Omega.{arith}
use lib.Pow.{pow_pos}
use Rattle.paper_clauses.specs.Clauses.{Literal, literal, Clause, plain, negated}
use Rattle.paper_closure.specs.Closure.{Literals, nothing, add, Contains, ClosureOf}
use Rattle.paper_closure.specs.Runs.{clashes, is_open, Outcome, dead, found, Lowest, Run, clash, complete, low, high}
use Rattle.paper_closure.specs.Tree.{closure, lowest_open, Trial, trial, low_then_high, tried, tree_below, tree}
use Rattle.paper_closure.proofs.Sets.{In, Below, added, kept}
use Rattle.paper_closure.proofs.Closure.{closure_contains, closure_is, closure_one}
use Rattle.paper_closure.proofs.Open.{shut_by, shut_still, Opening, shut, lowest, opening, none_open, lowest_open_lem}

-- a set that has the literal and all of S, as a try's has
module _ (S R : Literals) (l : Literal) (w : Contains R (add l S)) where
  pub tried_has : In R l
  tried_has = w l (added l S)

  pub tried_keeps : Below S (In R)
  tried_keeps m h = w m (kept l S m h)

-- but for the last m, the variables up to n are not open
abbrev LeftOpen : ℕ → Literals → ℕ → Type 0
LeftOpen m S n = (v : ℕ) → 1 ≤ v → v + m ≤ n → is_open S v ≡ false

-- a try leaves one fewer
one_fewer : (S R : Literals) (u : Bool) {v : ℕ} → Contains R (add (literal u v) S) → (n m : ℕ) → Lowest S n v → LeftOpen (suc m) S n → LeftOpen m R n
one_fewer S R u {v} c n m w h x f t = go (dec_lt x v) (dec_lt v x)
  where
    go : Dec (x < v) → Dec (v < x) → is_open R x ≡ false
    go (yes l) d = shut_still S R (tried_keeps S R (literal u v) c) x (w.below x f l)
    go (no l) (yes g) = absurd (true≢false (sym w.free ∙ h v w.from (omega arith)))
    go (no l) (no g) = let e : x ≡ v = omega arith in rw e (shut_by R v u (tried_has S R (literal u v) c))

module _ (T : List Clause) (variables channels : ℕ) where
  abbrev Runs : Literals → Trial → Type 0
  Runs S t = Run T variables channels S t.outcome t.tries

  -- the two rules of a try, by the closure that the tree takes
  low_tried : {S R : Literals} {n : ℕ} (v : ℕ) → clashes variables S ≡ false → Lowest S channels v
      → Run T variables channels (tried T S (negated v)) (found R) n → Run T variables channels S (found R) (1 + n)
  low_tried {S} v e w r = low v e w (closure_is T (add (negated v) S)) r

  high_tried : {S : Literals} {o : Outcome} {n m : ℕ} (v : ℕ) → clashes variables S ≡ false → Lowest S channels v
      → Run T variables channels (tried T S (negated v)) dead n → Run T variables channels (tried T S (plain v)) o m → Run T variables channels S o (1 + n + (1 + m))
  high_tried {S} v e w r s = high v e w (closure_is T (add (negated v) S)) r (closure_is T (add (plain v) S)) s

  -- ---- the tree makes a run

  runs_on : (S : Literals) (v : ℕ) (t : Trial) (h : Unit {0} → Trial) → clashes variables S ≡ false → Lowest S channels v
      → Runs (tried T S (negated v)) t → Runs (tried T S (plain v)) (h tt) → Runs S (low_then_high t h)
  runs_on S v t h e w r s = go t.outcome r
    where
      go : (o : Outcome) → Run T variables channels (tried T S (negated v)) o t.tries
          → Runs S (elim o [ found R ↦ trial (found R) (1 + t.tries) | dead ↦ let x = h tt in trial x.outcome (1 + t.tries + (1 + x.tries)) ])
      go dead r = high_tried v e w r s
      go (found R) r = low_tried v e w r

  -- where a channel variable is open
  abbrev onwards : ℕ → Literals → Option ℕ → Trial
  onwards m S o =
      elim o [
        | none ↦ trial (found S) 0
        | some v ↦ low_then_high (tree_below T variables channels m (tried T S (negated v))) (λ _. tree_below T variables channels m (tried T S (plain v)))
      ]

  below_runs : (m : ℕ) (S : Literals) → LeftOpen m S channels → Runs S (tree_below T variables channels m S)
  unfolding tree_below
  below_runs zero S h = go (clashes variables S) refl
    where
      go : (b : Bool) → clashes variables S ≡ b → Runs S (elim b [ true ↦ trial dead 0 | false ↦ trial (found S) 0 ])
      go true e = clash e
      go false e = complete e (λ v f t. h v f (omega arith))
  below_runs (suc m) S h = go (λ v u w. below_runs m (tried T S (literal u v)) (one_fewer S _ u (closure_contains T (add (literal u v) S)) channels m w h)) (clashes variables S) refl
    where
      rest : ((v : ℕ) (u : Bool) → Lowest S channels v → Runs (tried T S (literal u v)) (tree_below T variables channels m (tried T S (literal u v))))
          → clashes variables S ≡ false → {o : Option ℕ} → Opening S channels o → Runs S (onwards m S o)
      rest ih e (shut d) = complete e d
      rest ih e (lowest {v = v} w) =
          runs_on S v (tree_below T variables channels m (tried T S (negated v))) (λ _. tree_below T variables channels m (tried T S (plain v))) e w (ih v false w) (ih v true w)

      go : ((v : ℕ) (u : Bool) → Lowest S channels v → Runs (tried T S (literal u v)) (tree_below T variables channels m (tried T S (literal u v))))
          → (b : Bool) → clashes variables S ≡ b → Runs S (elim b [ true ↦ trial dead 0 | false ↦ onwards m S (lowest_open S 1 channels) ])
      go ih true e = clash e
      go ih false e = rest ih e (opening S channels)

  none_left : (S : Literals) → LeftOpen channels S channels
  none_left S v f t = absurd (omega arith)

  -- every set has a run
  pub run_from : (S : Literals) → Runs S (tree_below T variables channels channels S)
  run_from S = below_runs channels S (none_left S)

  pub tree_runs : Runs (closure T nothing) (tree T variables channels)
  unfolding tree
  tree_runs = run_from (closure T nothing)

  -- ---- the number of tries

  two_le : (m : ℕ) → 2 ≤ 2 ^ suc m
  two_le m = omega (arith, pow-suc 2 m, pow_pos m)

  left : (S : Literals) (v : ℕ) → Lowest S channels v → LeftOpen 0 S channels → ⊥
  left S v w h = true≢false (sym w.free ∙ h v w.from (omega (arith, w.to)))

  run_bound : (m : ℕ) {S : Literals} {o : Outcome} {t : ℕ} → Run T variables channels S o t → LeftOpen m S channels → t + 2 ≤ 2 ^ suc m
  run_bound m (clash e) h = two_le m
  run_bound m (complete e d) h = two_le m
  run_bound zero {S} (low v e w c r) h = absurd (left S v w h)
  run_bound (suc m) {S} (low v e w c r) h = omega (arith, pow-suc 2 (suc m), two_le m, run_bound m r (one_fewer S _ false c.contains channels m w h))
  run_bound zero {S} (high v e w c r d s) h = absurd (left S v w h)
  run_bound (suc m) {S} (high v e w c r d s) h =
      omega (arith, pow-suc 2 (suc m), run_bound m r (one_fewer S _ false c.contains channels m w h), run_bound m s (one_fewer S _ true d.contains channels m w h))

  -- "N ≤ 2^(C·k+1) − 2"
  pub tree_bound : (tree T variables channels).tries ≤ 2 ^ suc channels - 2
  tree_bound = omega (arith, run_bound channels tree_runs (none_left (closure T nothing)))

  -- ---- a set has one run, the tree's

  tree_clash : (m : ℕ) (S : Literals) → clashes variables S ≡ true → tree_below T variables channels m S ≡ trial dead 0
  unfolding tree_below
  tree_clash zero S e = rw (e, tree_below)
  tree_clash (suc m) S e = rw (e, tree_below)

  tree_full : (S : Literals) → clashes variables S ≡ false → tree_below T variables channels 0 S ≡ trial (found S) 0
  unfolding tree_below
  tree_full S e = rw (e, tree_below)

  tree_on : (m : ℕ) (S : Literals) (o : Option ℕ) → clashes variables S ≡ false → lowest_open S 1 channels ≡ o → tree_below T variables channels (suc m) S ≡ onwards m S o
  unfolding tree_below
  tree_on m S o e f = rw (e, tree_below) (ap (onwards m S) f)

  -- a set has one closure
  tried_tree : (m : ℕ) {S R : Literals} {t : Trial} → ClosureOf T S R → tree_below T variables channels m R ≡ t → tree_below T variables channels m (closure T S) ≡ t
  tried_tree m {S} {R} c e = ap (tree_below T variables channels m) (sym (closure_one T S R c)) ∙ e

  run_tree : (m : ℕ) {S : Literals} {o : Outcome} {n : ℕ} → Run T variables channels S o n → LeftOpen m S channels
      → tree_below T variables channels m S ≡ trial o n
  run_tree m {S} (clash e) h = tree_clash m S e
  run_tree zero {S} (complete e d) h = tree_full S e
  run_tree (suc m) {S} (complete e d) h = tree_on m S none e (none_open S channels d)
  run_tree zero {S} (low v e w c r) h = absurd (left S v w h)
  run_tree (suc m) {S} (low v e w c r) h =
      tree_on m S (some v) e (lowest_open_lem S channels w)
      ∙ ap (λ t. low_then_high t (λ _. tree_below T variables channels m (tried T S (plain v)))) (tried_tree m c (run_tree m r (one_fewer S _ false c.contains channels m w h)))
  run_tree zero {S} (high v e w c r d s) h = absurd (left S v w h)
  run_tree (suc m) {S} (high {n = n} v e w c r d s) h =
      tree_on m S (some v) e (lowest_open_lem S channels w)
      ∙ ap (λ t. low_then_high t (λ _. tree_below T variables channels m (tried T S (plain v)))) (tried_tree m c (run_tree m r (one_fewer S _ false c.contains channels m w h)))
      ∙ ap (λ t. low_then_high (trial dead n) (λ _. t)) (tried_tree m d (run_tree m s (one_fewer S _ true d.contains channels m w h)))

  pub below_run : {S : Literals} {o : Outcome} {n : ℕ} → Run T variables channels S o n → tree_below T variables channels channels S ≡ trial o n
  below_run {S} r = run_tree channels r (none_left S)

  pub one_run : {S : Literals} {o p : Outcome} {n m : ℕ} → Run T variables channels S o n → Run T variables channels S p m → (o ≡ p) × (n ≡ m)
  one_run r s = let e = sym (below_run r) ∙ below_run s in (ap (λ (t : Trial). t.outcome) e, ap (λ (t : Trial). t.tries) e)

  pub tree_run : {o : Outcome} {n : ℕ} → Run T variables channels (closure T nothing) o n → tree T variables channels ≡ trial o n
  unfolding tree
  tree_run r = below_run r

  -- the tree below a set that leaves a channel variable open is that of its two tries, whatever was enough for them
  pub below_tries : (S : Literals) (v : ℕ) → clashes variables S ≡ false → Lowest S channels v
      → tree_below T variables channels channels S
      ≡ low_then_high (tree_below T variables channels channels (tried T S (negated v))) (λ _. tree_below T variables channels channels (tried T S (plain v)))
  below_tries S v e w = below_run (runs_on S v (tree_below T variables channels channels (tried T S (negated v)))
      (λ _. tree_below T variables channels channels (tried T S (plain v))) e w (run_from (tried T S (negated v))) (run_from (tried T S (plain v))))
