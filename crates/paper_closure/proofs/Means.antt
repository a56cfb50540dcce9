-- The true literals of an assignment that meets a table are closed, so an assignment that has a set has its closure: below a clash there is
-- none, and since low is tried first, every other one that meets the table is high where the one drawn is low, at the first difference.
use mathlib.Core.Path.{◌≡◌, refl, sym, ap, ◌∙◌, subst}
use mathlib.Core.Logic.{◌⊎◌, inl, inr, ⊎_elim}
use mathlib.Core.Bool.{Bool, true, false, not, cond, ◌||◌, false≢true, true≢false}
use mathlib.Core.List.{List, [], ◌∷◌, flat_map}
use Prim.Native.Nat.{ℕ, ◌≤◌, ◌<◌}
use native.Mathlib.Omega.{arith}
use Rattle.lists.proofs.Tests.{both}
use Rattle.lists.specs.Listing.{All}
use Rattle.lists.proofs.Lists.{all_map, all_mapped}
use borrow.Author.Tests.{not-true}
use Rattle.paper_circuit.specs.Gates.{Assignment}
use Rattle.paper_circuit.proofs.Blocks.{From}
use Rattle.paper_clauses.specs.Clauses.{Literal, literal, Clause, plain, negated, meets_literal, meets_clause, meets_all}
use Rattle.paper_clauses.proofs.Meets.{by_table}
use Rattle.paper_clauses.proofs.Good.{names_of, Sound}
use Rattle.paper_closure.specs.Closure.{Literals, ClosureOf, nothing, add, opposite, Member, member, members_of, members_in}
use Rattle.paper_closure.specs.Runs.{clashes, is_open, Outcome, dead, found, high_in, NoneOpen, Lowest, Run, clash, complete, low, high}
use Rattle.paper_closure.specs.Tree.{closure, tried, tree}
use Rattle.paper_closure.proofs.Sets.{either_way, or_left, or_right, In, Below, add_below, Opposed}
use Rattle.paper_closure.proofs.Closure.{Keeps, Closed, closed_parts, closed_whole, closure_closed, closure_contains, closure_one, closure_least}
use Rattle.paper_closure.proofs.Open.{shut_cases, clash_both, reads}
use Rattle.paper_closure.proofs.Runs.{tried_has, tried_keeps, tree_runs}

-- ---- the true literals of an assignment

module _ (a : Assignment) where
  abbrev pub True : Literal → Type 0
  True l = meets_literal a l ≡ true

  opposite_not : (l : Literal) → meets_literal a (opposite l) ≡ not (meets_literal a l)
  opposite_not l = by_table 2 (λ u x. cond (not u) x (not x)) (λ u x. not (cond u x (not x))) refl l.sign (a l.variable)

  opposed_unmet : (c : Clause) → Opposed True c → meets_clause a c ≡ false
  unfolding meets_clause
  opposed_unmet [] h = refl
  opposed_unmet (l ∷ c) h = rw (not-true (meets_literal a l) (sym (opposite_not l) ∙ h.0)) (opposed_unmet c h.1)

  -- a literal with its fellows is met where the clause is
  abbrev AsMet : Clause → Member → Type 0
  AsMet c m = (meets_literal a m.self || meets_clause a m.fellows) ≡ meets_clause a c

  members_met : (c : Clause) → All (AsMet c) (members_of c)
  unfolding members_of meets_clause
  members_met [] = tt
  members_met (l ∷ c) = (
    refl,
    all_mapped (AsMet (l ∷ c)) (AsMet c) (λ (m : Member). member m.self (l ∷ m.fellows)) (members_of c)
        (λ m e. by_table 3 (λ x y z. x || (y || z)) (λ x y z. y || (x || z)) refl (meets_literal a m.self) (meets_literal a l) (meets_clause a m.fellows) ∙ ap (λ b. meets_literal a l || b) e)
        (members_met c),
  )

  or_left_of : (x y : Bool) → x || y ≡ true → y ≡ false → x ≡ true
  or_left_of true y h e = refl
  or_left_of false y h e = sym e ∙ h

  clause_kept : (c : Clause) → meets_clause a c ≡ true → All (Keeps True) (members_of c)
  clause_kept c h =
      all_map (AsMet c) (Keeps True) (λ m e o. or_left_of (meets_literal a m.self) (meets_clause a m.fellows) (e ∙ h) (opposed_unmet m.fellows o))
      (members_of c) (members_met c)

  pub meets_closed : (T : List Clause) → meets_all a T ≡ true → Closed T True
  unfolding members_in flat_map meets_all
  meets_closed [] h = tt
  meets_closed (c ∷ T) h =
      let w = both (meets_clause a c) (meets_all a T) h in
      closed_whole True c T (clause_kept c w.0) (meets_closed T w.1)

  -- of a variable, its value's literal is true
  true_at : (u : Bool) (v : ℕ) → a v ≡ u → True (literal u v)
  true_at true v e = e
  true_at false v e = ap not e

  value_at_lem : (u : Bool) (v : ℕ) → True (literal u v) → a v ≡ u
  value_at_lem true v h = h
  value_at_lem false v h = not-true (a v) h

-- ---- what an outcome says of the assignments that meet the table

-- a and b are the same at the variables from 1 to n, or a is low at the first where they differ
pub data Order (n : ℕ) (a b : Assignment) : Type 0 where
  same : ((v : ℕ) → 1 ≤ v → v ≤ n → a v ≡ b v) → Order n a b
  earlier : (v : ℕ) → 1 ≤ v → v ≤ n → ((u : ℕ) → 1 ≤ u → u < v → a u ≡ b u) → a v ≡ false → b v ≡ true → Order n a b

module _ (T : List Clause) (variables channels : ℕ) where
  -- R was drawn below S
  pub record Drawn (S R : Literals) : Type 0 where
    pub has : Below S (In R)
    pub calm : clashes variables R ≡ false
    pub full : NoneOpen R channels
    pub closed : Closed T (In R)
    pub first : (a : Assignment) → meets_all a T ≡ true → Below S (True a) → Order channels (high_in R) a

  abbrev pub Means : Literals → Outcome → Type 0
  Means S dead = (a : Assignment) → meets_all a T ≡ true → Below S (True a) → ⊥
  Means S (found R) = Drawn S R

  module _ (fits : channels ≤ variables) where
    agrees : (S R : Literals) (a : Assignment) → Below S (In R) → clashes variables R ≡ false → Below S (True a)
        → (v : ℕ) → 1 ≤ v → v ≤ channels → is_open S v ≡ false → high_in R v ≡ a v
    agrees S R a b e h v f t d =
        ⊎_elim (λ i. reads variables R e true v f (omega arith) (b (plain v) i) ∙ sym (value_at_lem a true v (h (plain v) i)))
        (λ i. reads variables R e false v f (omega arith) (b (negated v) i) ∙ sym (value_at_lem a false v (h (negated v) i))) (shut_cases S v d)

    tried_true : (S : Literals) (a : Assignment) → meets_all a T ≡ true → Below S (True a) → (u : Bool) (v : ℕ) → a v ≡ u → Below (tried T S (literal u v)) (True a)
    tried_true S a m h u v e = closure_least T (add (literal u v) S) (True a) (meets_closed a T m) (add_below (literal u v) S (True a) h (true_at a u v e))

    clash_none : (S : Literals) → clashes variables S ≡ true → Means S dead
    clash_none S e a m h = let (v, p, n) = clash_both variables S e in true≢false (sym (value_at_lem a true v (h (plain v) p)) ∙ value_at_lem a false v (h (negated v) n))

    -- what is drawn after a try is drawn before it, where it is the first there too
    drawn_before : (S R : Literals) (l : Literal) → Drawn (tried T S l) R → ((a : Assignment) → meets_all a T ≡ true → Below S (True a) → Order channels (high_in R) a) → Drawn S R
    drawn_before S R l D o = record { has = λ m i. D.has m (tried_keeps S _ l (closure_contains T (add l S)) m i); calm = D.calm; full = D.full; closed = D.closed; first = o }

    after_low : (S R : Literals) (v : ℕ) → Lowest S channels v → Drawn (tried T S (negated v)) R → Drawn S R
    after_low S R v w D = drawn_before S R (negated v) D (λ a m h. either_way (a v)
        (λ up. earlier v w.from w.to (λ u f l. agrees S R a
        (λ x i. D.has x (tried_keeps S _ (negated v) (closure_contains T (add (negated v) S)) x i)) D.calm h u f (omega (arith, w.to))
        (w.below u f l))
        (reads variables R D.calm false v w.from (omega (arith, w.to)) (D.has (negated v) (tried_has S _ (negated v) (closure_contains T (add (negated v) S))))) up)
        (λ down. D.first a m (tried_true S a m h false v down)))

    after_high : (S : Literals) (v : ℕ) (o : Outcome) → Means (tried T S (negated v)) dead → Means (tried T S (plain v)) o → Means S o
    after_high S v dead L H = λ a m h. either_way (a v) (λ up. H a m (tried_true S a m h true v up)) (λ down. L a m (tried_true S a m h false v down))
    after_high S v (found R) L H = drawn_before S R (plain v) H (λ a m h. either_way (a v)
        (λ up. H.first a m (tried_true S a m h true v up)) (λ down. absurd (L a m (tried_true S a m h false v down))))

    is_closed : {S R : Literals} → ClosureOf T S R → Closed T (In R)
    is_closed {S} {R} p = subst (λ (X : Literals). Closed T (In X)) (sym (closure_one T S R p)) (closure_closed T S)

    tried_means : {S R : Literals} → ClosureOf T S R → (o : Outcome) → Means R o → Means (closure T S) o
    tried_means {S} {R} p o = subst (λ (X : Literals). Means X o) (closure_one T S R p)

    means : {S : Literals} {o : Outcome} {n : ℕ} → Run T variables channels S o n → Closed T (In S) → Means S o
    means {S} (clash e) c = clash_none S e
    means {S} (complete e d) c = record {
      has = λ l i. i;
      calm = e;
      full = d;
      closed = c;
      first = λ a m h. same (λ v f t. agrees S S a (λ l i. i) e h v f t (d v f t));
    }
    means {S} (low {P = P} {R = R} v e w p r) c = after_low S R v w (tried_means p (found R) (means r (is_closed p)))
    means {S} (high {o = o} v e w p r q s) c = after_high S v o (tried_means p dead (means r (is_closed p))) (tried_means q o (means s (is_closed q)))

    -- every assignment that meets the table has the closure of nothing
    start : (a : Assignment) → meets_all a T ≡ true → Below (closure T nothing) (True a)
    start a m = closure_least T nothing (True a) (meets_closed a T m) (λ l i. absurd (false≢true i))

    tree_means : Means (closure T nothing) (tree T variables channels).outcome
    tree_means = means (tree_runs T variables channels) (closure_closed T nothing)

    pub dead_unmet : (tree T variables channels).outcome ≡ dead → (a : Assignment) → meets_all a T ≡ true → ⊥
    dead_unmet e a m = subst (Means (closure T nothing)) e tree_means a m (start a m)

    pub found_drawn : (R : Literals) → (tree T variables channels).outcome ≡ found R → Drawn (closure T nothing) R
    found_drawn R e = subst (Means (closure T nothing)) e tree_means

    pub found_first : (R : Literals) → (tree T variables channels).outcome ≡ found R → (a : Assignment) → meets_all a T ≡ true → Order channels (high_in R) a
    found_first R e a m = (found_drawn R e).first a m (start a m)

-- ---- a closed set without clash that leaves no variable open is read as an assignment that meets the table

module _ (variables : ℕ) (R : Literals) (e : clashes variables R ≡ false) (d : (v : ℕ) → From 1 variables v → is_open R v ≡ false) where
  abbrev InRange : Literal → Type 0
  InRange l = From 1 variables l.variable

  in_true : (l : Literal) → InRange l → In R l → True (high_in R) l
  in_true l f h = true_at (high_in R) l.sign l.variable (reads variables R e l.sign l.variable f.0 (omega arith) h)

  in_or_opposed : (l : Literal) → InRange l → In R l ⊎ In R (opposite l)
  in_or_opposed l f = go l.sign (shut_cases R l.variable (d l.variable f))
    where
      go : (u : Bool) → In R (plain l.variable) ⊎ In R (negated l.variable) → In R (literal u l.variable) ⊎ In R (literal (not u) l.variable)
      go true (inl h) = inl h
      go true (inr h) = inr h
      go false (inl h) = inr h
      go false (inr h) = inl h

  met_or_opposed : (c : Clause) → All (From 1 variables) (names_of c) → (meets_clause (high_in R) c ≡ true) ⊎ Opposed (In R) c
  unfolding meets_clause
  met_or_opposed [] f = inr tt
  met_or_opposed (l ∷ c) f = go (in_or_opposed l f.0) (met_or_opposed c f.1)
    where
      go : In R l ⊎ In R (opposite l) → (meets_clause (high_in R) c ≡ true) ⊎ Opposed (In R) c → (meets_clause (high_in R) (l ∷ c) ≡ true) ⊎ Opposed (In R) (l ∷ c)
      go (inl h) s = inl (or_left (meets_literal (high_in R) l) (meets_clause (high_in R) c) (in_true l f.0 h))
      go (inr h) (inl m) = inl (or_right (meets_literal (high_in R) l) (meets_clause (high_in R) c) m)
      go (inr h) (inr o) = inr (h, o)

  clause_met : (c : Clause) → Sound (From 1 variables) c → All (Keeps (In R)) (members_of c) → meets_clause (high_in R) c ≡ true
  unfolding members_of meets_clause
  clause_met [] s k = absurd s.full
  clause_met (l ∷ c) s k =
      ⊎_elim (λ m. or_right (meets_literal (high_in R) l) (meets_clause (high_in R) c) m)
      (λ o. or_left (meets_literal (high_in R) l) (meets_clause (high_in R) c) (in_true l s.named.0 (k.0 o)))
      (met_or_opposed c s.named.1)

  pub reading_meets : (T : List Clause) → All (Sound (From 1 variables)) T → Closed T (In R) → meets_all (high_in R) T ≡ true
  unfolding members_in flat_map meets_all
  reading_meets [] s k = refl
  reading_meets (c ∷ T) s k =
      let w = closed_parts (In R) c T k in rw (clause_met c s.0 w.0) (reading_meets T s.1 w.1)
