-- A variable is open where neither of its literals is in the set, so whatever is added closes it or leaves it as it was; the lowest open
-- one is found by going through them from 1 on. A set clashes exactly where it has both literals of a variable from 1 to V.
use mathlib.Core.Path.{◌≡◌, refl, sym, ap, ◌∙◌}
use mathlib.Core.Logic.{◌⊎◌, inl, inr, ⊎_elim}
use mathlib.Core.Bool.{Bool, true, false, not, ◌&&◌, ◌||◌, true≢false}
use mathlib.Core.Option.{Option, none, some}
use Prim.Native.Nat.{ℕ, zero, suc, ◌+◌, ◌≤◌, ◌<◌}
use native.Mathlib.Nat.{eq-or-lt_of_le}
use native.Mathlib.Decide.{dec_lt}
use native.Mathlib.Omega.{arith}
use Rattle.lists.proofs.Tests.{both}
use borrow.Author.Tests.{not-false}
use Rattle.paper_meaning.proofs.Laws.{some_one}
use Rattle.paper_clauses.specs.Clauses.{Literal, literal, plain, negated}
use Rattle.paper_closure.specs.Closure.{Literals, opposite}
use Rattle.paper_closure.specs.Runs.{clashes, is_open, high_in, NoneOpen, Lowest}
use Rattle.paper_closure.specs.Tree.{lowest_open}
use Rattle.paper_closure.proofs.Sets.{either_way, or_cases, or_left, or_right, In, Below}

-- ---- not open

module _ (S : Literals) (v : ℕ) where
  pub shut_cases : is_open S v ≡ false → In S (plain v) ⊎ In S (negated v)
  unfolding is_open
  shut_cases h = or_cases (S (plain v)) (S (negated v)) (not-false (S (plain v) || S (negated v)) h)

  pub shut_by : (u : Bool) → In S (literal u v) → is_open S v ≡ false
  unfolding is_open
  shut_by true h = ap not (or_left (S (plain v)) (S (negated v)) h)
  shut_by false h = ap not (or_right (S (plain v)) (S (negated v)) h)

pub shut_still : (S R : Literals) → Below S (In R) → (v : ℕ) → is_open S v ≡ false → is_open R v ≡ false
shut_still S R b v h = ⊎_elim (λ i. shut_by R v true (b (plain v) i)) (λ i. shut_by R v false (b (negated v) i)) (shut_cases S v h)

-- ---- the lowest open one

pub data Opening (S : Literals) (n : ℕ) : Option ℕ → Type 0 where
  shut : NoneOpen S n → Opening S n none
  lowest : {v : ℕ} → Lowest S n v → Opening S n (some v)

opening_from : (S : Literals) (n v m : ℕ) → v + m ≡ 1 + n → 1 ≤ v → ((u : ℕ) → 1 ≤ u → u < v → is_open S u ≡ false) → Opening S n (lowest_open S v m)
unfolding lowest_open
opening_from S n v zero e f h = shut (λ u i l. h u i (omega arith))
opening_from S n v (suc m) e f h = go (is_open S v) refl (λ o. opening_from S n (suc v) m (omega arith) (omega arith) (λ u i l. more o u i (eq-or-lt_of_le l)))
  where
    more : is_open S v ≡ false → (u : ℕ) → 1 ≤ u → (suc u ≡ suc v) ⊎ (suc u < suc v) → is_open S u ≡ false
    more o u i (inl e) = let p : u ≡ v = omega arith in rw p o
    more o u i (inr l) = h u i (omega arith)

    go : (b : Bool) → is_open S v ≡ b → (is_open S v ≡ false → Opening S n (lowest_open S (suc v) m))
        → Opening S n (elim b [ true ↦ some v | false ↦ lowest_open S (suc v) m ])
    go true o ih = lowest (record { from = f; to = omega arith; free = o; below = h })
    go false o ih = ih o

pub opening : (S : Literals) (n : ℕ) → Opening S n (lowest_open S 1 n)
opening S n = opening_from S n 1 n refl (omega arith) (λ u i l. absurd (omega arith))

lowest_one : (S : Literals) (n : ℕ) {v u : ℕ} → Lowest S n v → Lowest S n u → v ≡ u
lowest_one S n {v} {u} p q = go (dec_lt v u) (dec_lt u v)
  where
    go : Dec (v < u) → Dec (u < v) → v ≡ u
    go (yes h) d = absurd (true≢false (sym p.free ∙ q.below v p.from h))
    go (no g) (yes h) = absurd (true≢false (sym q.free ∙ p.below u q.from h))
    go (no g) (no h) = omega arith

pub none_open : (S : Literals) (n : ℕ) → NoneOpen S n → lowest_open S 1 n ≡ none
none_open S n d = go (opening S n)
  where
    go : {o : Option ℕ} → Opening S n o → o ≡ none
    go (shut e) = refl
    go (lowest {v = v} w) = absurd (true≢false (sym w.free ∙ d v w.from w.to))

pub lowest_open_lem : (S : Literals) (n : ℕ) {v : ℕ} → Lowest S n v → lowest_open S 1 n ≡ some v
lowest_open_lem S n {v} w = go (opening S n)
  where
    go : {o : Option ℕ} → Opening S n o → o ≡ some v
    go (shut d) = absurd (true≢false (sym w.free ∙ d v w.from w.to))
    go (lowest q) = ap some (lowest_one S n q w)

-- ---- a clash

pub clash_both : (n : ℕ) (S : Literals) → clashes n S ≡ true → (v : ℕ) × In S (plain v) × In S (negated v)
unfolding clashes
clash_both n S e = let o = (some_one (λ v. S (plain v) && S (negated v)) 1 n).0 e in let w = both (S (plain o.0)) (S (negated o.0)) o.3 in (o.0, w.0, w.1)

pub both_clash : (n : ℕ) (S : Literals) (l : Literal) → 1 ≤ l.variable → l.variable ≤ n → In S l → In S (opposite l) → clashes n S ≡ true
unfolding clashes
both_clash n S l f t p q = (some_one (λ v. S (plain v) && S (negated v)) 1 n).1 (l.variable, f, omega arith, go l.sign p q)
  where
    go : (u : Bool) → In S (literal u l.variable) → In S (literal (not u) l.variable) → S (plain l.variable) && S (negated l.variable) ≡ true
    go true p q = rw (p, q)
    go false p q = rw (p, q)

-- a set without clash that has a literal of a variable gives that value
pub reads : (n : ℕ) (S : Literals) → clashes n S ≡ false → (u : Bool) (v : ℕ) → 1 ≤ v → v ≤ n → In S (literal u v) → high_in S v ≡ u
reads n S e true v f t h = h
reads n S e false v f t h = either_way (S (plain v)) (λ p. absurd (true≢false (sym (both_clash n S (plain v) f t p h) ∙ e))) (λ p. p)
