-- A variable is open where its value is 0: one byte cannot be both values, so values never clash, and the first byte that is 0 is the lowest
-- open variable's. Values that are all 0 are the set of nothing.
use mathlib.Core.Path.{◌≡◌, refl, subst, fun_ext}
use mathlib.Core.Bool.{Bool, true, false, not, ◌||◌, false≢true}
use mathlib.Core.List.{List, [], ◌∷◌}
use Prim.Native.Nat.{ℕ, zero, suc, ◌+◌, ◌-◌, ◌^◌, ◌≤◌, ◌<◌}
use native.Mathlib.Numerals.{add-one}
use native.Mathlib.Omega.{arith}
use lib.Dec.{eqb}
use lib.ListN.{length, get_or}
use borrow.Author.Tests.{eqb-true}
use Rattle.paper_clauses.specs.Clauses.{plain, negated}
use Rattle.paper_closure.specs.Closure.{nothing}
use Rattle.paper_closure.specs.Runs.{clashes, is_open}
use Rattle.paper_closure.proofs.Sets.{either_way, In}
use Rattle.paper_closure.proofs.Open.{clash_both}
use Rattle.search_closing.specs.Values.{held, held_in, held_count, Trailing}
use Rattle.search_closing.proofs.Held.{nothing_there}
use Rattle.search_attempts.specs.Attempts.{Openness}

-- ---- places that are 0

pub zero_nothing : (values : List ℕ) → ((y : ℕ) → get_or values y 0 ≡ 0) → held_in values ≡ nothing
unfolding held_in
zero_nothing values f = fun_ext (λ l. go l.sign l.variable)
  where
    go : (u : Bool) (v : ℕ) → held values u v ≡ false
    go u zero = refl
    go u (suc v) = rw (f v) (nothing_there u)

zero_count : (values : List ℕ) → ((y : ℕ) → get_or values y 0 ≡ 0) → held_count values ≡ 0
unfolding held_count
zero_count [] f = refl
zero_count (x ∷ values) f = rw (f 0) (omega (arith, zero_count values (λ y. f (suc y))))

pub zero_trailing : (values trail : List ℕ) → ((y : ℕ) → get_or values y 0 ≡ 0) → length values ≤ length trail → length values < 2 ^ 32 → Trailing values trail 0
zero_trailing values trail f h l = record { small = λ x. omega (arith, f x); full = zero_count values f; room = h; few = l }

-- ---- values never clash

module _ (values : List ℕ) where
  one_side : (v : ℕ) → In (held_in values) (plain v) → In (held_in values) (negated v) → ⊥
  unfolding held_in
  one_side zero p n = false≢true p
  one_side (suc x) p n = omega (arith, eqb-true (get_or values x 0) 1 p, eqb-true (get_or values x 0) 2 n)

  pub never_clashes : (n : ℕ) → clashes n (held_in values) ≡ false
  never_clashes n = either_way (clashes n (held_in values)) (λ e. let (v, p, q) = clash_both n (held_in values) e in absurd (one_side v p q)) (λ e. e)

  -- ---- which variables are open

  pub open_zero : (x : ℕ) → get_or values x 0 ≡ 0 → is_open (held_in values) (x + 1) ≡ true
  unfolding is_open held_in
  open_zero x z = rw (add-one x, z)

  shut_other : (x : ℕ) → get_or values x 0 ≤ 2 → (get_or values x 0 ≡ 0 → ⊥) → is_open (held_in values) (x + 1) ≡ false
  unfolding is_open held_in
  shut_other x s n = rw add-one (go (get_or values x 0) s n)
    where
      go : (w : ℕ) → w ≤ 2 → (w ≡ 0 → ⊥) → not (eqb w 1 || eqb w 2) ≡ false
      go zero s n = absurd (n refl)
      go (suc zero) s n = refl
      go (suc (suc zero)) s n = refl
      go (suc (suc (suc w))) s n = absurd (omega arith)

  module _ (s : (x : ℕ) → get_or values x 0 ≤ 2) (x : ℕ) (f : (y : ℕ) → y < x → get_or values y 0 ≡ 0 → ⊥) where
    shut_below : (u : ℕ) → 1 ≤ u → u < x + 1 → is_open (held_in values) u ≡ false
    shut_below u h l = let e : u - 1 + 1 ≡ u = omega arith in subst (λ u. is_open (held_in values) u ≡ false) e (shut_other (u - 1) (s (u - 1)) (f (u - 1) (omega arith)))

    pub found_lowest : (channels : ℕ) → x < channels → get_or values x 0 ≡ 0 → Openness values channels (x + 1)
    found_lowest channels l z = record {
      none = λ e. absurd (omega arith);
      lowest = λ n. record { from = omega arith; to = omega arith; free = open_zero x z; below = shut_below };
    }

    pub found_none : (channels : ℕ) → channels ≤ x → Openness values channels 0
    found_none channels l = record { none = λ e v h t. shut_below v h (omega arith); lowest = λ n. absurd (n refl) }
