-- A number below 10 is one digit, any other is the digits of its tenth and one digit more: so a decimal can be built digit by
-- digit, and what holds of digits and goes on to one digit more holds of every number.
use mathlib.Core.Path.{◌≡◌, sym, ap, ◌∙◌, subst}
use mathlib.Core.List.{List, [], ◌∷◌, ◌++◌}
use Prim.Native.Nat.{ℕ, zero, suc, ◌+◌, ◌*◌, ◌/◌, ◌%◌, ◌≤◌, ◌<◌}
use native.Mathlib.Decide.{dec_lt}
use native.Mathlib.Omega.{arith}
use borrow.Author.Tests.{lt-ltb, le-ltb}
use Rattle.paper_grammar.specs.Trees.{decimal, decimal_in}

short : (f n : ℕ) → n < 10 → decimal_in (suc f) n ≡ (48 + n) ∷ []
unfolding decimal_in
short f n h = rw (lt-ltb n 10 h)

long : (f n : ℕ) → 10 ≤ n → decimal_in (suc f) n ≡ decimal_in f (n / 10) ++ (48 + n % 10) ∷ []
unfolding decimal_in
long f n h = rw (le-ltb n 10 h)

-- the bound on the digits is no matter
enough : (f g n : ℕ) → n < f → n < g → decimal_in f n ≡ decimal_in g n
enough zero g n h k = absurd (omega arith)
enough (suc f) zero n h k = absurd (omega arith)
enough (suc f) (suc g) n h k = go (dec_lt n 10) (enough f g (n / 10))
  where
    go : Dec (n < 10) → (n / 10 < f → n / 10 < g → decimal_in f (n / 10) ≡ decimal_in g (n / 10)) → decimal_in (suc f) n ≡ decimal_in (suc g) n
    go (yes l) ih = short f n l ∙ sym (short g n l)
    go (no l) ih =
        let m : 10 ≤ n = omega arith in
        long f n m ∙ ap (λ (t : List ℕ). t ++ (48 + n % 10) ∷ []) (ih (omega arith) (omega arith)) ∙ sym (long g n m)

pub decimal_digit : (d : ℕ) → d < 10 → decimal d ≡ (48 + d) ∷ []
unfolding decimal
decimal_digit d h = short d d h

pub decimal_more : (m d : ℕ) → 0 < m → d < 10 → decimal (m * 10 + d) ≡ decimal m ++ (48 + d) ∷ []
unfolding decimal
decimal_more m d h k =
    let e : (m * 10 + d) / 10 ≡ m = omega arith in
    let r : (m * 10 + d) % 10 ≡ d = omega arith in
    long (m * 10 + d) (m * 10 + d) (omega arith) ∙ rw (e, r) (ap (λ (t : List ℕ). t ++ (48 + d) ∷ []) (enough (m * 10 + d) (suc m) m (omega arith) (omega arith)))

module _ (P : ℕ → Type 0) (one : (d : ℕ) → d < 10 → P d) (more : (m d : ℕ) → 0 < m → d < 10 → P m → P (m * 10 + d)) where
  below : (f n : ℕ) → n < f → P n
  below zero n h = absurd (omega arith)
  below (suc f) n h = go (dec_lt n 10) (below f (n / 10))
    where
      go : Dec (n < 10) → (n / 10 < f → P (n / 10)) → P n
      go (yes l) ih = one n l
      go (no l) ih =
          let e : n / 10 * 10 + n % 10 ≡ n = omega arith in
          subst P e (more (n / 10) (n % 10) (omega arith) (omega arith) (ih (omega arith)))

  pub by_digits : (n : ℕ) → P n
  by_digits n = below (suc n) n (omega arith)
