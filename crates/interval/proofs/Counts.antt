-- Document 01's formulas count what the shapes hold. Row i of a stack of n rows has w (n − i) entries, so the rows before it
-- and those from it on make w 1 + .. + w n; for intervals w is the number itself, for triples the sum of the numbers up to it.
use mathlib.Core.Path.{◌≡◌, refl, sym, ap, ◌∙◌}
use Prim.Native.Nat.{ℕ, zero, suc, ◌+◌, ◌-◌, ◌*◌, ◌≤◌}
use native.Mathlib.Nat.{suc-mul, mul-suc, zero-mul, mul_comm, mul_assoc, mul-le-mul, sub-zero, le_refl}
use native.Mathlib.Omega.{arith}
use Rattle.lists.specs.Listing.{sum}
use Rattle.interval.specs.Places.{count_of, place_of, triple_count_of}
use Rattle.interval.specs.Limits.{max_steps, max_count, IntervalOf}
use Rattle.interval.specs.declared.Interval.{Interval}
use Rattle.interval.proofs.Shape.{count, place, intervals, triples}

-- w 1 + .. + w n
abbrev up_to : (ℕ → ℕ) → ℕ → ℕ
up_to w n = sum (λ x. w (suc x)) n

pub rows_before : (w : ℕ → ℕ) (n i : ℕ) → i ≤ n → sum (λ a. w (n - a)) i + up_to w (n - i) ≡ up_to w n
unfolding sum
rows_before w n zero h = omega (arith, ap (up_to w) (sub-zero n))
rows_before w n (suc i) h =
    let e : n - i ≡ suc (n - suc i) = omega arith in
    omega (arith, rows_before w n i (omega arith), ap (up_to w) e, ap w e)

all_rows : (w : ℕ → ℕ) (n : ℕ) → sum (λ a. w (n - a)) n ≡ up_to w n
unfolding sum
all_rows w n = let e : n - n ≡ 0 = omega arith in omega (arith, rows_before w n n (le_refl n), ap (up_to w) e)

-- 1 + .. + n, twice
triangle : (n : ℕ) → 2 * sum suc n ≡ n * suc n
unfolding sum
triangle zero = refl
triangle (suc n) = omega (arith, triangle n, mul-suc (suc n) (suc n), suc-mul n (suc n))

-- the sum of those up to n, six times
pyramid : (n : ℕ) → 6 * up_to (sum suc) n ≡ n * (suc n * suc (suc n))
unfolding sum
pyramid zero = refl
pyramid (suc n) =
    let b = suc n * suc (suc n) in
    let e : suc n * (suc (suc n) * suc (suc (suc n))) ≡ suc (suc (suc n)) * b = sym (mul_assoc (suc n) _ _) ∙ mul_comm b _ in
    omega (arith, pyramid n, triangle (suc n), e, suc-mul (suc (suc n)) b, suc-mul (suc n) b, suc-mul n b)

pub triangle_count : (k : ℕ) → sum suc (suc k) ≡ count_of k
unfolding count_of
triangle_count k = omega (arith, triangle (suc k))

pub intervals_count : (k : ℕ) → count (intervals k) ≡ count_of k
intervals_count k = all_rows (λ x. x) (suc k) ∙ triangle_count k

pyramid_count : (k : ℕ) → up_to (sum suc) (suc k) ≡ triple_count_of k
unfolding triple_count_of
pyramid_count k = omega (arith, pyramid (suc k), mul_assoc (suc k) (suc (suc k)) (suc (suc (suc k))))

pub triples_count : (k : ℕ) → count (triples k) ≡ triple_count_of k
triples_count k = all_rows (sum suc) (suc k) ∙ pyramid_count k

-- the products in document 01's formulas grow with k, and so do I and J
pub twice_count_le : (n k : ℕ) → k ≤ n → (k + 1) * (k + 2) ≤ (n + 1) * (n + 2)
twice_count_le n k h = mul-le-mul {n₁ = k + 1} {n₂ = n + 1} (omega arith) (omega arith)

pub six_count_le : (n k : ℕ) → k ≤ n → (k + 1) * (k + 2) * (k + 3) ≤ (n + 1) * (n + 2) * (n + 3)
six_count_le n k h = mul-le-mul (twice_count_le n k h) (omega arith)

pub count_le : (n k : ℕ) → k ≤ n → count_of k ≤ count_of n
unfolding count_of
count_le n k h = omega (arith, twice_count_le n k h)

pub triple_count_le : (n k : ℕ) → k ≤ n → triple_count_of k ≤ triple_count_of n
unfolding triple_count_of
triple_count_le n k h = omega (arith, six_count_le n k h)

-- ---- places

-- i rows, of n, n − 1, .. entries, and the entries that they lack to i rows of n + 1
rows_and_lack : (n i : ℕ) → i ≤ n → sum (λ a. n - a) i + sum suc i ≡ i * suc n
unfolding sum
rows_and_lack n zero h = sym (zero-mul (suc n))
rows_and_lack n (suc i) h = omega (arith, rows_and_lack n i (omega arith), suc-mul i (suc n))

less_one : (i : ℕ) → i * (i - 1) + i ≡ i * i
less_one zero = refl
less_one (suc i) = let e : suc i - 1 ≡ i = omega arith in rw e (sym (mul-suc (suc i) i))

-- document 01's place of [i, j] is the shape's, by start and length
pub interval_place : (k : ℕ) (v : Interval) → IntervalOf k v → place_of k v ≡ place (intervals k) (v.i, v.j - v.i)
unfolding place_of
interval_place k v o =
    omega (arith, rows_and_lack (suc k) v.i (omega arith), triangle v.i, less_one v.i, mul-suc v.i (suc k), mul-suc v.i v.i)

-- no more intervals than a table holds
pub few_intervals : (k : ℕ) → k ≤ max_steps → count_of k ≤ max_count
unfolding count_of
few_intervals k h = count_le max_steps k h
