-- Four bytes and their number give each other back, since a number below 2^32 has four digits to the base 256. What holds of one number
-- goes on along a list: each takes four bytes, and stands four bytes further.
use mathlib.Core.Path.{◌≡◌, refl, sym, ap, ap₂, ◌∙◌}
use mathlib.Core.List.{List, [], ◌∷◌, ◌++◌, append_assoc, append-nil, flat_map}
use Prim.Native.Nat.{ℕ, zero, suc, ◌+◌, ◌*◌, ◌/◌, ◌%◌, ◌^◌, ◌≤◌, ◌<◌}
use native.Mathlib.Omega.{arith}
use lib.ListN.{length, get_or, take, drop}
use lib.Seq.{drop-cons, drop-drop, take-add, get_or-append-add}
use Rattle.lists.specs.Listing.{rows, tab}
use Rattle.lists.proofs.Lists.{flat_append}
use Rattle.file_numbers.specs.File.{bytes_of, number_of, number_at, Words, Octets}
use Rattle.file_numbers.proofs.Stored.{four}

-- ---- numbers from their bytes

-- four equal bytes
same_number : {a b c d a' b' c' d' : ℕ} → a ≡ a' → b ≡ b' → c ≡ c' → d ≡ d' → number_of a b c d ≡ number_of a' b' c' d'
same_number p q r s = λ i. number_of (p i) (q i) (r i) (s i)

pub number_after : (xs ys : List ℕ) (n m : ℕ) → m ≡ length xs + n → number_at (xs ++ ys) m ≡ number_at ys n
unfolding number_at
number_after xs ys n m e = same_number (at m n e) (at (m + 1) (n + 1) (omega (arith, e))) (at (m + 2) (n + 2) (omega (arith, e))) (at (m + 3) (n + 3) (omega (arith, e)))
  where
    at : (i j : ℕ) → i ≡ length xs + j → get_or (xs ++ ys) i 0 ≡ get_or ys j 0
    at i j p = ap (λ (i : ℕ). get_or (xs ++ ys) i 0) p ∙ get_or-append-add xs ys j 0

number_first : (n : ℕ) (r : List ℕ) → n < 2 ^ 32 → number_at (bytes_of n ++ r) 0 ≡ n
unfolding number_at bytes_of
number_first n r h =
    let p : n / 256 ≡ 256 * (n / 65536) + n / 256 % 256 = omega arith in
    let q : n / 65536 ≡ 256 * (n / 16777216) + n / 65536 % 256 = omega arith in
    let r : n / 16777216 % 256 ≡ n / 16777216 = omega arith in
    omega (arith, p, q, r)

pub numbers_back : (l r : List ℕ) → Words l → (e : ℕ) → e < length l → number_at (flat_map bytes_of l ++ r) (4 * e) ≡ get_or l e 0
unfolding flat_map
numbers_back [] r w e h = absurd (omega arith)
numbers_back (n ∷ l) r w zero h = ap (λ (f : List ℕ). number_at f 0) (append_assoc (bytes_of n) (flat_map bytes_of l) r) ∙ number_first n (flat_map bytes_of l ++ r) w.0
numbers_back (n ∷ l) r w (suc e) h =
    ap (λ (f : List ℕ). number_at f (4 * suc e)) (append_assoc (bytes_of n) (flat_map bytes_of l) r)
    ∙ number_after (bytes_of n) (flat_map bytes_of l ++ r) (4 * e) (4 * suc e) (omega (arith, four n))
    ∙ numbers_back l r w.1 e (omega arith)

-- ---- bytes from their numbers

bytes_back : (a b c d : ℕ) → a < 256 → b < 256 → c < 256 → d < 256 → bytes_of (number_of a b c d) ≡ a ∷ b ∷ c ∷ d ∷ []
unfolding bytes_of
bytes_back a b c d p q r s =
    ap₂ (λ (x : ℕ) (l : List ℕ). x ∷ l) (omega arith) (ap₂ (λ (x : ℕ) (l : List ℕ). x ∷ l) (omega arith) (ap₂ (λ (x y : ℕ). x ∷ y ∷ []) (omega arith) (omega arith)))

module _ (file : List ℕ) (o : Octets file) where
  bytes_there : (at : ℕ) → at + 4 ≤ length file → bytes_of (number_at file at) ≡ take 4 (drop at file)
  unfolding number_at
  bytes_there at h =
      bytes_back (get_or file at 0) (get_or file (at + 1) 0) (get_or file (at + 2) 0) (get_or file (at + 3) 0) (o at) (o (at + 1)) (o (at + 2)) (o (at + 3)) ∙ sym rest
    where
      next : (i j : ℕ) → j ≡ suc i → i < length file → drop i file ≡ get_or file i 0 ∷ drop j file
      next i j e l = drop-cons file i 0 l ∙ ap (λ (j : ℕ). get_or file i 0 ∷ drop j file) (sym e)

      rest : take 4 (drop at file) ≡ get_or file at 0 ∷ get_or file (at + 1) 0 ∷ get_or file (at + 2) 0 ∷ get_or file (at + 3) 0 ∷ []
      rest =
          rw (
            next at (at + 1) (omega arith) (omega arith),
            next (at + 1) (at + 2) (omega arith) (omega arith),
            next (at + 2) (at + 3) (omega arith) (omega arith),
            next (at + 3) (at + 4) (omega arith) (omega arith),
          )

  pub all_bytes_back : (at n : ℕ) → at + 4 * n ≤ length file → flat_map bytes_of (tab n (λ e. number_at file (at + 4 * e))) ≡ take (4 * n) (drop at file)
  unfolding rows flat_map
  all_bytes_back at zero h = refl
  all_bytes_back at (suc n) h =
      let e : 4 * n + 4 ≡ 4 * suc n = omega arith in
      flat_append bytes_of (tab n (λ e. number_at file (at + 4 * e))) (number_at file (at + 4 * n) ∷ [])
      ∙ ap₂ ◌++◌ (all_bytes_back at n (omega arith))
      (append-nil (bytes_of (number_at file (at + 4 * n))) ∙ bytes_there (at + 4 * n) (omega arith) ∙ ap (take 4) (sym (drop-drop (4 * n) at file)))
      ∙ sym (take-add (4 * n) 4 (drop at file)) ∙ ap (λ (m : ℕ). take m (drop at file)) e
