-- Storing a list from a place on, and then another one before it, is storing both at once, since stores at different places commute.
-- What is stored stands where it was stored.
use mathlib.Core.Path.{◌≡◌, refl, sym, ap, ◌∙◌}
use mathlib.Core.List.{List, [], ◌∷◌, ◌++◌, append_assoc}
use Prim.Native.Nat.{ℕ, suc, ◌+◌, ◌≤◌, ◌<◌}
use native.Mathlib.Omega.{arith}
use lib.ListN.{length, get_or, take, drop, set, length-append, get_or-append}
use lib.Seq.{sets, sets-eq, set_comm, drop-drop, get_or-append-add, length-take-le}
use borrow.Rule.Slice.PartMut.{put_mid}
use Rattle.moments.specs.Moments.{over}

pub sets_append : (s : List ℕ) (i : ℕ) (A B : List ℕ) → sets s i (A ++ B) ≡ sets (sets s i A) (i + length A) B
sets_append s i [] B = let e : i ≡ i + 0 = omega arith in ap (λ (j : ℕ). sets s j B) e
sets_append s i (a ∷ A) B =
    let e : suc i + length A ≡ i + suc (length A) = omega arith in
    sets_append _ (suc i) A B ∙ ap (λ (j : ℕ). sets (sets s i (a ∷ A)) j B) e

set_under : (s B : List ℕ) (i j v : ℕ) → i < j → set (sets s j B) i v ≡ sets (set s i v) j B
set_under s [] i j v h = refl
set_under s (b ∷ B) i j v h =
    set_under (set s j b) B i (suc j) v (omega arith) ∙ ap (λ (s : List ℕ). sets s (suc j) B) (set_comm s j i b v (λ e. omega arith))

sets_under : (s A B : List ℕ) (i j : ℕ) → i + length A ≤ j → sets (sets s j B) i A ≡ sets (sets s i A) j B
sets_under s [] B i j h = refl
sets_under s (a ∷ A) B i j h =
    ap (λ (s : List ℕ). sets s (suc i) A) (set_under s B i j a (omega arith)) ∙ sets_under (set s i a) A B (suc i) j (omega arith)

-- B is stored, and then A right before it
pub stored_before : (s A B : List ℕ) (i : ℕ) {j : ℕ} → j ≡ i + length A → sets (sets s j B) i A ≡ sets s i (A ++ B)
stored_before s A B i {j} e = sets_under s A B i j (omega (arith, e)) ∙ ap (λ (j : ℕ). sets (sets s i A) j B) e ∙ sym (sets_append s i A B)

pub stored_at : (s L : List ℕ) (i e : ℕ) → i + length L ≤ length s → e < length L → get_or (sets s i L) (i + e) 0 ≡ get_or L e 0
stored_at s L i e h l =
    let n : length (take i s) ≡ i = length-take-le i s (omega arith) in
    ap (λ (s : List ℕ). get_or s (i + e) 0) (sets-eq L s i h)
    ∙ get_or-append (take i s ++ L) (drop (i + length L) s) 0 (i + e) (omega (arith, n, length-append (take i s) L))
    ∙ ap (λ (j : ℕ). get_or (take i s ++ L) (j + e) 0) (sym n)
    ∙ get_or-append-add (take i s) L e 0

-- a part that was lent and is back
pub part_stored : (a n : ℕ) (xs ys : List ℕ) → length ys ≡ n → a + n ≤ length xs → put_mid a n xs ys ≡ sets xs a ys
part_stored a n xs ys e h =
    ap (λ (r : List ℕ). take a xs ++ (ys ++ r)) (drop-drop n a xs ∙ ap (λ (m : ℕ). drop (a + m) xs) (sym e))
    ∙ sym (append_assoc (take a xs) ys (drop (a + length ys) xs))
    ∙ sym (sets-eq ys xs a (omega (arith, e)))

-- what is stored from the first place on stands over what was there
pub stored_over : (new old : List ℕ) {s : List ℕ} → s ≡ sets old 0 new → length new ≤ length old → s ≡ over new old
stored_over new old e h =
    let z : 0 + length new ≡ length new = omega arith in
    e ∙ sets-eq new old 0 (omega arith) ∙ ap (λ (n : ℕ). new ++ drop n old) z
