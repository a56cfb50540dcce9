-- Lists joined from lists, and what holds of every entry of a list, made by counting, mapped or joined.
-- Each law goes by cases on the list, or on the number of rows.
use mathlib.Core.Path.{◌≡◌, refl, sym, ap, ap₂, ◌∙◌}
use mathlib.Core.List.{List, [], ◌∷◌, ◌++◌, append_assoc, map, flat_map}
use Prim.Native.Nat.{ℕ, zero, suc, ◌<◌}
use native.Mathlib.Omega.{arith}
use lib.ListN.{length, get_or}
use Rattle.lists.specs.Listing.{rows, All}

module _ {A : Type 0} where
  pub all_append : (P : A → Type 0) (l m : List A) → All P l → All P m → All P (l ++ m)
  all_append P [] m a b = b
  all_append P (w ∷ l) m a b = (a.0, all_append P l m a.1 b)

  pub all_map : (P Q : A → Type 0) → ((w : A) → P w → Q w) → (l : List A) → All P l → All Q l
  all_map P Q f [] a = tt
  all_map P Q f (w ∷ l) a = (f w a.0, all_map P Q f l a.1)

module _ {A : Type 0} (P : A → Type 0) where
  pub all_split : (l m : List A) → All P (l ++ m) → All P l × All P m
  all_split [] m a = (tt, a)
  all_split (w ∷ l) m a = let s = all_split l m a.1 in ((a.0, s.0), s.1)

  pub all_rows : (n : ℕ) (f : ℕ → List A) → ((i : ℕ) → i < n → All P (f i)) → All P (rows n f)
  unfolding rows
  all_rows zero f h = tt
  all_rows (suc n) f h = all_append P (rows n f) (f n) (all_rows n f (λ i l. h i (omega arith))) (h n (omega arith))

  pub all_mapped : {B : Type 0} (In : B → Type 0) (f : B → A) (l : List B) → ((a : B) → In a → P (f a)) → All In l → All P (map f l)
  all_mapped In f [] h a = tt
  all_mapped In f (b ∷ l) h a = (h b a.0, all_mapped In f l h a.1)

  pub all_at : (l : List A) (d : A) → All P l → (e : ℕ) → e < length l → P (get_or l e d)
  all_at [] d a e h = absurd (omega arith)
  all_at (w ∷ l) d a zero h = a.0
  all_at (w ∷ l) d a (suc e) h = all_at l d a.1 e (omega arith)

  pub all_or : (l : List A) (d : A) → P d → (e : ℕ) → All P l → P (get_or l e d)
  all_or [] d p e a = p
  all_or (w ∷ l) d p zero a = a.0
  all_or (w ∷ l) d p (suc e) a = all_or l d p e a.1

module _ {A B : Type 0} where
  pub flat_append : (f : A → List B) (l m : List A) → flat_map f (l ++ m) ≡ flat_map f l ++ flat_map f m
  unfolding flat_map
  flat_append f [] m = refl
  flat_append f (w ∷ l) m = ap (λ (k : List B). f w ++ k) (flat_append f l m) ∙ sym (append_assoc (f w) (flat_map f l) (flat_map f m))

  pub flat_same : (f g : A → List B) (l : List A) → All (λ w. f w ≡ g w) l → flat_map f l ≡ flat_map g l
  unfolding flat_map
  flat_same f g [] a = refl
  flat_same f g (w ∷ l) a = ap₂ (λ (k m : List B). k ++ m) a.0 (flat_same f g l a.1)

  pub flat_map_lem : (f : A → B) (l : List A) → flat_map (λ w. f w ∷ []) l ≡ map f l
  unfolding flat_map
  flat_map_lem f [] = refl
  flat_map_lem f (w ∷ l) = ap (λ (k : List B). f w ∷ k) (flat_map_lem f l)

  pub unmapped : (P : B → Type 0) (Q : A → Type 0) (f : A → B) → ((a : A) → P (f a) → Q a) → (l : List A) → All P (map f l) → All Q l
  unmapped P Q f h [] a = tt
  unmapped P Q f h (w ∷ l) a = (h w a.0, unmapped P Q f h l a.1)
