-- Lists made by counting, what holds of every entry, places in lists, and sums.
use Rattle.std.specs.Prelude.{Bool, cond, List, [], ◌∷◌, ◌++◌, ℕ, zero, suc, ◌+◌, ◌-◌}

-- the lists f 0, .., f (n − 1), joined
unfoldable pub rows : {A : Type 0} → ℕ → (ℕ → List A) → List A
rows zero f = []
rows (suc n) f = rows n f ++ f n

-- g 0, .., g (n − 1)
abbrev pub tab : {A : Type 0} → ℕ → (ℕ → A) → List A
tab n g = rows n (λ i. g i ∷ [])

-- the lists f a, .., f b, joined: none if b is below a
abbrev pub each : {A : Type 0} → ℕ → ℕ → (ℕ → List A) → List A
each a b f = rows (suc b - a) (λ x. f (a + x))

-- P holds of every entry
abbrev pub All : {A : Type 0} → (A → Type 0) → List A → Type 0
All P [] = Unit
All P (x ∷ l) = P x × All P l

-- how many stand before the first one that is so
unfoldable pub place_in : {A : Type 0} → (A → Bool) → List A → ℕ
place_in is [] = 0
place_in is (x ∷ l) = cond (is x) 0 (suc (place_in is l))

-- w 0 + .. + w (n − 1)
unfoldable pub sum : (ℕ → ℕ) → ℕ → ℕ
sum w zero = 0
sum w (suc n) = sum w n + w n
