-- A gate's clauses name its variable and its inputs, no others.
-- What holds of the clauses of each definition holds of all.
use mathlib.Core.Path.{◌≡◌, refl}
use mathlib.Core.Logic.{◌⊎◌, inl, inr, ⊎_elim}
use mathlib.Core.List.{List, [], ◌∷◌, ◌++◌, map, flat_map}
use Prim.Native.Nat.{ℕ, zero, suc, ◌+◌, ◌<◌}
use native.Mathlib.Omega.{arith}
use Rattle.lists.specs.Listing.{rows, tab, All}
use Rattle.interval.proofs.Shape.{Shape, line, stack, Entry, Inside, per}
use Rattle.lists.proofs.Lists.{all_append, all_rows, all_mapped}
use Rattle.paper_circuit.specs.Circuit.{Definition}
use Rattle.paper_circuit.specs.declared.Gate.{Gate}
use Rattle.paper_circuit.specs.declared.Gate.TheVariants.{Constant, Copy, Inverse, Both, Either, AnyOf, Step}
use Rattle.paper_clauses.specs.Clauses.{Clause, plain, negated, clauses_of, clauses_by}
use Rattle.search_fanout.specs.Fanout.{Names}

-- u is an input of the gate
abbrev pub Inputs : ℕ → Gate → Type 0
Inputs u (Constant b) = ⊥
Inputs u (Copy x) = u ≡ x
Inputs u (Inverse x) = u ≡ x
Inputs u (Both x y) = (u ≡ x) ⊎ (u ≡ y)
Inputs u (Either x y) = (u ≡ x) ⊎ (u ≡ y)
Inputs u (AnyOf w n) = (e : ℕ) × (e < n) × (u ≡ w + e)
Inputs u (Step p q s) = (u ≡ p) ⊎ ((u ≡ q) ⊎ (u ≡ s))

-- the variable or an input
abbrev pub Mention : ℕ → ℕ → Gate → Type 0
Mention u v g = (u ≡ v) ⊎ Inputs u g

module _ (u v : ℕ) where
  long_names : (X : Type 0) (n : ℕ) (f : ℕ → ℕ) → ((e : ℕ) → e < n → u ≡ f e → X) → Names u (map plain (tab n f)) → X
  unfolding rows
  long_names X zero f h a = absurd a
  long_names X (suc n) f h a = go (tab n f) (long_names X n f (λ e l. h e (omega arith))) a
    where
      go : (l : List ℕ) → (Names u (map plain l) → X) → Names u (map plain (l ++ f n ∷ [])) → X
      go [] k (inl e) = h n (omega arith) e
      go [] k (inr b) = absurd b
      go (x ∷ l) k (inl e) = k (inl e)
      go (x ∷ l) k (inr b) = go l (λ c. k (inr c)) b

  two : {X : Type 0} {x : ℕ} → (u ≡ x → X) → (u ≡ v) ⊎ ((u ≡ x) ⊎ ⊥) → (u ≡ v) ⊎ X
  two f (inl e) = inl e
  two f (inr (inl e)) = inr (f e)
  two f (inr (inr b)) = absurd b

  three : {X : Type 0} {x y : ℕ} → (u ≡ x → X) → (u ≡ y → X) → (u ≡ v) ⊎ ((u ≡ x) ⊎ ((u ≡ y) ⊎ ⊥)) → (u ≡ v) ⊎ X
  three f g (inl e) = inl e
  three f g (inr (inl e)) = inr (f e)
  three f g (inr (inr (inl e))) = inr (g e)
  three f g (inr (inr (inr b))) = absurd b

  pub named : (g : Gate) → All (λ c. Names u c → Mention u v g) (clauses_of v g)
  unfolding clauses_of
  named (Constant b) = ((λ a. ⊎_elim inl (λ b. absurd b) a), tt)
  named (Copy x) = (two (λ e. e), (two (λ e. e), tt))
  named (Inverse x) = (two (λ e. e), (two (λ e. e), tt))
  named (Both x y) = (two inl, (two inr, (three inl inr, tt)))
  named (Either x y) = (two inl, (two inr, (three inl inr, tt)))
  named (AnyOf w n) =
      all_append _ (map (λ w. plain v ∷ negated w ∷ []) (tab n (λ e. w + e))) _
      (all_mapped (λ c. Names u c → Mention u v (AnyOf w n)) (λ x. (e : ℕ) × (e < n) × (x ≡ w + e)) _ (tab n (λ e. w + e)) (λ x o. two (λ a. (o.0, o.1, cc (a, o.2))))
      (all_rows _ n _ (λ e h. ((e, h, refl), tt))))
      ((λ a. ⊎_elim inl (λ b. inr (long_names ((e : ℕ) × (e < n) × (u ≡ w + e)) n (λ e. w + e) (λ e l f. (e, l, f)) b)) a), tt)
  named (Step p q s) = (three inl (λ e. inr (inl e)), (three inl (λ e. inr (inr e)), (two inl, (three (λ e. inr (inl e)) (λ e. inr (inr e)), tt))))

-- ---- all clauses of all definitions, all entries of a shape

pub all_clauses : (Q : Clause → Type 0) (D : List Definition) → All (λ d. All Q (clauses_of d.variable d.gate)) D → All Q (clauses_by D)
unfolding clauses_by flat_map
all_clauses Q [] a = tt
all_clauses Q (d ∷ D) a = all_append Q (clauses_of d.variable d.gate) (clauses_by D) a.0 (all_clauses Q D a.1)

pub all_per : {A : Type 0} (P : A → Type 0) (s : Shape) (g : Entry s → A) → ((x : Entry s) → Inside s x → P (g x)) → All P (per s g)
all_per P (line n) g h = all_rows P n _ (λ i l. (h i l, tt))
all_per P (stack n f) g h = all_rows P n _ (λ i l. all_per P (f i) (λ x. g (i, x)) (λ x m. h (i, x) (l, m)))
