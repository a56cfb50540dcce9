-- Question 14 of one gate: all its clauses are met where the variable has the gate's value. Where it has not, which clause is the first
-- unmet one is a table of Booleans for each gate; of any number of inputs it is the first high one's, and the last where none is.
use mathlib.Core.Path.{◌≡◌, refl, sym, ap, ◌∙◌}
use mathlib.Core.Bool.{Bool, true, false, not, cond, ◌&&◌, ◌||◌, beq, false≢true}
use mathlib.Core.List.{List, [], ◌∷◌, ◌++◌, map}
use Prim.Native.Nat.{ℕ, zero, suc, ◌+◌, ◌<◌}
use native.Mathlib.Omega.{arith}
use borrow.Author.Tests.{not-true, ltb-true, ltb-false}
use lib.Dec.{ltb}
use lib.ListN.{length, get_or}
use Rattle.std.specs.Prelude.{Err, Ok}
use Rattle.refusal.specs.Asked.{Reply, ok}
use Rattle.lists.specs.Listing.{tab}
use Rattle.lists.proofs.Listing.{length_tab, get_or_tab}
use Rattle.lists.proofs.Tests.{both}
use Rattle.paper_meaning.specs.Meaning.{any}
use Rattle.paper_meaning.proofs.Laws.{some_one}
use Rattle.paper_circuit.specs.Gates.{Assignment, value_of}
use Rattle.paper_circuit.specs.declared.Gate.{Gate}
use Rattle.paper_circuit.specs.declared.Gate.TheVariants.{Constant, Copy, Inverse, Both, Either, AnyOf, Step}
use Rattle.table_sizes.specs.Weights.{weight_of, clause_weight}
use Rattle.paper_clauses.specs.Clauses.{plain, negated, Clause, clauses_of, meets_clause, meets_all}
use Rattle.table_sizes.proofs.Sizes.{gate_clauses}
use Rattle.paper_clauses.proofs.Meets.{beq_exactly, by_table, any_some, meets_exactly}
use Rattle.paper_assignments.specs.Calls.{ask_clauses}
use Rattle.check_gate.specs.First.{FirstHigh}

-- the first unmet clause's number, from 0, of a gate whose variable is high or low (up) where its value is not
abbrev pub At : Assignment → Bool → Gate → ℕ → Type 0
At a up (Constant b) r = r ≡ 0
At a up (Copy u) r = r ≡ cond up 0 1
At a up (Inverse x) r = r ≡ cond up 1 0
At a up (Both x y) r = r ≡ cond up (cond (a x) 1 0) 2
At a up (Either x y) r = r ≡ cond up 2 (cond (a x) 0 1)
At a up (AnyOf w n) r = FirstHigh a w n r
At a up (Step p q s) r = r ≡ cond up (cond (a q) 1 0) (cond (a p) 2 3)

abbrev pub no : ℕ → Reply
no p = Err (record { number = 14; place = p })

abbrev place_of : Reply → ℕ
place_of (Ok _) = 0
place_of (Err r) = r.place

-- r are true, and the next is not
abbrev first_at : List Bool → ℕ → Bool
first_at [] r = false
first_at (b ∷ B) zero = not b
first_at (b ∷ B) (suc r) = b && first_at B r

unlike : (x y b : Bool) → (x ≡ y → ⊥) → (beq x y || b) ≡ true → b ≡ true
unlike true true b d e = absurd (d refl)
unlike true false b d e = e
unlike false true b d e = e
unlike false false b d e = absurd (d refl)

pub differ : (x y : Bool) {z : Bool} → beq x y ≡ false → y ≡ z → x ≡ z → ⊥
differ x y b h e = false≢true (sym b ∙ (beq_exactly x y).1 (e ∙ sym h))

-- the values of variables 0, 1, .. of a table
abbrev bits : List Bool → Assignment
bits [] v = false
bits (b ∷ B) zero = b
bits (b ∷ B) (suc v) = bits B v

module _ (a : Assignment) where
  all_met : (n : ℕ) (T : List Clause) → meets_all a T ≡ true → ok ≡ ask_clauses a n T
  unfolding meets_all ask_clauses
  all_met n [] e = refl
  all_met n (c ∷ T) e = let w = both (meets_clause a c) (meets_all a T) e in rw w.0 (all_met (suc n) T w.1)

  pub gate_met : (v n : ℕ) (g : Gate) → a v ≡ value_of a g → ok ≡ ask_clauses a n (clauses_of v g)
  gate_met v n g e = all_met n (clauses_of v g) ((meets_exactly a v g).1 e)

  abbrev met : List Clause → List Bool
  met T = map (meets_clause a) T

  answered : (n : ℕ) (T : List Clause) (r : ℕ) → first_at (met T) r ≡ true → no (n + r) ≡ ask_clauses a n T
  unfolding ask_clauses
  answered n [] r e = absurd (false≢true e)
  answered n (c ∷ T) zero e = rw (not-true (meets_clause a c) e) (ap no (omega arith))
  answered n (c ∷ T) (suc r) e =
      let w = both (meets_clause a c) (first_at (met T) r) e in
      let s : n + suc r ≡ suc n + r = omega arith in
      rw w.0 (ap no s ∙ answered (suc n) T r w.1)

  place_below : (n p : ℕ) (T : List Clause) → no p ≡ ask_clauses a n T → p < n + length T
  unfolding ask_clauses
  place_below n p [] e = let z : ◌≡◌ {A = ℕ} 0 1 = cc in absurd (omega arith)
  place_below n p (c ∷ T) e = go (meets_clause a c) (place_below (suc n) p T) e
    where
      go : (b : Bool) → (no p ≡ ask_clauses a (suc n) T → p < suc n + length T) → no p ≡ cond b (ask_clauses a (suc n) T) (no n) → p < n + suc (length T)
      go true f e = omega (arith, f e)
      go false f e = omega (arith, ap place_of e)

  -- the number of an unmet clause is one of the gate's
  pub place_within : (v n p : ℕ) (g : Gate) → no p ≡ ask_clauses a n (clauses_of v g) → p < n + weight_of clause_weight g
  place_within v n p g e = rw (gate_clauses v g) at (place_below n p (clauses_of v g) e)

  -- ---- any number of inputs

  all_low : (w n : ℕ) → ((e : ℕ) → e < n → a (w + e) ≡ false) → any a w n ≡ false
  unfolding any
  all_low w zero h = refl
  all_low w (suc n) h = rw (all_low w n (λ e l. h e (omega arith)), h n (omega arith))

  pub first_some : {w n r : ℕ} → FirstHigh a w n r → ltb r n ≡ any a w n
  first_some {w} {n} {r} h = go (ltb r n) refl
    where
      go : (b : Bool) → ltb r n ≡ b → b ≡ any a w n
      go true e = let l = ltb-true r n e in sym ((some_one a w n).1 (w + r, omega arith, omega arith, h.high l))
      go false e = let l = ltb-false r n e in sym (all_low w n (λ x m. h.low x (omega arith)))

  module _ (v : ℕ) (c : Clause) where
    abbrev each : List ℕ → List Clause
    each ws = map (λ w. plain v ∷ negated w ∷ []) ws ++ c ∷ []

    none_high : a v ≡ true → meets_clause a c ≡ false → (ws : List ℕ) → first_at (met (each ws)) (length ws) ≡ true
    unfolding meets_clause
    none_high u h [] = rw h
    none_high u h (w ∷ ws) = rw u (none_high u h ws)

    one_high : a v ≡ false → (ws : List ℕ) (r : ℕ) → r < length ws → ((e : ℕ) → e < r → a (get_or ws e 0) ≡ false) → a (get_or ws r 0) ≡ true
        → first_at (met (each ws)) r ≡ true
    unfolding meets_clause
    one_high u [] r l low h = absurd (omega arith)
    one_high u (w ∷ ws) zero l low h = rw (u, h)
    one_high u (w ∷ ws) (suc r) l low h = rw (u, low 0 (omega arith)) (one_high u ws r (omega arith) (λ e m. low (suc e) (omega arith)) h)

  any_unmet : (v : ℕ) {w n r : ℕ} → FirstHigh a w n r → (u b : Bool) → a v ≡ u → ltb r n ≡ b → (u ≡ b → ⊥) → first_at (met (clauses_of v (AnyOf w n))) r ≡ true
  unfolding clauses_of meets_clause
  any_unmet v h true true e f d = absurd (d refl)
  any_unmet v {w} {n} {r} h true false e f d =
      let ws = tab n (λ x. w + x) in
      let l = ltb-false r n f in
      let q : length ws ≡ r = omega (arith, length_tab n (λ x. w + x), h.upto) in
      rw q at (none_high v (negated v ∷ map plain ws) e (rw (e, any_some a w n) (sym (first_some h) ∙ f)) ws)
  any_unmet v {w} {n} {r} h false true e f d =
      let ws = tab n (λ x. w + x) in
      let l = ltb-true r n f in
      one_high v (negated v ∷ map plain ws) e ws r (rw length_tab l) (λ x m. rw (get_or_tab n (λ x. w + x) x 0 (omega arith)) (h.low x m)) (rw (get_or_tab n (λ x. w + x) r 0 l) (h.high l))
  any_unmet v h false false e f d = absurd (d refl)

-- the variable has the gate's value, or r is right
abbrev test : Assignment → ℕ → Gate → ℕ → Bool
test a v g r = beq (a v) (value_of a g) || first_at (met a (clauses_of v g)) r

module _ (a : Assignment) where
  settled : (v : ℕ) (g : Gate) {r k : ℕ} → r ≡ k → (a v ≡ value_of a g → ⊥) → test a v g k ≡ true → first_at (met a (clauses_of v g)) r ≡ true
  settled v g {r} {k} h d e = rw h (unlike (a v) (value_of a g) (first_at (met a (clauses_of v g)) k) d e)

  unmet_at : (v : ℕ) (g : Gate) (r : ℕ) → At a (a v) g r → (a v ≡ value_of a g → ⊥) → first_at (met a (clauses_of v g)) r ≡ true
  unfolding value_of clauses_of meets_clause
  unmet_at v (Constant b) r h d =
      settled v (Constant b) h d (by_table 2 (λ x y. test (bits (x ∷ [])) 0 (Constant y) 0) (λ x y. true) refl (a v) b)
  unmet_at v (Copy u) r h d =
      settled v (Copy u) h d (by_table 2 (λ x y. test (bits (x ∷ y ∷ [])) 0 (Copy 1) (cond x 0 1)) (λ x y. true) refl (a v) (a u))
  unmet_at v (Inverse t) r h d =
      settled v (Inverse t) h d (by_table 2 (λ x y. test (bits (x ∷ y ∷ [])) 0 (Inverse 1) (cond x 1 0)) (λ x y. true) refl (a v) (a t))
  unmet_at v (Both t u) r h d =
      settled v (Both t u) h d (by_table 3 (λ x y z. test (bits (x ∷ y ∷ z ∷ [])) 0 (Both 1 2) (cond x (cond y 1 0) 2)) (λ x y z. true) refl (a v) (a t) (a u))
  unmet_at v (Either t u) r h d =
      settled v (Either t u) h d (by_table 3 (λ x y z. test (bits (x ∷ y ∷ z ∷ [])) 0 (Either 1 2) (cond x 2 (cond y 0 1))) (λ x y z. true) refl (a v) (a t) (a u))
  unmet_at v (AnyOf w n) r h d = any_unmet a v h (a v) (ltb r n) refl refl (λ e. d (e ∙ first_some a h))
  unmet_at v (Step p q s) r h d =
      settled v (Step p q s) h d (by_table 4 (λ x y z t. test (bits (x ∷ y ∷ z ∷ t ∷ [])) 0 (Step 1 2 3) (cond x (cond z 1 0) (cond y 2 3))) (λ x y z t. true) refl (a v) (a p) (a q) (a s))

  -- of a gate that is known to be g
  pub unmet_known : {gate g : Gate} {up : Bool} (r : ℕ) → gate ≡ g → At a up g r → (v n : ℕ) → up ≡ a v → (up ≡ value_of a gate → ⊥) →
      no (n + r) ≡ ask_clauses a n (clauses_of v gate)
  unmet_known {g = g} r e h v n u d =
      rw e (answered a n (clauses_of v g) r (unmet_at v g r (rw u at h) (λ q. d (u ∙ q ∙ ap (value_of a) (sym e)))))
