-- Two recordings are compared by their channel values, which are a recording's channels in the order of the variables. So where two
-- assignments first differ, their recordings do; and recordings whose channels are all alike are the same.
use mathlib.Core.Path.{◌≡◌, refl, sym, ap, ◌∙◌}
use mathlib.Core.Logic.{◌⊎◌, inl, inr, ⊎_elim, ◌≢◌}
use mathlib.Core.Bool.{true, false, false≢true}
use mathlib.Core.List.{List, [], ◌∷◌}
use Prim.Native.Nat.{ℕ, zero, suc, ◌+◌, ◌-◌, ◌*◌, ◌^◌, ◌≤◌, ◌<◌}
use native.Mathlib.Decide.{ℕ_discrete, dec_lt}
use native.Mathlib.Omega.{arith}
use lib.Arith.{lt_of_le-ne, digits_lt}
use lib.Dec.{eqb}
use lib.ListN.{length, get_or}
use borrow.Author.Tests.{eq-eqb, ne_eqb, lt-ltb, le-ltb, ltb-true}
use Rattle.lists.specs.Listing.{tab}
use Rattle.lists.proofs.Listing.{length_tab, get_or_tab}
use Rattle.paper_meaning.proofs.Words.{high_bit}
use Rattle.paper_meaning.specs.Meaning.{bit, channel_at}
use Rattle.paper_circuit.specs.Gates.{Assignment}
use Rattle.paper_circuit.specs.Circuit.{channel_of}
use Rattle.paper_circuit.proofs.Blocks.{From}
use Rattle.paper_meaning.specs.Recording.{EachBelow}
use Rattle.paper_assignments.specs.Extension.{value_in, channel_values, recording_by}
use Rattle.paper_assignments.proofs.Values.{alike_at, channels_length}
use Rattle.paper_assignments.proofs.Only.{each_channel}
use Rattle.paper_assignments.proofs.Recordings.{recording_channels, recording_only}
use Rattle.paper_closure.proofs.Means.{Order, same, earlier}
use Rattle.paper_search.specs.Search as search
use Rattle.paper_search.specs.Search.{low_first}

first_difference : (xs ys : List ℕ) (i : ℕ) → i < length xs → i < length ys → ((j : ℕ) → j < i → get_or xs j 0 ≡ get_or ys j 0) → get_or xs i 0 < get_or ys i 0
    → low_first xs ys ≡ true
unfolding low_first
first_difference [] ys i h g s l = absurd (omega arith)
first_difference (x ∷ xs) [] i h g s l = absurd (omega arith)
first_difference (x ∷ xs) (y ∷ ys) zero h g s l = rw (ne_eqb x y (λ e. absurd (omega arith)), low_first) (lt-ltb x y l)
first_difference (x ∷ xs) (y ∷ ys) (suc i) h g s l =
    rw (eq-eqb x y (s 0 (omega arith)), low_first) (first_difference xs ys i (omega arith) (omega arith) (λ j p. s (suc j) (omega arith)) l)

-- ---- the order is one: of two lists at most one comes first, and of two that are as long and differ one does

one_way : (xs ys : List ℕ) → low_first xs ys ≡ true → low_first ys xs ≡ false
unfolding low_first
one_way [] ys h = absurd (false≢true h)
one_way (x ∷ xs) [] h = absurd (false≢true h)
one_way (x ∷ xs) (y ∷ ys) h = go (one_way xs ys) (ℕ_discrete x y) h
  where
    go : (low_first xs ys ≡ true → low_first ys xs ≡ false) → Dec (x ≡ y) → low_first (x ∷ xs) (y ∷ ys) ≡ true → low_first (y ∷ ys) (x ∷ xs) ≡ false
    go ih (yes e) h = rw (eq-eqb y x (sym e), low_first) (ih (rw (eq-eqb x y e, low_first) at h))
    go ih (no n) h = rw (ne_eqb y x (λ e. n (sym e)), low_first) (le-ltb y x (omega (arith, ltb-true x y (rw (ne_eqb x y n, low_first) at h))))

either_first : (xs ys : List ℕ) → length xs ≡ length ys → (xs ≡ ys) ⊎ ((low_first xs ys ≡ true) ⊎ (low_first ys xs ≡ true))
unfolding low_first
either_first [] [] h = inl refl
either_first [] (y ∷ ys) h = absurd (omega arith)
either_first (x ∷ xs) [] h = absurd (omega arith)
either_first (x ∷ xs) (y ∷ ys) h = go (ℕ_discrete x y) (dec_lt x y) (either_first xs ys (omega arith))
  where
    go : Dec (x ≡ y) → Dec (x < y) → (xs ≡ ys) ⊎ ((low_first xs ys ≡ true) ⊎ (low_first ys xs ≡ true))
        → (x ∷ xs ≡ y ∷ ys) ⊎ ((low_first (x ∷ xs) (y ∷ ys) ≡ true) ⊎ (low_first (y ∷ ys) (x ∷ xs) ≡ true))
    go (yes e) d (inl f) = inl (λ i. e i ∷ f i)
    go (yes e) d (inr (inl l)) = inr (inl (rw (eq-eqb x y e, low_first) l))
    go (yes e) d (inr (inr l)) = inr (inr (rw (eq-eqb y x (sym e), low_first) l))
    go (no n) (yes l) s = inr (inl (rw (ne_eqb x y n, low_first) (lt-ltb x y l)))
    go (no n) (no g) s = inr (inr (rw (ne_eqb y x (λ e. n (sym e)), low_first) (lt-ltb y x (lt_of_le-ne (omega arith) (λ e. n (sym e))))))

-- ---- channel values

-- channel c at instant t is one of the first k·C variables
channel_to : (C k t c : ℕ) → t < k → c < C → channel_of C t c ≤ k * C
channel_to C k t c h l = omega (arith, digits_lt {q = t} {m = k} {r = c} {c = C} h l)

module _ (C k : ℕ) where
  -- the value of channel c at instant t
  value_of : (r : List ℕ) (t c : ℕ) → t < k → c < C → get_or (channel_values C k r) (channel_of C t c - 1) 0 ≡ bit (channel_at r c t)
  unfolding channel_values
  value_of r t c h l =
      let e : channel_of C t c - 1 ≡ t * C + c = omega arith in
      rw e (alike_at C (λ t. tab C (λ c. bit (channel_at r c t))) (λ t. length_tab C _) k t c 0 h l ∙ get_or_tab C _ c 0 l)

  -- the values of a recording's channels, by an assignment that has them
  listed : (r : List ℕ) (a : Assignment) → ((t c : ℕ) → t < k → c < C → a (channel_of C t c) ≡ channel_at r c t)
      → (v : ℕ) → From 1 (k * C) v → get_or (channel_values C k r) (v - 1) 0 ≡ bit (a v)
  listed r a s =
      each_channel C k (λ v. get_or (channel_values C k r) (v - 1) 0 ≡ bit (a v)) (λ t c h l. value_of r t c h l ∙ ap bit (sym (s t c h l)))

  -- they tell the recording
  value_back : (r : List ℕ) → length r ≡ k → EachBelow (2 ^ C) r → recording_by C k (value_in (channel_values C k r)) ≡ r
  unfolding value_in
  value_back r e h = recording_only C k (value_in (channel_values C k r)) r e h (λ t c o l. ap (λ n. eqb n 1) (value_of r t c o l) ∙ high_bit (channel_at r c t))

  pub order_one_way : (r s : List ℕ) → search.earlier C k r s ≡ true → search.earlier C k s r ≡ false
  order_one_way r s h = unfold search.earlier in one_way (channel_values C k r) (channel_values C k s) h

  pub order_either : (r s : List ℕ) → length r ≡ k → EachBelow (2 ^ C) r → length s ≡ k → EachBelow (2 ^ C) s → r ≢ s
      → (search.earlier C k r s ≡ true) ⊎ (search.earlier C k s r ≡ true)
  order_either r s e g f h n = unfold search.earlier in
      ⊎_elim (λ q. absurd (n (sym (value_back r e g) ∙ ap (λ (l : List ℕ). recording_by C k (value_in l)) q ∙ value_back s f h))) (λ d. d)
      (either_first (channel_values C k r) (channel_values C k s) (channels_length C k r ∙ sym (channels_length C k s)))

  module _ (a b : Assignment) (s : List ℕ) (e : length s ≡ k) (h : EachBelow (2 ^ C) s) (g : (t c : ℕ) → t < k → c < C → b (channel_of C t c) ≡ channel_at s c t) where
    -- the recording of an assignment that is low where it first differs from another comes before the other's
    pub first_comes : Order (k * C) a b → s ≢ recording_by C k a → search.earlier C k (recording_by C k a) s ≡ true
    first_comes (same f) n = absurd (n (sym (recording_only C k a s e h (λ t c o l. f (channel_of C t c) (omega arith) (channel_to C k t c o l) ∙ g t c o l))))
    first_comes (earlier v from to below low high) n = unfold search.earlier in
        let r = recording_by C k a in
        let x : (u : ℕ) → From 1 (k * C) u → get_or (channel_values C k r) (u - 1) 0 ≡ bit (a u) = listed r a (λ t c o l. sym (recording_channels C k a t c o l)) in
        let y : (u : ℕ) → From 1 (k * C) u → get_or (channel_values C k s) (u - 1) 0 ≡ bit (b u) = listed s b g in
        first_difference (channel_values C k r) (channel_values C k s) (v - 1) (omega (arith, channels_length C k r)) (omega (arith, channels_length C k s))
        (λ j l. let p : j ≡ suc j - 1 = omega arith in
        ap (λ j. get_or (channel_values C k r) j 0) p ∙ x (suc j) (omega arith) ∙ ap bit (below (suc j) (omega arith) (omega arith)) ∙
        sym (y (suc j) (omega arith)) ∙ ap (λ j. get_or (channel_values C k s) j 0) (sym p))
        (rw (x v (omega arith), y v (omega arith), low, high) (omega arith))
