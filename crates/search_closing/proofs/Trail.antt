-- Taking back the trail's variables from a place on takes back those of a later place first, so what grew twice grew. A variable that had
-- no value and got one is taken back to none, which is what it was.
use mathlib.Core.Path.{◌≡◌, refl, sym, ap, ◌∙◌}
use mathlib.Core.Bool.{false}
use mathlib.Core.List.{List, [], ◌∷◌, ◌++◌}
use Prim.Native.Nat.{ℕ, zero, suc, ◌+◌, ◌-◌, ◌≤◌, ◌<◌}
use native.Mathlib.Decide.{dec_lt}
use native.Mathlib.Omega.{arith}
use lib.Dec.{eqb}
use lib.ListN.{length, get_or, set, take, length-set, length-append}
use lib.Seq.{get_or-set_same, set-get_or, set-set, take-set-le, get_or-take, take-take}
use borrow.Author.Tests.{ne_eqb}
use Rattle.std.proofs.lemmas.List.{get_or_append_left, get_or_at}
use Rattle.paper_closure.proofs.Sets.{either_way}
use Rattle.search_closing.specs.Values.{held_count, Trailing, undone, Grown}

-- ---- what is taken back

module _ (trail : List ℕ) where
  undone_split : (at n m : ℕ) (values : List ℕ) → undone trail at (n + m) values ≡ undone trail at n (undone trail (at + n) m values)
  unfolding undone
  undone_split at zero m values = let e : at ≡ at + 0 = omega arith in let f : 0 + m ≡ m = omega arith in rw (f, ← e)
  undone_split at (suc n) m values =
      let e : at + suc n ≡ suc at + n = omega arith in let f : suc n + m ≡ suc (n + m) = omega arith in rw (e, f, undone_split (suc at) n m values)

  pub undone_none : (at n : ℕ) (values : List ℕ) → n ≡ 0 → undone trail at n values ≡ values
  unfolding undone
  undone_none at n values e = rw e

  -- the last is taken back first
  pub undone_last : (from n x : ℕ) (values : List ℕ) → x + 1 ≡ get_or trail (from + n) 0 → undone trail from n (set values x 0) ≡ undone trail from (n + 1) values
  unfolding undone
  undone_last from n x values e = let y : x ≡ get_or trail (from + n) 0 - 1 = omega arith in rw (undone_split from n 1 values, y)

  length_undone : (at n : ℕ) (values : List ℕ) → length (undone trail at n values) ≡ length values
  unfolding undone
  length_undone at zero values = refl
  length_undone at (suc n) values = length-set (undone trail (suc at) n values) (get_or trail at 0 - 1) 0 ∙ length_undone (suc at) n values

-- what is left without its last
pub but_last : (trail s : List ℕ) (from : ℕ) {rest : List ℕ} {x : ℕ} → rest ≡ s ++ x ∷ [] → ((j : ℕ) → j < length rest → get_or rest j 0 ≡ get_or trail (from + j) 0)
    → (length rest ≡ length s + 1) × ((j : ℕ) → j < length s → get_or s j 0 ≡ get_or trail (from + j) 0) × (x ≡ get_or trail (from + length s) 0)
but_last trail s from {rest} {x} e h =
    let n : length rest ≡ length s + 1 = ap length e ∙ length-append s (x ∷ []) in (
      n,
      (λ j l. sym (get_or_append_left s (x ∷ []) 0 j l) ∙ ap (λ (l : List ℕ). get_or l j 0) (sym e) ∙ h j (omega arith)),
      sym (get_or_at s x [] 0 (length s) refl) ∙ ap (λ (l : List ℕ). get_or l (length s) 0) (sym e) ∙ h (length s) (omega arith),
    )

-- only those places of the trail matter
undone_agree : (t u : List ℕ) (at n : ℕ) (values : List ℕ) → ((j : ℕ) → j < at + n → get_or t j 0 ≡ get_or u j 0) → undone t at n values ≡ undone u at n values
unfolding undone
undone_agree t u at zero values h = refl
undone_agree t u at (suc n) values h = rw (h at (omega arith), undone_agree t u (suc at) n values (λ j l. h j (omega arith)))

-- ---- values that are not 0

pub held_le : (values : List ℕ) → held_count values ≤ length values
unfolding held_count
held_le [] = omega arith
held_le (y ∷ values) = either_way (eqb y 0) (λ e. rw e (omega (arith, held_le values))) (λ e. rw e (omega (arith, held_le values)))

held_more : (values : List ℕ) (x w : ℕ) → x < length values → get_or values x 0 ≡ 0 → 1 ≤ w → held_count (set values x w) ≡ held_count values + 1
unfolding held_count
held_more [] x w h e l = absurd (omega arith)
held_more (y ∷ values) zero w h e l = let n : eqb w 0 ≡ false = ne_eqb w 0 (λ z. absurd (omega arith)) in rw (n, e) (omega arith)
held_more (y ∷ values) (suc x) w h e l = omega (arith, held_more values x w (omega arith) e l)

small_set : (values : List ℕ) (x w : ℕ) → w ≤ 2 → ((y : ℕ) → get_or values y 0 ≤ 2) → (y : ℕ) → get_or (set values x w) y 0 ≤ 2
small_set [] x w l f y = f y
small_set (z ∷ values) zero w l f zero = l
small_set (z ∷ values) zero w l f (suc y) = f (suc y)
small_set (z ∷ values) (suc x) w l f zero = f zero
small_set (z ∷ values) (suc x) w l f (suc y) = small_set values x w l (λ k. f (suc k)) y

-- ---- one variable more, and some and then some more

pub grown_none : {values trail : List ℕ} {top : ℕ} → Trailing values trail top → Grown values trail top values trail top
grown_none {values} {trail} {top} t = record {
  trailing = t;
  more = omega arith;
  same = refl;
  ranged = record { each = λ j l m. absurd (omega arith) };
  back = undone_none trail top (top - top) values (omega arith);
}

module _ {values trail : List ℕ} {top : ℕ} (t : Trailing values trail top) (x : ℕ) (i : x < length values) (e : get_or values x 0 ≡ 0) where
  pub trail_room : top < length trail
  trail_room = omega (arith, t.full, t.room, held_more values x 1 i e (omega arith), held_le (set values x 1), length-set values x 1)

  pub grown_one : (w : ℕ) → 1 ≤ w → w ≤ 2 → Grown values trail top (set values x w) (set trail top (x + 1)) (top + 1)
  unfolding undone
  grown_one w l m = record {
    trailing = record {
      small = small_set values x w m t.small;
      full = held_more values x w i e l ∙ ap (λ (n : ℕ). n + 1) t.full;
      room = simp length-set t.room;
      few = simp length-set t.few;
    };
    more = omega arith;
    same = take-set-le top trail top (x + 1) (omega arith);
    ranged = record { each = λ j a b. let s : j ≡ top = omega arith in rw (s, here, length-set values x w) (omega arith, omega arith) };
    back = let s : top + 1 - top ≡ 1 = omega arith in let y : x + 1 - 1 ≡ x = omega arith in rw (s, here, y, set-set) was;
  }
    where
      here : get_or (set trail top (x + 1)) top 0 ≡ x + 1
      here = get_or-set_same trail top (x + 1) 0 trail_room

      was : set values x 0 ≡ values
      was = ap (set values x) (sym e) ∙ set-get_or values x 0

module _ {v₀ t₀ values trail : List ℕ} {top₀ top : ℕ} (g : Grown v₀ t₀ top₀ values trail top) where
  pub grown_length : length values ≡ length v₀
  grown_length = sym (length_undone trail top₀ (top - top₀) values) ∙ ap length g.back

  pub grown_same : top ≡ top₀ → values ≡ v₀
  grown_same e = sym (undone_none trail top₀ (top - top₀) values (omega arith)) ∙ g.back

  pub grown_more : {w t : List ℕ} {n : ℕ} → Grown values trail top w t n → Grown v₀ t₀ top₀ w t n
  grown_more {w} {t} {n} h = record {
    trailing = h.trailing;
    more = omega (arith, g.more, h.more);
    same = sym (take-take top₀ top t g.more) ∙ ap (take top₀) h.same ∙ take-take top₀ top trail g.more ∙ g.same;
    ranged = record { each = λ j a b. go j a b (dec_lt j top) };
    back =
        rw (splits, undone_split t top₀ (top - top₀) (n - top) w, joins, h.back)
        (undone_agree t trail top₀ (top - top₀) values (λ j l. agree j (omega (arith, g.more))) ∙ g.back);
  }
    where
      agree : (j : ℕ) → j < top → get_or t j 0 ≡ get_or trail j 0
      agree j l = sym (get_or-take top t j 0 l) ∙ ap (λ (s : List ℕ). get_or s j 0) h.same ∙ get_or-take top trail j 0 l

      splits : n - top₀ ≡ top - top₀ + (n - top)
      splits = omega (arith, g.more, h.more)

      joins : top₀ + (top - top₀) ≡ top
      joins = omega (arith, g.more)

      go : (j : ℕ) → top₀ ≤ j → j < n → Dec (j < top) → (1 ≤ get_or t j 0) × (get_or t j 0 ≤ length w)
      go j a b (yes l) = rw (agree j l, sym (length_undone t top (n - top) w) ∙ ap length h.back) (g.ranged.each j a l)
      go j a b (no l) = h.ranged.each j (omega arith) b
