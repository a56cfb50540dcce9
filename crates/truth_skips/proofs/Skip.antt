-- Where a row of Q's table has nothing beyond the row before, it is true only where that one is; so is each row up to the next that
-- has more, and none of them adds anything to a chop once the first of them is added.
use mathlib.Core.Path.{◌≡◌, refl, sym, ap, ap₂, ◌∙◌, subst}
use mathlib.Core.Logic.{⊎_elim}
use mathlib.Core.Bool.{Bool, true, false, cond, false≢true}
use mathlib.Core.List.{List}
use Prim.Native.Nat.{ℕ, suc, ◌+◌, ◌-◌, ◌≤◌, ◌<◌}
use native.Mathlib.Nat.{eq-or-lt_of_le}
use native.Mathlib.Numerals.{add-one}
use native.Mathlib.Omega.{arith}
use lib.Bits.{bit_and, bit_or, bit_xor, or_add_and, and_le_l, and_le_r}
use lib.Dec.{eqb, ltb}
use lib.ListN.{length, get_or, take, drop, set, length-set, replicate, length-replicate, get_or-replicate}
use lib.Seq.{get_or-set_same, get_or-set_other}
use borrow.Rule.Slice.PartMut.{mid_len}
use borrow.Author.Count.{below_more}
use borrow.Author.Tests.{eqb-true, ltb-true, ltb-false}
use Rattle.interval.specs.Limits.{max_steps}
use Rattle.interval.specs.Places.{count_of}
use Rattle.interval.specs.Rows.{start_of}
use Rattle.interval.specs.declared.Interval.{Interval}
use Rattle.interval.proofs.Rows.{row_next}
use Rattle.paper_meaning.specs.Meaning.{bit}
use Rattle.truth_table.specs.Table.{TableOf}
use Rattle.truth_skips.specs.Rows.{NextRows, Within}
use Rattle.truth_table.proofs.Rows.{row_ends, row_entry, part_entry}

-- nothing has been found beyond, up to d
abbrev pub NoneBeyond : List ℕ → List ℕ → ℕ → ℕ → Type 0
NoneBeyond row other d more = more ≡ 0 → (y : ℕ) → y < d → bit_and (get_or row y 0) (bit_xor (get_or other y 0) 1) ≡ 0

pub none_turn : (row other : List ℕ) (d n more a b : ℕ) → n ≡ d + 1 → a ≡ get_or row d 0 → b ≡ get_or other d 0 → NoneBeyond row other d more
    → NoneBeyond row other n (bit_or more (bit_and a (bit_xor b 1)))
none_turn row other d n more a b l p q w e =
    let x : ℕ = bit_and a (bit_xor b 1) in
    let m : more ≡ 0 = omega (arith, or_add_and more x, and_le_l more x, and_le_r more x) in
    let z : x ≡ 0 = omega (arith, or_add_and more x, and_le_l more x, and_le_r more x) in
    rw l (below_more (λ (y : ℕ). bit_and (get_or row y 0) (bit_xor (get_or other y 0) 1) ≡ 0) d (w m) (ap₂ (λ (a b : ℕ). bit_and a (bit_xor b 1)) (sym p) (sym q) ∙ z))

implied : (x y : Bool) → bit_and (bit x) (bit_xor (bit y) 1) ≡ 0 → x ≡ true → y ≡ true
implied true true e t = refl
implied true false e t = absurd (omega arith)
implied false y e t = absurd (false≢true t)

-- the rows from m on have their next ones; row m starts at `at`
pub record Skipping (k : ℕ) (q : List ℕ) (m at : ℕ) (nexts : List ℕ) : Type 0 where
  pub whole : length nexts ≡ suc max_steps
  pub turns : m ≤ k
  pub starts : at ≡ start_of k m
  pub row : at + (suc k - m) ≤ count_of k
  pub later : (l : ℕ) → m ≤ l → l ≤ k → (l < get_or nexts l 0) × (get_or nexts l 0 ≤ suc k)
  pub within : (g : Interval → Bool) → TableOf k g q → (l n j : ℕ) → m ≤ l → l < n → n < get_or nexts l 0 → n ≤ j → j ≤ k →
      g (record { i = n; j = j }) ≡ true → g (record { i = l; j = j }) ≡ true

pub skip_begun : (k at : ℕ) (q nexts : List ℕ) → k ≤ max_steps → at ≡ start_of k k → nexts ≡ replicate (suc max_steps) (k + 1) → Skipping k q k at nexts
skip_begun k at q nexts h e r = record {
  whole = ap length r ∙ length-replicate (suc max_steps) (k + 1);
  turns = omega arith;
  starts = e;
  row = omega (arith, row_ends k k (omega arith));
  later = λ l a b. (omega (arith, own l b), omega (arith, own l b));
  within = λ g Q l n j a b c d f t. absurd (omega (arith, own l (omega arith)));
}
  where
    own : (l : ℕ) → l ≤ k → get_or nexts l 0 ≡ k + 1
    own l a = ap (λ (s : List ℕ). get_or s l 0) r ∙ get_or-replicate (suc max_steps) l (k + 1) 0 (omega arith)

-- a row but the first has a row before it
pub row_before : (k m at : ℕ) (q nexts : List ℕ) → Skipping k q m at nexts → 0 < m → k - (m - 1) < at
row_before k m at q nexts w h =
    let e : m - 1 + 1 ≡ m = omega arith in
    omega (arith, w.starts, w.turns, row_next k (m - 1), ap (start_of k) e)

module _ (k p at before more : ℕ) (q nexts : List ℕ) (w : Skipping k q (suc p) at nexts) (h : k ≤ max_steps) (b : before ≡ at - (k - p))
    (none : more ≡ 0 → (d : ℕ) → d < k - p → bit_and (get_or q (at + d) 0) (bit_xor (get_or q (before + d) 0) 1) ≡ 0) where
  abbrev next : ℕ
  next = cond (eqb more 0) (get_or nexts (suc p) 0) (suc p)

  abbrev after : List ℕ
  after = set nexts p next

  last_start : start_of k p + suc (k - p) ≡ at
  last_start = omega (arith, w.starts, w.turns, row_next k p, ap (start_of k) (add-one p))

  own_next : get_or after p 0 ≡ next
  own_next = get_or-set_same nexts p next 0 (omega (arith, w.whole, w.turns))

  other_next : (l : ℕ) → p < l → get_or after l 0 ≡ get_or nexts l 0
  other_next l g = get_or-set_other nexts p l next 0 (λ o. omega arith)

  next_bounds : (c : Bool) → (p < cond c (get_or nexts (suc p) 0) (suc p)) × (cond c (get_or nexts (suc p) 0) (suc p) ≤ suc k)
  next_bounds true = let o = w.later (suc p) (omega arith) w.turns in (omega (arith, o.0), o.1)
  next_bounds false = (omega arith, omega (arith, w.turns))

  -- row p + 1 has nothing beyond row p
  step_within : more ≡ 0 → (g : Interval → Bool) → TableOf k g q → (j : ℕ) → suc p ≤ j → j ≤ k → g (record { i = suc p; j = j }) ≡ true → g (record { i = p; j = j }) ≡ true
  step_within e g Q j a c t =
      let d = j - suc p in
      let u : suc p + d ≡ j = omega arith in
      let v : p + suc d ≡ j = omega arith in
      let s : before + d ≡ start_of k p + suc d = omega (arith, last_start) in
      let x = ap (λ (b : ℕ). get_or q (b + d) 0) w.starts ∙ row_entry k g q Q (suc p) d (omega arith) ∙ ap (λ (j : ℕ). bit (g (record { i = suc p; j = j }))) u in
      let y = ap (λ (b : ℕ). get_or q b 0) s ∙ row_entry k g q Q p (suc d) (omega arith) ∙ ap (λ (j : ℕ). bit (g (record { i = p; j = j }))) v in
      implied (g (record { i = suc p; j = j })) (g (record { i = p; j = j })) (sym (ap₂ (λ (x y : ℕ). bit_and x (bit_xor y 1)) x y) ∙ none e d (omega arith)) t

  skip_turn : Skipping k q p (before - 1) after
  skip_turn = record {
    whole = length-set nexts p next ∙ w.whole;
    turns = omega (arith, w.turns);
    starts = omega (arith, last_start);
    row = omega (arith, last_start, row_ends k p (omega (arith, w.turns)));
    later = λ l a c. bounds l a c (ltb p l) refl;
    within = λ g Q l n j a c m d f t. inner g Q l n j a c m d f t (ltb p l) refl;
  }
    where
      bounds : (l : ℕ) → p ≤ l → l ≤ k → (c : Bool) → ltb p l ≡ c → (l < get_or after l 0) × (get_or after l 0 ≤ suc k)
      bounds l a b true e = let o = w.later l (ltb-true p l e) b in (omega (arith, o, other_next l (ltb-true p l e)), omega (arith, o, other_next l (ltb-true p l e)))
      bounds l a b false e =
          let m : p ≡ l = omega (arith, ltb-false p l e) in
          let o = next_bounds (eqb more 0) in
          subst (λ (l : ℕ). (l < get_or after l 0) × (get_or after l 0 ≤ suc k)) m (omega (arith, o, own_next), omega (arith, o, own_next))

      from_next : (c : Bool) → eqb more 0 ≡ c → (g : Interval → Bool) → TableOf k g q → (n j : ℕ) → p < n → n < cond c (get_or nexts (suc p) 0) (suc p) → n ≤ j → j ≤ k
          → g (record { i = n; j = j }) ≡ true → g (record { i = p; j = j }) ≡ true
      from_next false e g Q n j a m d f t = absurd (omega arith)
      from_next true e g Q n j a m d f t = step_within (eqb-true more 0 e) g Q j (omega arith) f (⊎_elim (λ (u : suc p ≡ n). subst (λ (n : ℕ). g (record { i = n; j = j }) ≡ true) (sym u) t)
          (λ (u : suc p < n). w.within g Q (suc p) n j (omega arith) u m d f t) (eq-or-lt_of_le a))

      inner : (g : Interval → Bool) → TableOf k g q → (l n j : ℕ) → p ≤ l → l < n → n < get_or after l 0 → n ≤ j → j ≤ k → g (record { i = n; j = j }) ≡ true
          → (c : Bool) → ltb p l ≡ c → g (record { i = l; j = j }) ≡ true
      inner g Q l n j a b m d f t true e = w.within g Q l n j (ltb-true p l e) b (omega (arith, other_next l (ltb-true p l e))) d f t
      inner g Q l n j a b m d f t false e =
          let o : p ≡ l = omega (arith, ltb-false p l e) in
          let z : n < next = omega (arith, own_next, ap (λ (l : ℕ). get_or after l 0) o) in
          subst (λ (l : ℕ). g (record { i = l; j = j }) ≡ true) o (from_next (eqb more 0) refl g Q n j (omega arith) z d f t)

-- the same as the code has it: row m, and what it has beyond the row before
pub skip_code : (k m at before end more : ℕ) (q nexts : List ℕ) (v : ℕ) → 0 < m → k ≤ max_steps → count_of k ≤ length q → before ≡ at - (k - (m - 1)) → end ≡ at + (k - (m - 1))
    → (more ≡ 0 → (d : ℕ) → d < length (take (end - at) (drop at q)) → bit_and (get_or (take (end - at) (drop at q)) d 0) (bit_xor (get_or (take (at - before) (drop before q)) d 0) 1) ≡ 0)
    → Skipping k q m at nexts → v ≡ cond (eqb more 0) (get_or nexts (m - 1 + 1) 0) (m - 1 + 1) → Skipping k q (m - 1) (before - 1) (set nexts (m - 1) v)
skip_code k m at before end more q nexts v g h c b r none w e =
    let p : ℕ = m - 1 in
    let n : m ≡ suc p = omega arith in
    let o : Skipping k q (suc p) at nexts = subst (λ (m : ℕ). Skipping k q m at nexts) n w in
    let u : v ≡ cond (eqb more 0) (get_or nexts (suc p) 0) (suc p) = e ∙ ap (λ (m : ℕ). cond (eqb more 0) (get_or nexts m 0) m) (add-one p) in
    subst (λ (v : ℕ). Skipping k q p (before - 1) (set nexts p v)) (sym u) (skip_turn k p at before more q nexts o h b (λ z d l.
    let room = row_before k (suc p) at q nexts o (omega arith) in
    let whole : length (take (end - at) (drop at q)) ≡ end - at = mid_len at end q (omega (arith, o.row, o.turns)) in
    sym (ap₂ (λ (x y : ℕ). bit_and x (bit_xor y 1)) (part_entry at (end - at) q d (omega arith)) (part_entry before (at - before) q d (omega arith))) ∙ none z d (omega arith)))

pub skip_done : (k m at : ℕ) (q nexts : List ℕ) → m ≡ 0 → Skipping k q m at nexts → NextRows k nexts × ((g : Interval → Bool) → TableOf k g q → Within k g nexts)
skip_done k m at q nexts z w = (
  record { later = λ l h. (w.later l (omega arith) h).0; most = λ l h. (w.later l (omega arith) h).1 },
  λ g Q. record { within = λ i l j a b c d t. w.within g Q i l j (omega arith) a b c d t },
)
