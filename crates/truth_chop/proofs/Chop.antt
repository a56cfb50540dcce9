-- Row i of a chop after d turns has, for each j, whether some of the first d m's serves. An m where P is false on [i, m] adds nothing;
-- where it is true, row m of Q's table is added, and the rows within that one add nothing after it.
use mathlib.Core.Path.{◌≡◌, refl, sym, ap, ap₂, ◌∙◌, subst}
use mathlib.Core.Bool.{Bool, true, false, ◌&&◌, ◌||◌, false≢true}
use mathlib.Core.List.{List}
use Prim.Native.Nat.{ℕ, zero, suc, ◌+◌, ◌-◌, ◌≤◌, ◌<◌, min}
use native.Mathlib.Omega.{arith}
use lib.Bits.{bit_or}
use lib.Dec.{ltb}
use lib.ListN.{length, get_or}
use borrow.Author.Tests.{ltb-true, ltb-false}
use borrow.Rule.Slice.PartMut.{mid_of, put_mid, mid_len}
use Rattle.interval.specs.Places.{count_of}
use Rattle.interval.specs.Rows.{start_of}
use Rattle.interval.specs.declared.Interval.{Interval}
use Rattle.lists.proofs.Tests.{both}
use Rattle.paper_meaning.specs.Meaning.{bit, any, chops}
use Rattle.paper_meaning.proofs.Laws.{some_one}
use Rattle.truth_table.specs.Table.{TableOf, RowOf}
use Rattle.truth_skips.specs.Rows.{NextRows, Within}
use Rattle.truth_table.proofs.Rows.{row_ends, row_entry, put_length, put_before, put_within, part_entry}

or_bits : (a b : Bool) → bit_or (bit a) (bit b) ≡ bit (a || b)
or_bits true true = refl
or_bits true false = refl
or_bits false true = refl
or_bits false false = refl

-- what adds nothing
or_absorbs : (a b : Bool) → (b ≡ true → a ≡ true) → a ≡ (a || b)
or_absorbs true b h = refl
or_absorbs false true h = h refl
or_absorbs false false h = refl

bit_zero : (b : Bool) → bit b ≡ 0 → b ≡ false
bit_zero true e = absurd (omega arith)
bit_zero false e = refl

bit_nonzero : (b : Bool) → (bit b ≡ 0 → ⊥) → b ≡ true
bit_nonzero true h = refl
bit_nonzero false h = absurd (h refl)

module _ (f g : Interval → Bool) (i : ℕ) where
  -- P on [i, m] and Q on [m, i + y]
  abbrev pub serves : ℕ → ℕ → Bool
  serves y m = f (record { i = i; j = m }) && g (record { i = m; j = i + y })

  -- whether some of the first c m's serves for [i, i + y]
  abbrev pub upto : ℕ → ℕ → ℕ
  upto y c = bit (any (serves y) i c)

  pub record ChoppedTo (d : ℕ) (row : List ℕ) : Type 0 where
    pub at : (y : ℕ) → y < length row → get_or row y 0 ≡ upto y (min d (suc y))

  chop_begun : (row : List ℕ) → ((y : ℕ) → y < length row → get_or row y 0 ≡ 0) → ChoppedTo 0 row
  unfolding any
  chop_begun row e = record { at = λ y h. e y h ∙ ap (upto y) (none y) }
    where
      none : (y : ℕ) → 0 ≡ min 0 (suc y)
      none y = omega arith

  chop_done : (d : ℕ) (row : List ℕ) → length row ≤ d → ChoppedTo d row → RowOf i (chops f g) row
  unfolding chops
  chop_done d row h w = record { at = λ y l. w.at y l ∙ ap (upto y) (all y l) }
    where
      all : (y : ℕ) → y < length row → min d (suc y) ≡ suc (i + y) - i
      all y l = omega arith

  -- the entries before d are done: no later m is theirs
  still : (d : ℕ) (row : List ℕ) (b : ℕ) → ChoppedTo d row → (y : ℕ) → y < d → y < length row → b ≡ get_or row y 0 → b ≡ upto y (min (d + 1) (suc y))
  still d row b w y h l e = let m : min d (suc y) ≡ min (d + 1) (suc y) = omega arith in e ∙ w.at y l ∙ ap (upto y) m

  one_more : (y d : ℕ) → d ≤ y → bit (any (serves y) i d || serves y (i + d)) ≡ upto y (min (d + 1) (suc y))
  unfolding any
  one_more y d h = let m : suc d ≡ min (d + 1) (suc y) = omega arith in ap (upto y) m

  before_it : (y d : ℕ) → d ≤ y → min d (suc y) ≡ d
  before_it y d h = omega arith

  -- an m that serves only where an earlier one does
  absorbed : (d : ℕ) (row : List ℕ) → ((y : ℕ) → d ≤ y → y < length row → serves y (i + d) ≡ true → any (serves y) i d ≡ true) → ChoppedTo d row → ChoppedTo (d + 1) row
  absorbed d row h w = record { at = λ y l. go y l (ltb y d) refl }
    where
      go : (y : ℕ) → y < length row → (c : Bool) → ltb y d ≡ c → get_or row y 0 ≡ upto y (min (d + 1) (suc y))
      go y l true e = still d row (get_or row y 0) w y (ltb-true y d e) l refl
      go y l false e =
          let m = ltb-false y d e in
          w.at y l ∙ ap (upto y) (before_it y d m) ∙ ap bit (or_absorbs (any (serves y) i d) (serves y (i + d)) (h y m l)) ∙ one_more y d m

  chop_no : (d : ℕ) (row : List ℕ) → f (record { i = i; j = i + d }) ≡ false → ChoppedTo d row → ChoppedTo (d + 1) row
  chop_no d row e w = absorbed d row (λ y h l t. absurd (false≢true (sym e ∙ (both _ _ t).0))) w

  module _ (k d : ℕ) (q : List ℕ) (Q : TableOf k g q) (t : f (record { i = i; j = i + d }) ≡ true) (m : i + d ≤ k) where
    -- row i + d of Q's table is added
    module _ (row tail : List ℕ) (n : length row ≡ suc k - i) (l : length tail ≡ length row - d)
        (o : (z : ℕ) → z < length row - d → get_or tail z 0 ≡ bit_or (get_or row (d + z) 0) (get_or q (start_of k (i + d) + z) 0)) (w : ChoppedTo d row) where
      abbrev after : List ℕ
      after = put_mid d (length row - d) row tail

      later : (z : ℕ) → z < length row - d → get_or after (d + z) 0 ≡ upto (d + z) (min (d + 1) (suc (d + z)))
      later z h =
          let v : i + d + z ≡ i + (d + z) = omega arith in
          put_within d (length row - d) row tail (omega arith) l z h ∙ o z h
          ∙ ap₂ bit_or (w.at (d + z) (omega arith) ∙ ap (upto (d + z)) (before_it (d + z) d (omega arith)))
          (row_entry k g q Q (i + d) z (omega arith) ∙ ap (λ (j : ℕ). bit (g (record { i = i + d; j = j }))) v ∙
          sym (ap (λ (b : Bool). bit (b && g (record { i = i + d; j = i + (d + z) }))) t))
          ∙ or_bits (any (serves (d + z)) i d) (serves (d + z) (i + d)) ∙ one_more (d + z) d (omega arith)

      chop_yes : ChoppedTo (d + 1) after
      chop_yes = record { at = λ y h. go y (omega (arith, put_length d (length row - d) row tail (omega arith) l)) (ltb y d) refl }
        where
          go : (y : ℕ) → y < length row → (c : Bool) → ltb y d ≡ c → get_or after y 0 ≡ upto y (min (d + 1) (suc y))
          go y h true e = still d row (get_or after y 0) w y (ltb-true y d e) h (put_before d (length row - d) row tail (omega arith) l y (ltb-true y d e))
          go y h false e =
              let u : d + (y - d) ≡ y = omega (arith, ltb-false y d e) in
              subst (λ (y : ℕ). get_or after y 0 ≡ upto y (min (d + 1) (suc y))) u (later (y - d) (omega (arith, ltb-false y d e)))

    -- and the rows within it add nothing
    module _ (nexts : List ℕ) (W : Within k g nexts) (row : List ℕ) (n : length row ≡ suc k - i) where
      inside : (e : ℕ) → d < e → i + e < get_or nexts (i + d) 0 → (y : ℕ) → e ≤ y → y < length row → serves y (i + e) ≡ true → any (serves y) i e ≡ true
      inside e a b y h l s =
          let r = W.within (i + d) (i + e) (i + y) (omega arith) b (omega arith) (omega arith) (both (f (record { i = i; j = i + e })) _ s).1 in
          (some_one (serves y) i e).1 (i + d, omega arith, omega arith, ap₂ ◌&&◌ t r)

      chop_skip : (c e : ℕ) → e ≡ d + 1 + c → i + e ≤ get_or nexts (i + d) 0 → ChoppedTo (d + 1) row → ChoppedTo e row
      chop_skip zero e u b w = let v : d + 1 ≡ e = omega arith in subst (λ (e : ℕ). ChoppedTo e row) v w
      chop_skip (suc c) e u b w =
          let v : d + 1 + c + 1 ≡ e = omega arith in
          subst (λ (e : ℕ). ChoppedTo e row) v (absorbed (d + 1 + c) row (inside (d + 1 + c) (omega arith) (omega arith)) (chop_skip c (d + 1 + c) refl (omega arith) w))

-- where the turns of row i stand: the first d m's are done
pub record Chopping (k i start : ℕ) (p q nexts : List ℕ) (d : ℕ) (row : List ℕ) : Type 0 where
  pub turns : d ≤ suc k - i
  pub whole : length row ≡ suc k - i
  pub own_row : start + (suc k - i) ≤ count_of k
  pub starts : start ≡ start_of k i
  pub chopped : (f g : Interval → Bool) → TableOf k f p → TableOf k g q → Within k g nexts → ChoppedTo f g i d row

module _ (k i start : ℕ) (p q nexts : List ℕ) where
  pub begun : (row : List ℕ) → i ≤ k → start ≡ start_of k i → length row ≡ suc k - i → ((y : ℕ) → y < length row → get_or row y 0 ≡ 0) → Chopping k i start p q nexts 0 row
  begun row h e n z = record {
    turns = omega arith;
    whole = n;
    own_row = omega (arith, row_ends k i (omega arith));
    starts = e;
    chopped = λ f g P Q W. chop_begun f g i row z;
  }

  own_truth : (d : ℕ) (f : Interval → Bool) → TableOf k f p → start ≡ start_of k i → i + d ≤ k → get_or p (start + d) 0 ≡ bit (f (record { i = i; j = i + d }))
  own_truth d f P e h = ap (λ (s : ℕ). get_or p (s + d) 0) e ∙ row_entry k f p P i d h

  pub turn_no : (d : ℕ) (row : List ℕ) → Chopping k i start p q nexts d row → d < suc k - i → get_or p (start + d) 0 ≡ 0 → Chopping k i start p q nexts (d + 1) row
  turn_no d row w h z = record {
    turns = omega arith;
    whole = w.whole;
    own_row = w.own_row;
    starts = w.starts;
    chopped = λ f g P Q W. chop_no f g i d row (bit_zero _ (sym (own_truth d f P w.starts (omega arith)) ∙ z)) (w.chopped f g P Q W);
  }

  pub turn_yes : (d at end : ℕ) (row tail : List ℕ) → Chopping k i start p q nexts d row → d < suc k - i → (get_or p (start + d) 0 ≡ 0 → ⊥) → NextRows k nexts
      → at ≡ start_of k (i + d) → end ≡ at + (suc k - (i + d)) → length tail ≡ length (mid_of d (length row - d) row)
      → ((z : ℕ) → z < length (mid_of d (length row - d) row) → get_or tail z 0 ≡ bit_or (get_or (mid_of d (length row - d) row) z 0) (get_or (mid_of at (end - at) q) z 0))
      → Chopping k i start p q nexts (get_or nexts (i + d) 0 - i) (put_mid d (length row - d) row tail)
  turn_yes d at end row tail w h z N a b n t =
      let m : length (mid_of d (length row - d) row) ≡ length row - d = mid_len d (length row) row (omega arith) in
      let inside : i + d ≤ k = omega arith in
      let later = N.later (i + d) inside in
      let most = N.most (i + d) inside in
      let whole = put_length d (length row - d) row tail (omega (arith, w.whole)) (n ∙ m) ∙ w.whole in
      let c : get_or nexts (i + d) 0 - i ≡ d + 1 + (get_or nexts (i + d) 0 - i - (d + 1)) = omega arith in
      record {
        turns = omega arith;
        whole = whole;
        own_row = w.own_row;
        starts = w.starts;
        chopped = λ f g P Q W.
            let yes = bit_nonzero _ (λ e. z (own_truth d f P w.starts inside ∙ e)) in
            chop_skip f g i k d q Q yes inside nexts W (put_mid d (length row - d) row tail) whole _ _ c (omega arith)
            (chop_yes f g i k d q Q yes inside row tail w.whole (n ∙ m)
            (λ y l. t y (omega arith) ∙ ap₂ bit_or (part_entry d (length row - d) row y l)
            (part_entry at (end - at) q y (omega arith) ∙ ap (λ (s : ℕ). get_or q (s + y) 0) a)) (w.chopped f g P Q W));
      }

  pub done : (d : ℕ) (row : List ℕ) → Chopping k i start p q nexts d row → suc k - i ≤ d → (f g : Interval → Bool) → TableOf k f p →
      TableOf k g q → Within k g nexts → RowOf i (chops f g) row
  done d row w h f g P Q W = chop_done f g i d row (omega (arith, w.whole)) (w.chopped f g P Q W)
