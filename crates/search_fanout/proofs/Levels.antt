-- A duration and `[S]`: a level's variable is an input of the next longer interval's gate on its level and on the level above, and S at
-- instant t of the gates of all intervals that end a step later. A gate of another place mentions neither.
use mathlib.Core.Path.{◌≡◌, refl, sym, ap, ap₂, ◌∙◌, subst}
use mathlib.Core.Logic.{◌⊎◌, inl, inr}
use mathlib.Core.Bool.{false}
use Prim.Native.Nat.{ℕ, zero, suc, ◌+◌, ◌-◌, ◌*◌, ◌≤◌, ◌<◌}
use native.Mathlib.Omega.{arith}
use lib.Dec.{eqb, ltb}
use borrow.Author.Tests.{eqb-true, eqb-false, lt-ltb, ltb-true}
use Rattle.lists.proofs.Tests.{cond_elim}
use Rattle.lists.specs.Listing.{sum}
use Rattle.interval.specs.Places.{count_of}
use Rattle.interval.proofs.Shape.{Shape, Entry, Inside, count, place, place_lt}
use Rattle.interval.proofs.Counts.{intervals_count}
use Rattle.paper_circuit.specs.declared.Gate.{Gate}
use Rattle.table_blocks.specs.Blocks.{shape_of, throughout_by, level_by, Placed}
use Rattle.table_blocks.specs.declared.Block.{Block}
use Rattle.table_blocks.specs.declared.Position.{Position}
use Rattle.table_blocks.specs.declared.Rule.{Rule}
use Rattle.table_blocks.specs.declared.Rule.TheVariants.{Duration, Throughout}
use Rattle.search_fanout.specs.Fanout.{node_clauses, Laid, Levels, Rising}
use Rattle.search_fanout.specs.Walks.{Apart, after_count, after_place, after_clauses, instant_place, instant_clauses}
use Rattle.search_fanout.proofs.Named.{Inputs, Mention}
use Rattle.search_fanout.proofs.Cover.{Suffices}
use Rattle.search_fanout.proofs.Fine.{ruled, one_entry, interval_same, level_place, level_count, Hit, HitTwo, some_places, more_places}

-- how the gate on level a of the interval of d steps from i on, in place y of the block from f on, mentions u, S from l on; gates of levels
-- below the first, z, are constants
pub data Uses (k u f l z y a i d : ℕ) : Type 0 where
  own : u ≡ f + y → Uses k u f l z y a i d
  shorter : 1 ≤ d → u ≡ f + (y - 1) → Uses k u f l z y a i d
  below : 1 ≤ d → 1 ≤ a → u ≡ f + (y - 1 - count_of k) → Uses k u f l z y a i d
  instant : 1 ≤ d → z ≤ a → u ≡ l + (i + (d - 1)) → Uses k u f l z y a i d

module _ (k u f l y a i d : ℕ) where
  some : {n : ℕ} → eqb n 0 ≡ false → 1 ≤ n
  some {n} e = omega (arith, eqb-false n 0 e)

  level_uses : Mention u (f + y) (level_by k f l y a i d) → Uses k u f l 1 y a i d
  level_uses (inl e) = own e
  level_uses (inr m) =
      cond_elim (λ (g : Gate). Inputs u g → Uses k u f l 1 y a i d) (eqb a 0) (λ _ m. absurd m)
      (λ v m. cond_elim (λ (g : Gate). Inputs u g → Uses k u f l 1 y a i d) (eqb d 0) (λ _ m. absurd m) (λ w m. go (some v) (some w) m) m) m
    where
      go : 1 ≤ a → 1 ≤ d → (u ≡ f + (y - 1)) ⊎ ((u ≡ f + (y - 1 - count_of k)) ⊎ (u ≡ l + (i + (d - 1)))) → Uses k u f l 1 y a i d
      go v w (inl e) = shorter w e
      go v w (inr (inl e)) = below w v e
      go v w (inr (inr e)) = instant w v e

  all_uses : Mention u (f + y) (throughout_by (f + y) l i d) → d ≤ y → Uses k u f l 0 y a i d
  all_uses (inl e) h = own e
  all_uses (inr m) h =
      cond_elim Used (eqb d 0) (λ _ m. absurd m)
      (λ v m. cond_elim Used (eqb d 1) (λ w m. instant (some v) (omega arith) (omega (arith, m, eqb-true d 1 w))) (λ w m. go (some v) m) m) m
    where
      Used : Gate → Type 0
      Used g = Inputs u g → Uses k u f l 0 y a i d

      go : 1 ≤ d → (u ≡ f + y - 1) ⊎ (u ≡ l + (i + (d - 1))) → Uses k u f l 0 y a i d
      go w (inl e) = shorter w (omega arith)
      go w (inr e) = instant w (omega arith) e

-- ---- places of n levels and the lowest

module _ (k points n : ℕ) where
  abbrev levels : Shape
  levels = shape_of points k (Duration n)

  -- a level up
  upper_place : (c a i d : ℕ) → a ≡ suc c → place levels (a, (i, d)) ≡ place levels (c, (i, d)) + count_of k
  unfolding sum
  upper_place c a i d e = omega (arith, intervals_count k, ap (λ a. place levels (a, (i, d))) e)

  -- ---- the block's own variable in place x, which is that of p

  module _ (p : Position) (x : ℕ) (o : Inside levels (p.row, (p.line, p.cell))) (e : x ≡ place levels (p.row, (p.line, p.cell))) where
    one_after : 0 < after_count k n p
    one_after = cond_elim (λ m. 0 < m) (ltb (p.line + p.cell) k) (λ _. cond_elim (λ m. 0 < m) (ltb p.row n) (λ _. omega arith) (λ _. omega arith)) (λ _. omega arith)

    two_after : p.line + p.cell < k → 1 < after_count k n p
    two_after h = rw (lt-ltb (p.line + p.cell) k h) (cond_elim (λ m. 1 < m) (ltb p.row n) (λ _. omega arith) (λ _. omega arith))

    three_after : p.line + p.cell < k → p.row < n → 2 < after_count k n p
    three_after h g = rw (lt-ltb (p.line + p.cell) k h, lt-ltb p.row n g) (omega arith)

    same_cell : (a i d : ℕ) → Inside levels (a, (i, d)) → x ≡ place levels (a, (i, d)) → (p.row ≡ a) × (p.line ≡ i) × (p.cell ≡ d)
    same_cell a i d h g =
        let s = one_entry levels (p.row, (p.line, p.cell)) (a, (i, d)) o h (sym e ∙ g) in
        (ap (λ (y : Entry levels). y.0) s, ap (λ (y : Entry levels). y.1.0) s, ap (λ (y : Entry levels). y.1.1) s)

    module _ (u f l z : ℕ) (v : u ≡ f + x) (w : f + suc n * count_of k ≤ l) where
      after_hit : (a i d : ℕ) → Inside levels (a, (i, d)) → Uses k u f l z (place levels (a, (i, d))) a i d → Hit (after_count k n p) (after_place k x) (place levels (a, (i, d)))
      after_hit a i d h (own g) = (0, one_after, omega (arith, g))
      after_hit a i d h (shorter q g) =
          let c = same_cell a i (d - 1) (h.0, (h.1.0, omega (arith, h.1.1))) (omega (arith, g, q)) in
          (1, two_after (omega (arith, c, h.1.1, q)), omega (arith, g, q))
      after_hit a i d h (below q r g) =
          let m = upper_place (a - 1) a i d (omega arith) in
          let c = same_cell (a - 1) i (d - 1) (omega (arith, h.0), (h.1.0, omega (arith, h.1.1))) (omega (arith, g, q, m)) in
          (2, three_after (omega (arith, c, h.1.1, q)) (omega (arith, c, r, h.0)), omega (arith, g, q, m))
      after_hit a i d h (instant q r g) = absurd (omega (arith, g, v, w, e, level_count k points n, place_lt levels (p.row, (p.line, p.cell)) o))

    after_two : 1 < after_count k n p → p.line + p.cell < k
    after_two = cond_elim (λ m. 1 < m → p.line + p.cell < k) (ltb (p.line + p.cell) k) (λ g _. ltb-true (p.line + p.cell) k g) (λ _ h. absurd (omega arith))

    after_three : 2 < after_count k n p → p.row < n
    after_three = cond_elim (λ m. 2 < m → p.row < n) (ltb (p.line + p.cell) k)
        (λ _. cond_elim (λ m. 2 < m → p.row < n) (ltb p.row n) (λ g _. ltb-true p.row n g) (λ _ h. absurd (omega arith))) (λ _ h. absurd (omega arith))

    after_in : (c : ℕ) → c < after_count k n p → after_place k x c < count levels
    after_in zero h = omega (arith, e, place_lt levels (p.row, (p.line, p.cell)) o)
    after_in (suc zero) h = omega (arith, e, place_lt levels (p.row, (p.line, p.cell + 1)) (o.0, (o.1.0, omega (arith, after_two h))))
    after_in (suc (suc zero)) h =
        let q : p.row + 1 < suc n = omega (arith, after_three h) in
        let m : 1 < after_count k n p = omega (arith, h) in
        omega (arith, e, upper_place p.row (p.row + 1) p.line p.cell (omega arith), place_lt levels (p.row + 1, (p.line, p.cell + 1)) (q, (o.1.0, omega (arith, after_two m))))
    after_in (suc (suc (suc c))) h = absurd (omega (arith, h, most))
      where
        most : after_count k n p ≤ 3
        most = cond_elim (λ m. m ≤ 3) (ltb (p.line + p.cell) k) (λ _. cond_elim (λ m. m ≤ 3) (ltb p.row n) (λ _. omega arith) (λ _. omega arith)) (λ _. omega arith)

  -- ---- S at instant t

  module _ (u f l z m t : ℕ) (g : u ≡ l + t) (w : f + suc n * count_of k ≤ l) (s : z + m ≡ suc n) where
    instant_hit : (a i d : ℕ) → Inside levels (a, (i, d)) → Uses k u f l z (place levels (a, (i, d))) a i d → HitTwo (suc t) m (instant_place k z t) (place levels (a, (i, d)))
    instant_hit a i d h (own v) = absurd (omega (arith, v, level_count k points n, place_lt levels (a, (i, d)) h))
    instant_hit a i d h (shorter q v) = absurd (omega (arith, v, level_count k points n, place_lt levels (a, (i, d)) h))
    instant_hit a i d h (below q r v) = absurd (omega (arith, v, level_count k points n, place_lt levels (a, (i, d)) h))
    instant_hit a i d h (instant q r v) =
        let c : z + (a - z) ≡ a = omega arith in (
          i,
          a - z,
          omega (arith, v),
          omega (arith, h.0),
          ap₂ (λ x y. x * count_of k + y) c (interval_same k refl (omega (arith, v, q))) ∙ sym (level_place k points n a i d h),
        )

    instant_in : t < k → (i e : ℕ) → i < suc t → e < m → instant_place k z t i e < count levels
    instant_in o i e h q =
        let c : i + (t + 1 - i) ≡ t + 1 = omega arith in
        let y : Inside levels (z + e, (i, t + 1 - i)) = (omega arith, (omega arith, omega arith)) in
        omega (arith, place_lt levels (z + e, (i, t + 1 - i)) y, level_place k points n (z + e) i (t + 1 - i) y, interval_same k {i = i} refl c)

-- ---- what the code visits

module _ (C k u : ℕ) (b : Block) where
  abbrev After : ℕ → ℕ → Position → Rule → Type 1
  After n x p q = Apart k b q → Placed b.points k q x p.row p.line p.cell → u ≡ b.first + x → Suffices (node_clauses C k (ruled q b)) u (after_clauses C k (ruled q b) n x p)

  after_level : (n x : ℕ) (p : Position) → After n x p (Duration n)
  after_level n x p j o e =
      some_places C k u (ruled (Duration n) b) (after_count k n p) (after_place k x) (after_in k b.points n p x o.inside o.at)
      (λ y h m. after_hit k b.points n p x o.inside o.at u b.first b.left 1 e j y.0 y.1.0 y.1.1 h (level_uses k u b.first b.left _ y.0 y.1.0 y.1.1 m))

  after_all : (x : ℕ) (p : Position) → After 0 x p Throughout
  after_all x p j o e =
      some_places C k u (ruled Throughout b) (after_count k 0 p) (after_place k x) (after_in k b.points 0 p x o.inside o.at)
      (λ y h m. after_hit k b.points 0 p x o.inside o.at u b.first b.left 0 e (omega (arith, j)) y.0 y.1.0 y.1.1 h
      (all_uses k u b.first b.left _ y.0 y.1.0 y.1.1 m (omega arith)))

  -- the block's own variable in place x, at position p
  pub after_suffices : {n x : ℕ} (p : Position) → Levels b.rule n → Laid C k b → Placed b.points k b.rule x p.row p.line p.cell → u ≡ b.first + x
      → Suffices (node_clauses C k b) u (after_clauses C k b n x p)
  after_suffices {n} {x} p (inl e) j = subst (After n x p) (sym e) (after_level n x p) j.apart
  after_suffices {n} {x} p (inr (e, z)) j = subst (λ n. After n x p b.rule) (sym z) (subst (After 0 x p) (sym e) (after_all x p)) j.apart

  abbrev Instant : ℕ → ℕ → ℕ → Rule → Type 1
  Instant z m t q = Apart k b q → u ≡ b.left + t → t < k → Suffices (node_clauses C k (ruled q b)) u (instant_clauses C k (ruled q b) z m t)

  instant_level : (n t : ℕ) → Instant 1 n t (Duration n)
  instant_level n t j e h =
      more_places C k u (ruled (Duration n) b) (suc t) n (instant_place k 1 t) (instant_in k b.points n u b.first b.left 1 n t e j (omega arith) h)
      (λ y o m. instant_hit k b.points n u b.first b.left 1 n t e j (omega arith) y.0 y.1.0 y.1.1 o (level_uses k u b.first b.left _ y.0 y.1.0 y.1.1 m))

  instant_all : (t : ℕ) → Instant 0 1 t Throughout
  instant_all t j e h =
      more_places C k u (ruled Throughout b) (suc t) 1 (instant_place k 0 t) (instant_in k b.points 0 u b.first b.left 0 1 t e (omega (arith, j)) (omega arith) h)
      (λ y o m. instant_hit k b.points 0 u b.first b.left 0 1 t e (omega (arith, j)) (omega arith) y.0 y.1.0 y.1.1 o
      (all_uses k u b.first b.left _ y.0 y.1.0 y.1.1 m (omega arith)))

  -- S at instant t
  pub instant_suffices : {z m t : ℕ} → Rising b.rule z m → Laid C k b → u ≡ b.left + t → t < k → Suffices (node_clauses C k b) u (instant_clauses C k b z m t)
  instant_suffices {z} {m} {t} (inl (e, a)) j = subst (λ z. Instant z m t b.rule) (sym a) (subst (Instant 1 m t) (sym e) (instant_level m t)) j.apart
  instant_suffices {z} {m} {t} (inr (e, a, c)) j =
      subst (λ z. Instant z m t b.rule) (sym a) (subst (λ m. Instant 0 m t b.rule) (sym c) (subst (Instant 0 1 t) (sym e) (instant_all t))) j.apart
