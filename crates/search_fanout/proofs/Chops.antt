-- A chop: its first part on [i, m] is an input of the triples (i, m, j) alone, its second on [m, j] of (i, m, j) alone; a triple's w is one
-- of its interval's, which two of that gate's clauses name. A place tells its interval or triple, so no other gate mentions them.
use mathlib.Core.Path.{◌≡◌, refl, sym, ap, ap₂, ◌∙◌, subst}
use mathlib.Core.Logic.{◌⊎◌, inl, inr, ⊎_elim}
use mathlib.Core.List.{List, [], ◌∷◌, ◌++◌}
use Prim.Native.Nat.{ℕ, suc, ◌+◌, ◌-◌, ◌≤◌, ◌<◌}
use native.Mathlib.Omega.{arith}
use Rattle.lists.specs.Listing.{rows, sum}
use Rattle.interval.specs.Places.{count_of, triple_count_of, place_of, triple_place_of}
use Rattle.interval.specs.Limits.{TripleOf}
use Rattle.interval.specs.declared.Triple.{Triple}
use Rattle.interval.proofs.Shape.{Entry, Inside, count, place, place_lt}
use Rattle.interval.proofs.Counts.{intervals_count, triples_count}
use Rattle.interval.proofs.Laws.{intervals_numbered, triples_numbered, triples_in_a_row}
use Rattle.paper_circuit.specs.declared.Gate.TheVariants.{AnyOf}
use Rattle.paper_circuit.proofs.Blocks.{From}
use Rattle.lists.proofs.Lists.{all_rows}
use Rattle.table_blocks.specs.Blocks.{shape_of, defined_by}
use Rattle.table_blocks.specs.declared.Block.{Block}
use Rattle.table_blocks.specs.declared.Rule.{Rule}
use Rattle.table_blocks.specs.declared.Rule.TheVariants.{Chop, Cut}
use Rattle.paper_clauses.specs.Clauses.{Clause, plain, negated, clauses_of, clauses_by}
use Rattle.table_nodes.specs.Nodes.{triple_block, interval_block}
use Rattle.search_visits.specs.Visits.{raised_by, long_by}
use Rattle.search_visits.proofs.Parts.{Part, part_first, part_next}
use Rattle.search_visits.proofs.Loops.{any_clauses_lem}
use Rattle.search_clauses.specs.Clauses.{clauses_at}
use Rattle.search_fanout.specs.Fanout.{Names, node_clauses, triple_clauses, Laid}
use Rattle.search_fanout.specs.Walks.{Apart, first_clauses, second_clauses}
use Rattle.search_fanout.proofs.Cover.{part_both, part_row, part_left, part_right, Covers, covers_none, covers_first, covers_next, covers_both, covers_join, Suffices}
use Rattle.search_fanout.proofs.Fine.{ruled, interval_same, triple_same, one_interval, one_triple, cut_place, chop_place, Hit, At, there, covered, part_place_lem, one_place, some_places}
use Rattle.search_fanout.proofs.Near.{unnamed}

-- ---- any of n variables: of its clauses the one of w + e and the long one name w + e

module _ (v w n e : ℕ) where
  abbrev two : List Clause
  two = raised_by v w e ++ long_by v w n ∷ []

  any_part : e < n → Part two (clauses_of v (AnyOf w n))
  any_part h =
      subst (Part two) (any_clauses_lem v w n)
      (part_both (raised_by v w e) (long_by v w n ∷ []) (rows n (raised_by v w) ++ long_by v w n ∷ [])
      (λ S c. part_row (raised_by v w) n e h S (part_first (rows n (raised_by v w)) (long_by v w n ∷ []) S c)) (part_next (rows n (raised_by v w)) (long_by v w n ∷ [])))

  any_covers : {u : ℕ} → (u ≡ v → ⊥) → u ≡ w + e → Covers (clauses_of v (AnyOf w n)) u two
  any_covers {u} f g =
      subst (λ (T : List Clause). Covers T u two) (any_clauses_lem v w n)
      (covers_both {S = rows n (raised_by v w)} {T = long_by v w n ∷ []} (record { whatever = λ Q q. all_rows (λ c. Names u c → Q c) n (raised_by v w) (λ d l. (named Q d q.0, tt)) })
      (record { whatever = λ Q q. ((λ _. q.1.0), tt) }))
    where
      named : (Q : Clause → Type 0) (d : ℕ) → Q (plain v ∷ negated (w + e) ∷ []) → (u ≡ v) ⊎ ((u ≡ w + d) ⊎ ⊥) → Q (plain v ∷ negated (w + d) ∷ [])
      named Q d q (inl m) = absurd (f m)
      named Q d q (inr (inl m)) = let s : e ≡ d = omega (arith, g, m) in subst (λ d. Q (plain v ∷ negated (w + d) ∷ [])) s q
      named Q d q (inr (inr m)) = absurd m

-- ---- the two blocks of a chop

module _ (C k u : ℕ) (b : Block) (j : Apart k b Chop) where
  abbrev w : ℕ
  w = b.first + count_of k

  abbrev T : Block
  T = triple_block w b

  abbrev I : Block
  I = interval_block w b

  abbrev node : List Clause
  node = node_clauses C k (ruled Chop b)

  triples : count (shape_of b.points k Cut) ≡ triple_count_of k
  triples = triples_count k

  intervals : count (shape_of b.points k Chop) ≡ count_of k
  unfolding sum
  intervals = omega (arith, intervals_count k)

  -- what is enough in the one where the other does not name u
  in_triples : {W : List Clause} → (From b.first (count_of k + triple_count_of k) u → ⊥) → Suffices (clauses_by (defined_by C k T)) u W → Suffices node u W
  in_triples {W} n e = record {
    part = part_left (defined_by C k T) (defined_by C k I) W e.part;
    covers = covers_join (defined_by C k T) (defined_by C k I) e.covers (covers_none W (unnamed C k u I (λ m. n (omega (arith, m, intervals))) (λ m. n (omega (arith, m)))));
  }

  in_intervals : {W : List Clause} → u < w → Suffices (clauses_by (defined_by C k I)) u W → Suffices node u W
  in_intervals {W} l e = record {
    part = part_right (defined_by C k T) (defined_by C k I) W e.part;
    covers =
        covers_join (defined_by C k T) (defined_by C k I)
        (covers_none W (unnamed C k u T (λ m. omega (arith, l, m)) (⊎_elim (λ m. omega (arith, l, m, j)) (λ m. omega (arith, l, m, j))))) e.covers;
  }

  -- the chop on the interval in place x
  interval_node : (x : ℕ) → x < count_of k → u ≡ b.first + x → Suffices node u (clauses_at (defined_by C k I) x)
  interval_node x h e =
      in_intervals (omega (arith, h, e)) (one_place C k u I x (omega (arith, h, intervals)) (λ y i. ⊎_elim (λ m. omega (arith, m, e)) (λ m. absurd (omega (arith, m.2, h, e)))))

  -- ---- a part's truth

  left_lt : (a i d : ℕ) → Inside (shape_of b.points k Cut) (a, (i, d)) → place_of k (record { i = a; j = a + d }) < count_of k
  left_lt a i d h = (intervals_numbered k).below (record { i = a; j = a + d }) (record { starts = omega arith; ends = omega (arith, h.1) })

  first_node : (i m : ℕ) → i ≤ m → m ≤ k → u ≡ b.left + place_of k (record { i = i; j = m }) → Suffices node u (first_clauses C k T i m)
  first_node i m o q e =
      in_triples (λ f. omega (arith, e, f, j)) (some_places C k u T (suc (k - m)) (λ c. triple_place_of k (record { i = i; m = m; j = m + c }))
      (λ c l. omega (arith, triples, (triples_numbered k).below (record { i = i; m = m; j = m + c }) (record { starts = o; cut = omega arith; ends = omega (arith, l) })))
      (λ y h f. hit y.0 y.1.0 y.1.1 h f))
    where
      below : place_of k (record { i = i; j = m }) < count_of k
      below = (intervals_numbered k).below (record { i = i; j = m }) (record { starts = o; ends = q })

      hit : (a c d : ℕ) → Inside (shape_of b.points k Cut) (a, (c, d)) → At C k u T (a, (c, d)) →
          Hit (suc (k - m)) (λ c. triple_place_of k (record { i = i; m = m; j = m + c })) (place (shape_of b.points k Cut) (a, (c, d)))
      hit a c d h (inl f) = absurd (omega (arith, e, f, j, triples, place_lt (shape_of b.points k Cut) (a, (c, d)) h))
      hit a c d h (inr (inl f)) =
          let w = one_interval k a (a + d) i m (omega arith) (omega (arith, h.1)) o q (omega (arith, e, f)) in
          (a + c - m, omega (arith, w, h.1), triple_same k (sym w.0) (sym w.1) (omega (arith, w, h.1)) ∙ sym (cut_place k b.points a c d h))
      hit a c d h (inr (inr f)) = absurd (omega (arith, e, f, j, below))

  second_node : (m i : ℕ) → m ≤ i → i ≤ k → u ≡ b.right + place_of k (record { i = m; j = i }) → Suffices node u (second_clauses C k T m i)
  second_node m i o q e =
      in_triples (λ f. omega (arith, e, f, j)) (some_places C k u T (suc m) (λ c. triple_place_of k (record { i = c; m = m; j = i }))
      (λ c l. omega (arith, triples, (triples_numbered k).below (record { i = c; m = m; j = i }) (record { starts = omega (arith, l); cut = o; ends = q })))
      (λ y h f. hit y.0 y.1.0 y.1.1 h f))
    where
      hit : (a c d : ℕ) → Inside (shape_of b.points k Cut) (a, (c, d)) → At C k u T (a, (c, d)) →
          Hit (suc m) (λ c. triple_place_of k (record { i = c; m = m; j = i })) (place (shape_of b.points k Cut) (a, (c, d)))
      hit a c d h (inl f) = absurd (omega (arith, e, f, j, triples, place_lt (shape_of b.points k Cut) (a, (c, d)) h))
      hit a c d h (inr (inl f)) = absurd (omega (arith, e, f, j, left_lt a c d h))
      hit a c d h (inr (inr f)) =
          let w = one_interval k (a + d) (a + c) m i (omega (arith, h.1)) (omega (arith, h.1)) o q (omega (arith, e, f)) in
          (a, omega (arith, w), triple_same k refl (sym w.0) (sym w.1) ∙ sym (cut_place k b.points a c d h))

  -- ---- a triple's w

  module _ (t : Triple) (o : TripleOf k t) (e : u ≡ w + triple_place_of k t) where
    abbrev v : ℕ
    v = b.first + place_of k (record { i = t.i; j = t.j })

    abbrev w₀ : ℕ
    w₀ = w + triple_place_of k (record { i = t.i; m = t.i; j = t.j })

    below : triple_place_of k t < triple_count_of k
    below = (triples_numbered k).below t o

    own_triple : Suffices (clauses_by (defined_by C k T)) u (clauses_at (defined_by C k T) (triple_place_of k t))
    own_triple = one_place C k u T (triple_place_of k t) (omega (arith, below, triples))
        (λ y h. ⊎_elim (λ f. omega (arith, e, f)) (⊎_elim (λ f. absurd (omega (arith, e, f, j, below))) (λ f. absurd (omega (arith, e, f, j, below)))))

    in_row : u ≡ w₀ + (t.m - t.i)
    in_row = omega (arith, e, triples_in_a_row k t.i t.m t.j o.starts o.cut o.ends)

    -- the gate of its interval
    abbrev x : Entry (shape_of b.points k Chop)
    x = (0, (t.i, t.j - t.i))

    inside : Inside (shape_of b.points k Chop) x
    inside = (omega arith, (omega (arith, o), omega (arith, o)))

    here : clauses_at (defined_by C k I) (place_of k (record { i = t.i; j = t.j })) ≡ clauses_of v (AnyOf w₀ (suc (t.j - t.i)))
    here =
        let s : t.i + (t.j - t.i) ≡ t.j = omega (arith, o) in
        let p : place (shape_of b.points k Chop) x ≡ place_of k (record { i = t.i; j = t.j }) = chop_place k b.points 0 t.i (t.j - t.i) inside ∙ interval_same k refl s in
        ap (clauses_at (defined_by C k I)) (sym p) ∙ there C k u I x inside
        ∙ ap₂ (λ (y z : ℕ). clauses_of (b.first + y) (AnyOf (w + z) (suc (t.j - t.i)))) p (triple_same k refl refl s)

    abbrev p : ℕ
    p = place_of k (record { i = t.i; j = t.j })

    in_place : p < count_of k
    in_place = (intervals_numbered k).below (record { i = t.i; j = t.j }) (record { starts = omega (arith, o); ends = o.ends })

    only : (a i d : ℕ) → Inside (shape_of b.points k Chop) (a, (i, d)) → At C k u I (a, (i, d)) → p ≡ place (shape_of b.points k Chop) (a, (i, d))
    only a i d h (inl f) = absurd (omega (arith, e, f, intervals, place_lt (shape_of b.points k Chop) (a, (i, d)) h))
    only a i d h (inr (c, l, f)) =
        let s = one_triple k t.i t.m t.j i (i + c) (i + d) o.starts o.cut o.ends (omega arith) (omega arith) (omega (arith, h.1))
        (omega (arith, e, f, triples_in_a_row k i (i + c) (i + d) (omega arith) (omega arith) (omega (arith, h.1)))) in
        interval_same k s.0 s.2 ∙ sym (chop_place k b.points a i d h)

    abbrev A : List Clause
    A = clauses_at (defined_by C k T) (triple_place_of k t)

    abbrev B : List Clause
    B = raised_by v w₀ (t.m - t.i) ++ long_by v w₀ (suc (t.j - t.i)) ∷ []

    own_interval : Suffices (clauses_by (defined_by C k I)) u B
    own_interval = record {
      part = λ S c. subst (Part B) (sym here) (any_part v w₀ (suc (t.j - t.i)) (t.m - t.i) (omega (arith, o))) S (part_place_lem C k u I p (omega (arith, in_place, intervals)) S c);
      covers = covered C k u I (λ q. p ≡ q)
          (λ q f. subst (λ q. Covers (clauses_at (defined_by C k I) q) u B) f
          (subst (λ (L : List Clause). Covers L u B) (sym here) (any_covers v w₀ (suc (t.j - t.i)) (t.m - t.i) (λ f. omega (arith, e, f, in_place)) in_row)))
          (λ y. only y.0 y.1.0 y.1.1);
    }

    triple_node : Suffices node u (A ++ B)
    triple_node = record {
      part = part_both A B node (part_left (defined_by C k T) (defined_by C k I) A own_triple.part) (part_right (defined_by C k T) (defined_by C k I) B own_interval.part);
      covers = covers_join (defined_by C k T) (defined_by C k I) (covers_first A B own_triple.covers) (covers_next A B own_interval.covers);
    }

-- ---- what the code visits, of a block that is known to be a chop's

module _ (C k u : ℕ) (b : Block) (e : b.rule ≡ Chop) (j : Laid C k b) where
  by_rule : (W : List Clause) → (Apart k b Chop → Suffices (node_clauses C k (ruled Chop b)) u W) → Suffices (node_clauses C k b) u W
  by_rule W f = subst (λ (q : Rule). Apart k b q → Suffices (node_clauses C k (ruled q b)) u W) (sym e) f j.apart

  pub interval_suffices : {x : ℕ} → u ≡ b.first + x → x < count_of k → Suffices (node_clauses C k b) u (clauses_at (defined_by C k (interval_block (b.first + count_of k) b)) x)
  interval_suffices {x} f h = by_rule _ (λ a. interval_node C k u b a x h f)

  pub triple_suffices : (t : Triple) → TripleOf k t → u ≡ b.first + count_of k + triple_place_of k t → Suffices (node_clauses C k b) u (triple_clauses C k b t)
  triple_suffices t o f = by_rule _ (λ a. triple_node C k u b a t o f)

  pub first_suffices : (i m : ℕ) → i ≤ m → m ≤ k → u ≡ b.left + place_of k (record { i = i; j = m }) →
      Suffices (node_clauses C k b) u (first_clauses C k (triple_block (b.first + count_of k) b) i m)
  first_suffices i m o q f = by_rule _ (λ a. first_node C k u b a i m o q f)

  pub second_suffices : (m i : ℕ) → m ≤ i → i ≤ k → u ≡ b.right + place_of k (record { i = m; j = i }) →
      Suffices (node_clauses C k b) u (second_clauses C k (triple_block (b.first + count_of k) b) m i)
  second_suffices m i o q f = by_rule _ (λ a. second_node C k u b a m i o q f)
