-- The interval a step longer stands in the next place, and the level above I places further: so the places of a duration's or `[S]`'s own
-- variable are those that the code goes through.
use mathlib.Core.Path.{◌≡◌, sym, ap, subst}
use mathlib.Core.Logic.{inl, inr}
use mathlib.Core.Bool.{Bool, true, false, cond}
use mathlib.Core.List.{List, ◌++◌}
use Prim.Native.Nat.{ℕ, ◌+◌, ◌*◌, ◌≤◌, ◌<◌}
use native.Mathlib.Nat.{suc-mul}
use native.Mathlib.Numerals.{add-one}
use native.Mathlib.Omega.{arith}
use lib.Dec.{ltb}
use borrow.Author.Tests.{lt-ltb, le-ltb}
use Rattle.lists.specs.Listing.{rows}
use Rattle.interval.specs.Places.{count_of, place_of}
use Rattle.interval.proofs.Shape.{Inside}
use Rattle.lists.proofs.Listing.{rows_rest}
use Rattle.table_blocks.specs.Blocks.{shape_of, defined_by, Placed}
use Rattle.table_blocks.specs.declared.Block.{Block}
use Rattle.table_blocks.specs.declared.Position.{Position}
use Rattle.table_blocks.specs.declared.Rule.{Rule}
use Rattle.table_blocks.specs.declared.Rule.TheVariants.{Duration}
use Rattle.paper_clauses.specs.Clauses.{Clause}
use Rattle.search_clauses.specs.Clauses.{clauses_at}
use Rattle.table_blocks.proofs.Positions.{by_rule}
use Rattle.search_fanout.specs.Walks.{after_count, after_place, after_clauses}
use Rattle.search_fanout.proofs.Fine.{level_place}
use Rattle.search_fanout.specs.Fanout.{Levels}

longer_next : (k i d : ℕ) → place_of k (record { i = i; j = i + (d + 1) }) ≡ place_of k (record { i = i; j = i + d }) + 1
unfolding place_of
longer_next k i d = omega arith

module _ {points k x a i d n : ℕ} {r : Rule} (l : Levels r n) (p : Placed points k r x a i d) where
  pub interval_here : i + d ≤ k
  interval_here = go l
    where
      go : Levels r n → i + d ≤ k
      go (inl e) = omega (arith, (by_rule p e).inside.1)
      go (inr e) = omega (arith, (by_rule p e.0).inside.1)

  module _ (h : i + d < k) where
    pub longer_placed : Placed points k r (x + 1) a i (d + 1)
    longer_placed = go l
      where
        go : Levels r n → Placed points k r (x + 1) a i (d + 1)
        go (inl e) =
            let q = by_rule p e in
            subst (λ (q : Rule). Placed points k q (x + 1) a i (d + 1)) (sym e)
            (record { inside = (q.inside.0, (q.inside.1.0, omega (arith, h))); at = omega (arith, q.at) })
        go (inr e) =
            let q = by_rule p e.0 in
            subst (λ (q : Rule). Placed points k q (x + 1) a i (d + 1)) (sym e.0)
            (record { inside = (q.inside.0, (q.inside.1.0, omega (arith, h))); at = omega (arith, q.at) })

    pub above_placed : {I : ℕ} → I ≡ count_of k → a < n → Placed points k r (x + 1 + I) (a + 1) i (d + 1)
    above_placed {I} c g = go l
      where
        go : Levels r n → Placed points k r (x + 1 + I) (a + 1) i (d + 1)
        go (inl e) =
            let q = by_rule p e in
            let o : Inside (shape_of points k (Duration n)) (a + 1, (i, d + 1)) = (omega (arith, g), (q.inside.1.0, omega (arith, h))) in
            subst (λ (q : Rule). Placed points k q (x + 1 + I) (a + 1) i (d + 1)) (sym e) (record {
              inside = o;
              at =
                  omega (
                    arith,
                    c,
                    q.at,
                    level_place k points n a i d q.inside,
                    level_place k points n (a + 1) i (d + 1) o,
                    longer_next k i d,
                    ap (λ m. m * count_of k) (add-one a),
                    suc-mul a (count_of k),
                  );
            })
        go (inr e) = absurd (omega (arith, g, e.1))

-- ---- the clauses visited, one, two or three lists of them

module _ (C k : ℕ) (b : Block) (n x : ℕ) (p : Position) where
  abbrev at : ℕ → List Clause
  at e = clauses_at (defined_by C k b) (after_place k x e)

  abbrev all : List Clause
  all = after_clauses C k b n x p

  counted : {m : ℕ} → after_count k n p ≡ m → rows m at ≡ all
  counted e = ap (λ (m : ℕ). rows m at) (sym e)

  pub after_one : k ≤ p.line + p.cell → clauses_at (defined_by C k b) x ≡ all
  unfolding rows
  after_one h = counted {m = 1} (simp (le-ltb _ _ h))

  pub after_first : (R : List Clause) × (clauses_at (defined_by C k b) x ++ R ≡ all)
  unfolding rows
  after_first = rows_rest at (after_count k n p) 1 (some (ltb (p.line + p.cell) k) (ltb p.row n))
    where
      some : (c d : Bool) → 1 ≤ cond c (cond d 3 2) 1
      some true true = omega arith
      some true false = omega arith
      some false d = omega arith

  module _ (h : p.line + p.cell < k) where
    pub after_two : n ≤ p.row → clauses_at (defined_by C k b) x ++ clauses_at (defined_by C k b) (x + 1) ≡ all
    unfolding rows
    after_two g = counted {m = 2} (simp (lt-ltb _ _ h, le-ltb _ _ g))

    pub after_three : {I : ℕ} → I ≡ count_of k → p.row < n → (clauses_at (defined_by C k b) x ++ clauses_at (defined_by C k b) (x + 1)) ++ clauses_at (defined_by C k b) (x + 1 + I) ≡ all
    unfolding rows
    after_three e g = rw e (counted {m = 3} (simp (lt-ltb _ _ h, lt-ltb _ _ g)))

    pub after_second : (R : List Clause) × ((clauses_at (defined_by C k b) x ++ clauses_at (defined_by C k b) (x + 1)) ++ R ≡ all)
    unfolding rows
    after_second = rows_rest at (after_count k n p) 2 (rw (lt-ltb _ _ h) (some (ltb p.row n)))
      where
        some : (d : Bool) → 2 ≤ cond d 3 2
        some true = omega arith
        some false = omega arith
