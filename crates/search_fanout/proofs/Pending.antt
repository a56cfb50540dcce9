-- The trail as a queue: the next place's variable u is taken, and every clause that names u was visited. So a clause that is not closed has
-- a literal opposed by one that is still to be taken; where all are taken, the set is closed.
use mathlib.Core.Path.{◌≡◌, refl, sym, ap, ◌∙◌, subst}
use mathlib.Core.Logic.{◌⊎◌, inl, inr, ⊎_elim}
use mathlib.Core.Bool.{Bool, true, false, true≢false}
use mathlib.Core.List.{List, [], ◌∷◌}
use Prim.Native.Nat.{ℕ, zero, suc, ◌+◌, ◌-◌, ◌≤◌, ◌<◌}
use native.Mathlib.Omega.{arith}
use lib.ListN.{length, get_or, set}
use lib.Dec.{eqb}
use Rattle.lists.specs.Listing.{All}
use Rattle.paper_clauses.specs.Clauses.{Literal, Clause}
use Rattle.paper_closure.specs.Closure.{Literals, opposite, add}
use Rattle.paper_closure.specs.Tree.{closure}
use Rattle.paper_closure.specs.Runs.{clashes}
use Rattle.paper_closure.proofs.Sets.{either_way, In, Below, kept}
use Rattle.paper_closure.proofs.Closure.{Closed, closure_closed, closed_same}
use Rattle.search_closing.specs.Values.{held_in, held, value_for, undone, Trailing, Grown, Added}
use Rattle.search_closing.specs.Closing.{ClosedTo}
use Rattle.search_closing.specs.declared.Closed.{Closed as Ended}
use Rattle.search_closing.proofs.Trail.{held_le, grown_more, grown_length, undone_none}
use Rattle.search_visits.specs.Visits.{Touched, Due}
use Rattle.search_visits.proofs.Parts.{due_closed, due_still, due_none, grown_below, touched_before}
use Rattle.search_fanout.specs.Fanout.{Names, DueAt, Reached, Pending}

-- R' has no literal that R lacks but of variable u
module _ (R R' S N : Literals) (u : ℕ) (only : (l : Literal) → In R' l → R l ≡ false → u ≡ l.variable) (rs : Below R' (In S)) (sn : Below S (In N)) where
  touched_or : (c : Clause) → Touched R S c → Touched R' S c ⊎ Names u c
  touched_or [] t = absurd t
  touched_or (m ∷ c) (inl w) = either_way (R' (opposite m)) (λ e. inr (inl (only (opposite m) e w.1))) (λ e. inl (inl (w.0, e)))
  touched_or (m ∷ c) (inr t) = ⊎_elim (λ u. inl (inr u)) (λ o. inr (inr o)) (touched_or c t)

  older : (c : Clause) → DueAt R' S c → DueAt R' N c
  older c k = (due_still R' S N rs sn (c ∷ []) (k, tt)).0

  taken : (c : Clause) → (Names u c → DueAt S N c) → DueAt R S c → DueAt R' N c
  taken c f (inl e) = older c (inl e)
  taken c f (inr t) = ⊎_elim (λ w. older c (inr w)) (λ o. ⊎_elim inl (λ t. inr (touched_before R' S N rs sn c t)) (f o)) (touched_or c t)

  pub due_step : (T : List Clause) → All (λ c. Names u c → DueAt S N c) T → Due R S T → Due R' N T
  due_step [] f d = tt
  due_step (c ∷ T) f d = (taken c f.0 d.0, due_step T f.1 d.1)

-- ---- the values before and after one variable more

set_only : (vs : List ℕ) (x y : ℕ) → (x ≡ y) ⊎ (get_or (set vs x 0) y 0 ≡ get_or vs y 0)
set_only [] x y = inr refl
set_only (z ∷ vs) zero zero = inl refl
set_only (z ∷ vs) zero (suc y) = inr refl
set_only (z ∷ vs) (suc x) zero = inr refl
set_only (z ∷ vs) (suc x) (suc y) = ⊎_elim (λ e. inl (ap suc e)) inr (set_only vs x y)

only_there : (vs : List ℕ) (u : ℕ) → 1 ≤ u → (l : Literal) → In (held_in vs) l → held_in (set vs (u - 1) 0) l ≡ false → u ≡ l.variable
unfolding held_in
only_there vs u h l = go l.variable l.sign
  where
    go : (v : ℕ) (p : Bool) → held vs p v ≡ true → held (set vs (u - 1) 0) p v ≡ false → u ≡ v
    go zero p i n = absurd (true≢false (sym i))
    go (suc y) p i n = ⊎_elim (λ e. omega (arith, e)) (λ e. absurd (true≢false (sym i ∙ ap (λ z. eqb z (value_for p)) (sym e) ∙ n))) (set_only vs (u - 1) y)

module _ {T : List Clause} {values trail : List ℕ} {h top : ℕ} (p : Pending T values trail h top) where
  -- all taken
  pub pending_none : top ≤ h → Due (held_in values) (held_in values) T
  pending_none g =
      let e = sym (undone_none trail h (top - h) values (omega arith)) ∙ p.since.back in
      subst (λ (v : List ℕ). Due (held_in v) (held_in values) T) (sym e) p.due

  module _ (g : h < top) where
    pub next_variable : (1 ≤ get_or trail h 0) × (get_or trail h 0 ≤ length values)
    next_variable = p.since.ranged.each h (omega arith) g

    abbrev later : List ℕ
    later = undone trail (h + 1) (top - (h + 1)) values

    -- one place taken more
    before_is : p.before ≡ set later (get_or trail h 0 - 1) 0
    unfolding undone
    before_is = let e : top - h ≡ suc (top - (h + 1)) = omega arith in let f : h + 1 ≡ suc h = omega arith in sym p.since.back ∙ rw (e, f)

    later_grown : Grown later trail (h + 1) values trail top
    later_grown = record {
      trailing = p.since.trailing;
      more = omega arith;
      same = refl;
      ranged = record { each = λ j a b. p.since.ranged.each j (omega arith) b };
      back = refl;
    }

    pub pending_step : {w t : List ℕ} {r : Ended} → Reached T (get_or trail h 0) values trail top w t r → r.clash ≡ false → Pending T w t (h + 1) r.top
    pending_step {w} {t} {r} q e = let m = grown_more later_grown q.grown in record {
      before = later;
      since = record { trailing = m.trailing; more = m.more; same = refl; ranged = m.ranged; back = m.back };
      due = due_step (held_in p.before) (held_in later) (held_in values) (held_in w) (get_or trail h 0)
          (λ l i n. only_there later (get_or trail h 0) next_variable.0 l i (subst (λ (v : List ℕ). held_in v l ≡ false) before_is n))
          (grown_below later_grown) (grown_below q.grown) T (q.due e) p.due;
    }

-- ---- the loop

module _ {T : List Clause} {v₀ t₀ values trail : List ℕ} {top₀ top : ℕ} (g : Grown v₀ t₀ top₀ values trail top) (s : closure T (held_in values) ≡ closure T (held_in v₀)) where
  pub queue_done : {h : ℕ} → Pending T values trail h top → top ≤ h → ClosedTo T v₀ t₀ top₀ values trail (record { clash = false; top = top })
  queue_done p l = record {
    grown = g;
    calm = λ _. closed_same T (held_in values) (due_none (held_in values) T (pending_none p l)) ∙ s;
    clashing = λ e. absurd (true≢false (sym e));
  }

  pub queue_clash : {u : ℕ} {w t : List ℕ} {r : Ended} → Reached T u values trail top w t r → r.clash ≡ true → ClosedTo T v₀ t₀ top₀ w t r
  queue_clash q e = record {
    grown = grown_more g q.grown;
    calm = λ f. absurd (true≢false (sym e ∙ f));
    clashing = λ f. sym (ap (λ (n : ℕ). clashes n (closure T (held_in v₀))) (grown_length g)) ∙ ap (clashes (length values)) (sym s) ∙ q.clashing f;
  }

pub top_fits : {values trail : List ℕ} {top : ℕ} → Trailing values trail top → (top ≤ length values) × (top ≤ length trail)
top_fits {values} t = omega (arith, t.full, t.room, held_le values)

pub pending_fits : {T : List Clause} {values trail : List ℕ} {h top : ℕ} → Pending T values trail h top → (h ≤ top) × (top ≤ length values) × (top ≤ length trail)
pending_fits p = omega (arith, p.since.more, top_fits p.since.trailing)

-- the values were closed, and one literal was put in: what a try hands to the queue
pub pending_start : {T : List Clause} {v₀ t₀ values trail : List ℕ} {top₀ top : ℕ} {l : Literal} → held_in v₀ ≡ closure T (held_in v₀) →
    Added l v₀ t₀ top₀ values trail top → Pending T values trail top₀ top
pending_start {T} {v₀} {l = l} c a = record {
  before = v₀;
  since = record { trailing = a.grown.trailing; more = a.grown.more; same = refl; ranged = a.grown.ranged; back = a.grown.back };
  due =
      subst (λ (S : Literals). Due (held_in v₀) S T) (sym a.added)
      (due_still (held_in v₀) (held_in v₀) (add l (held_in v₀)) (λ m i. i) (kept l (held_in v₀)) T
      (due_closed (held_in v₀) (held_in v₀) T (subst (λ (S : Literals). Closed T (In S)) (sym c) (closure_closed T (held_in v₀)))));
}
