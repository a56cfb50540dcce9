-- A literal of an open variable is not among the values before it is tried, so the try makes the trail longer, by its variable first, and
-- gives the closure of the set with it added.
use mathlib.Core.Path.{◌≡◌, sym, ap, ap₂, ◌∙◌, subst}
use mathlib.Core.Bool.{Bool, true, false, true≢false}
use mathlib.Core.List.{List}
use Prim.Native.Nat.{ℕ, ◌-◌, ◌<◌}
use native.Mathlib.Omega.{arith}
use lib.Arith.{lt_of_le-ne}
use lib.ListN.{get_or}
use lib.Seq.{get_or-take}
use Rattle.paper_clauses.specs.Clauses.{Literal, Clause, literal}
use Rattle.paper_closure.specs.Closure.{Literals, add}
use Rattle.paper_closure.specs.Runs.{clashes, is_open}
use Rattle.paper_closure.specs.Tree.{closure}
use Rattle.paper_closure.proofs.Sets.{either_way, In, added}
use Rattle.paper_closure.proofs.Open.{shut_by}
use Rattle.search_closing.specs.Values.{held_in, undone, Grown, Added}
use Rattle.search_closing.specs.Closing.{ClosedTo}
use Rattle.search_closing.specs.declared.Closed.{Closed}
use Rattle.search_closing.proofs.Trail.{grown_length, grown_same, grown_more}
use Rattle.search_attempts.specs.Attempts.{Holding, Ready, Undoable, Since, Tried}

pub holding : {T : List Clause} {S : Literals} {v₀ t₀ values trail : List ℕ} {top : ℕ} {r : Closed} → held_in v₀ ≡ S →
    ClosedTo T v₀ t₀ top values trail r → Holding T S values trail r
holding {T} e c = record {
  trailing = c.grown.trailing;
  calm = λ f. c.calm f ∙ ap (closure T) e;
  clashing = λ f. ap₂ (λ (n : ℕ) (S : Literals). clashes n (closure T S)) (grown_length c.grown) (sym e) ∙ c.clashing f;
}

-- ---- a literal of an open variable

pub open_free : (S : Literals) (u : Bool) (v : ℕ) → is_open S v ≡ true → S (literal u v) ≡ false
open_free S u v o = either_way (S (literal u v)) (λ i. absurd (true≢false (sym o ∙ shut_by S v u i))) (λ e. e)

-- what grows beyond a place of the trail leaves the place as it is
pub since_more : {v : ℕ} {v₀ t₀ values trail w t : List ℕ} {from top n : ℕ} → Since v v₀ t₀ from values trail top → Grown values trail top w t n → Since v v₀ t₀ from w t n
since_more {trail = trail} {t = t} {from} {top} s g = record {
  grown = grown_more s.grown g;
  more = omega (arith, s.more, g.more);
  first = sym (get_or-take top t from 0 s.more) ∙ ap (λ (l : List ℕ). get_or l from 0) g.same ∙ get_or-take top trail from 0 s.more ∙ s.first;
}

module _ {v₀ t₀ v₁ t₁ : List ℕ} {l : Literal} {top at : ℕ} (o : is_open (held_in v₀) l.variable ≡ true) (a : Added l v₀ t₀ top v₁ t₁ at) where
  -- it makes the trail longer: otherwise the values would be the same, and it was not in them
  one_more : top < at
  one_more = lt_of_le-ne a.grown.more (λ e.
      let s : held_in v₀ ≡ add l (held_in v₀) = ap held_in (sym (grown_same a.grown (sym e))) ∙ a.added in
      true≢false (sym (subst (λ S. In S l) (sym s) (added l (held_in v₀))) ∙ open_free (held_in v₀) l.sign l.variable o))

  pub tried_to : {T : List Clause} {values trail : List ℕ} {r : Closed} → ClosedTo T v₁ t₁ at values trail r → Tried T l v₀ t₀ top values trail r
  tried_to c = record { since = since_more (record { grown = a.grown; more = one_more; first = a.first one_more }) c.grown; holding = holding a.added c }

-- ---- a try low undone, for the try high

pub undone_ready : {T : List Clause} {values trail w : List ℕ} {from to : ℕ} → w ≡ undone trail from (to - from) values → Undoable T values trail from to
    → Ready T w trail from (get_or trail from 0)
undone_ready e u = rw e u.ready

pub undone_tried : {T : List Clause} {l : Literal} {w v₀ t₀ values trail : List ℕ} {top : ℕ} {r : Closed} → w ≡ v₀ → Tried T l w t₀ top values trail r
    → Tried T l v₀ t₀ top values trail r
undone_tried e t = rw e at t
