-- After a visit of every gate each clause is closed or touched since nothing was held: so all of the trail is still to be taken,
-- and closing from there is closing from nothing, since the visits have added literals of the closure alone.
use mathlib.Core.Path.{◌≡◌, refl, sym, ap₂, ◌∙◌}
use mathlib.Core.Bool.{true, false, true≢false}
use mathlib.Core.List.{List}
use Prim.Native.Nat.{ℕ}
use Rattle.paper_clauses.specs.Clauses.{Clause}
use Rattle.paper_closure.specs.Closure.{Literals}
use Rattle.paper_closure.specs.Runs.{clashes}
use Rattle.search_closing.specs.Closing.{ClosedTo}
use Rattle.search_closing.specs.declared.Closed.{Closed}
use Rattle.search_closing.proofs.Trail.{grown_length, grown_more}
use Rattle.search_visits.specs.Visits.{Visited}
use Rattle.search_fanout.specs.Fanout.{Pending}

module _ {T : List Clause} {v₀ t₀ v₁ t₁ : List ℕ} {r : Closed} (w : Visited T v₀ t₀ 0 v₁ t₁ r) where
  pub swept_clash : r.clash ≡ true → ClosedTo T v₀ t₀ 0 v₁ t₁ r
  swept_clash e = record { grown = w.grown; calm = λ f. absurd (true≢false (sym e ∙ f)); clashing = w.clashing }

  module _ (e : r.clash ≡ false) where
    pub swept_pending : Pending T v₁ t₁ 0 r.top
    swept_pending = record {
      before = v₀;
      since = record { trailing = w.grown.trailing; more = w.grown.more; same = refl; ranged = w.grown.ranged; back = w.grown.back };
      due = w.due e;
    }

    pub swept_closed : {v₂ t₂ : List ℕ} {s : Closed} → ClosedTo T v₁ t₁ r.top v₂ t₂ s → ClosedTo T v₀ t₀ 0 v₂ t₂ s
    swept_closed c = record {
      grown = grown_more w.grown c.grown;
      calm = λ f. c.calm f ∙ w.same;
      clashing = λ f. ap₂ (λ (n : ℕ) (S : Literals). clashes n S) (sym (grown_length w.grown)) (sym w.same) ∙ c.clashing f;
    }
