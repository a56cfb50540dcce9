-- Values, trail and levels stand for the set at hand and for each set to which a try high goes back: undoing the trail to a level gives the
-- values of the set before the try low, and what later tries did to the trail beyond the level changes nothing of that.
-- Each try shuts the lowest open channel variable, so that no more are left to try high than there are channel variables.
use mathlib.Core.Path.{◌≡◌, refl, sym, ap, ◌∙◌, subst}
use mathlib.Core.Bool.{Bool, true, false, true≢false}
use mathlib.Core.List.{List, [], ◌∷◌}
use Prim.Native.Nat.{ℕ, ◌+◌, ◌-◌, ◌≤◌, ◌<◌}
use native.Mathlib.Decide.{dec_lt}
use native.Mathlib.Omega.{arith}
use lib.ListN.{length, get_or, set}
use lib.Seq.{get_or-set_same, get_or-set_other}
use Rattle.paper_clauses.specs.Clauses.{Clause, literal, plain, negated}
use Rattle.paper_closure.specs.Closure.{Literals, nothing, add}
use Rattle.paper_closure.specs.Runs.{clashes, is_open, dead, Lowest}
use Rattle.paper_closure.specs.Tree.{closure, trial, tried, tree}
use Rattle.paper_closure.proofs.Sets.{added, kept}
use Rattle.paper_closure.proofs.Closure.{closure_contains, closure_closed, closed_same}
use Rattle.paper_closure.proofs.Open.{shut_by, shut_still}
use Rattle.search_closing.specs.Values.{held_in, undone, Grown}
use Rattle.search_closing.specs.declared.Closed.{Closed}
use Rattle.search_closing.proofs.Trail.{held_le, undone_none, grown_length, grown_more}
use Rattle.search_attempts.specs.Attempts.{Openness, Holding, Ready, Undoable, Since, Tried}
use Rattle.search_tries.specs.Tries.{Started}
use Rattle.search_tries.specs.declared.Below.TheVariants.{Dead, Found, Spent}
use Rattle.search_attempts.proofs.Values.{never_clashes}
use Rattle.search_attempts.proofs.Attempts.{since_more}
use Rattle.search_tries.proofs.Whole.{Whole, whole_begun, whole_spent, whole_high, whole_low, whole_found, whole_dead}

-- a try shuts its variable, and those below it were shut
shut_to : (T : List Clause) (S : Literals) {channels v : ℕ} → Lowest S channels v → (b : Bool) (u : ℕ) → 1 ≤ u → u ≤ v → is_open (tried T S (literal b v)) u ≡ false
shut_to T S {v = v} w b u f t = go (dec_lt u v)
  where
    go : Dec (u < v) → is_open (tried T S (literal b v)) u ≡ false
    go (yes l) = shut_still S _ (λ m h. closure_contains T (add (literal b v) S) m (kept (literal b v) S m h)) u (w.below u f l)
    go (no l) = let e : u ≡ v = omega arith in rw e (shut_by _ v b (closure_contains T (add (literal b v) S) (literal b v) (added (literal b v) S)))

module _ (T : List Clause) (channels : ℕ) where
  -- ---- the levels

  -- the set before a try low of v, and the set H of its try high
  pub record Choice (depth : ℕ) (H : Literals) : Type 0 where
    pub values : List ℕ
    pub trail : List ℕ
    pub top : ℕ
    pub v : ℕ
    pub ready : Ready T values trail top v
    pub lowest : Lowest (held_in values) channels v
    pub deep : depth < v
    pub high : H ≡ tried T (held_in values) (plain v)

  -- undoing the trail to a level gives such a set, and so on from there
  pub data Stacked (levels : List ℕ) : List Literals → List ℕ → List ℕ → ℕ → Type 0 where
    none : {values trail : List ℕ} {top : ℕ} → Stacked levels [] values trail top
    level : {due : List Literals} {H : Literals} {values trail : List ℕ} {top : ℕ} (c : Choice (length due) H) → get_or levels (length due) 0 ≡ c.top
        → Since c.v c.values c.trail c.top values trail top → Stacked levels due c.values c.trail c.top → Stacked levels (H ∷ due) values trail top

  stacked_grown : {levels : List ℕ} {due : List Literals} {v₀ t₀ values trail : List ℕ} {top₀ top : ℕ} → Grown v₀ t₀ top₀ values trail top
      → Stacked levels due v₀ t₀ top₀ → Stacked levels due values trail top
  stacked_grown g none = none
  stacked_grown g (level c e s k) = level c e (since_more s g) k

  stacked_set : {levels : List ℕ} {due : List Literals} {values trail : List ℕ} {top : ℕ} (d x : ℕ) → length due ≤ d
      → Stacked levels due values trail top → Stacked (set levels d x) due values trail top
  stacked_set d x h none = none
  stacked_set {levels} d x h (level {due = due} c e s k) = level c (get_or-set_other levels d (length due) x 0 (λ f. absurd (omega arith)) ∙ e) s (stacked_set d x (omega arith) k)

  -- ---- where the search stands: at the closure of `at`; `due` are the sets of the tries high that are left to make

  module _ (variables limit : ℕ) where
    pub record Standing (values trail levels : List ℕ) (last : Closed) (depth n : ℕ) : Type 0 where
      pub at : Literals
      pub due : List Literals
      pub whole : Whole T variables channels n due (closure T at)
      pub few : n ≤ limit
      pub deep : depth ≡ length due
      pub shut : (u : ℕ) → 1 ≤ u → u ≤ depth → is_open (closure T at) u ≡ false
      pub holding : Holding T at values trail last
      pub long : length values ≡ variables
      pub fit : channels ≤ variables
      pub stacked : Stacked levels due values trail last.top

    pub standing : {values trail : List ℕ} {r : Closed} → Holding T nothing values trail r → length values ≡ variables → channels ≤ variables → (levels : List ℕ)
        → Standing values trail levels r 0 0
    standing c k h levels = record {
      at = nothing;
      due = [];
      whole = whole_begun T variables channels;
      few = omega arith;
      deep = refl;
      shut = λ u f t. absurd (omega arith);
      holding = c;
      long = k;
      fit = h;
      stacked = none;
    }

    -- after a try, low or high
    tried_on : {v₀ t₀ values trail levels : List ℕ} {top v : ℕ} {b : Bool} {r : Closed} → Lowest (held_in v₀) channels v → Tried T (literal b v) v₀ t₀ top values trail r
        → length v₀ ≡ variables → channels ≤ variables → (due : List Literals) {depth n : ℕ} → depth ≡ length due → depth ≤ v → n ≤ limit
        → Stacked levels due values trail r.top → Whole T variables channels n due (tried T (held_in v₀) (literal b v)) → Standing values trail levels r depth n
    tried_on {v₀} {v = v} {b} w t k h due e d m s a = record {
      at = add (literal b v) (held_in v₀);
      due = due;
      whole = a;
      few = m;
      deep = e;
      shut = λ u f l. shut_to T (held_in v₀) w b u f (omega arith);
      holding = t.holding;
      long = grown_length t.since.grown ∙ k;
      fit = h;
      stacked = s;
    }

    module _ {values trail levels : List ℕ} {last : Closed} {depth n : ℕ} (s : Standing values trail levels last depth n) where
      -- ---- no clash: a try low, or found

      module _ {v : ℕ} (c : last.clash ≡ false) (o : Openness values channels v) where
        -- what is said of the closure is said of the values
        here : (P : Literals → Type 0) → P (closure T s.at) → P (held_in values)
        here P p = subst P (sym (s.holding.calm c)) p

        pub low_found : v ≡ 0 → Started T variables channels limit values (Found n)
        low_found z =
            record {
              result = (
                whole_found T variables channels n s.due (held_in values) (never_clashes values variables) (o.none z)
                    (here (Whole T variables channels n s.due) s.whole),
                s.few,
              );
            }

        module _ (i : v ≡ 0 → ⊥) where
          abbrev low_due : List Literals
          low_due = tried T (held_in values) (plain v) ∷ s.due

          low_whole : Whole T variables channels (n + 1) low_due (tried T (held_in values) (negated v))
          low_whole = whole_low T variables channels n s.due (held_in values) v (never_clashes values variables) (o.lowest i) (here (Whole T variables channels n s.due) s.whole)

          pub low_spent : n ≡ limit → Started T variables channels limit values Spent
          low_spent e = record { result = omega (arith, whole_spent T variables channels n low_due (tried T (held_in values) (negated v)) low_whole) }

          pub low_ready : Ready T values trail last.top v
          low_ready = let w = o.lowest i in record {
            trailing = s.holding.trailing;
            closed = here (λ (S : Literals). S ≡ closure T S) (closed_same T (closure T s.at) (closure_closed T s.at));
            from = w.from;
            to = omega (arith, w.to, s.fit, s.long);
            free = w.free;
          }

          -- all variables up to the depth are shut
          low_deep : depth < v
          low_deep =
              let w = o.lowest i in
              let f : v ≤ depth → ⊥ = λ l. true≢false (sym w.free ∙ here (λ (S : Literals). is_open S v ≡ false) (s.shut v w.from l)) in omega (arith, f)

          pub low_room : depth < channels
          low_room = omega (arith, low_deep, (o.lowest i).to)

          pub low_on : {v₁ t₁ : List ℕ} {r : Closed} → depth < length levels → (n ≡ limit → ⊥) → Tried T (negated v) values trail last.top v₁ t₁ r
              → Standing v₁ t₁ (set levels depth last.top) r (depth + 1) (n + 1)
          low_on h m t =
              let k : Choice (length s.due) (tried T (held_in values) (plain v)) =
              record { values = values; trail = trail; top = last.top; v = v; ready = low_ready; lowest = o.lowest i; deep = omega (arith, low_deep, s.deep); high = refl } in
              let e = ap (λ (d : ℕ). get_or (set levels depth last.top) d 0) (sym s.deep) ∙ get_or-set_same levels depth last.top 0 h in
              tried_on (o.lowest i) t s.long s.fit low_due (omega (arith, s.deep)) (omega (arith, low_deep)) (omega (arith, s.few))
              (level k e t.since (stacked_set depth last.top (omega (arith, s.deep)) s.stacked)) low_whole

      -- ---- a clash: the innermost try high, or dead

      module _ (c : last.clash ≡ true) where
        clash : clashes variables (closure T s.at) ≡ true
        clash = ap (λ (m : ℕ). clashes m (closure T s.at)) (sym s.long) ∙ s.holding.clashing c

        pub high_dead : depth ≡ 0 → Started T variables channels limit values (Dead n)
        high_dead z = record { result = (go s.due s.deep s.whole, s.few) }
          where
            go : (due : List Literals) → depth ≡ length due → Whole T variables channels n due (closure T s.at) → tree T variables channels ≡ trial dead n
            go [] e w = whole_dead T variables channels n (closure T s.at) clash w
            go (H ∷ due) e w = absurd (omega arith)

        abbrev from : ℕ
        from = get_or levels (depth - 1) 0

        record Innermost : Type 0 where
          high : Literals
          due : List Literals
          deep : depth - 1 ≡ length due
          whole : Whole T variables channels (n + 1) due high
          choice : Choice (length due) high
          top : choice.top ≡ from
          since : Since choice.v choice.values choice.trail choice.top values trail last.top
          stacked : Stacked levels due choice.values choice.trail choice.top

        module _ (i : depth ≡ 0 → ⊥) where
          innermost : Innermost
          innermost = go s.deep s.whole s.stacked
            where
              go : {due : List Literals} → depth ≡ length due → Whole T variables channels n due (closure T s.at) → Stacked levels due values trail last.top → Innermost
              go e w none = absurd (i e)
              go e w (level {due} {H} k l b r) = record {
                high = H;
                due = due;
                deep = omega arith;
                whole = whole_high T variables channels n due (closure T s.at) H clash w;
                choice = k;
                top = sym l ∙ ap (λ (d : ℕ). get_or levels d 0) (omega arith);
                since = b;
                stacked = r;
              }

          pub high_spent : n ≡ limit → Started T variables channels limit values Spent
          high_spent e = record { result = omega (arith, whole_spent T variables channels n innermost.due innermost.high innermost.whole) }

          pub high_room : depth - 1 < channels
          high_room = let k = innermost.choice in omega (arith, innermost.deep, k.deep, k.lowest.to)

          -- the values before its try low, with the trail as it is now
          back : let k = innermost.choice in Grown k.values k.trail k.top k.values trail k.top
          back = let k = innermost.choice in let g = innermost.since.grown in record {
            trailing = record { small = k.ready.trailing.small; full = k.ready.trailing.full; room = omega (arith, grown_length g, g.trailing.room); few = k.ready.trailing.few };
            more = omega arith;
            same = g.same;
            ranged = record { each = λ j f t. absurd (omega arith) };
            back = undone_none trail k.top (k.top - k.top) k.values (omega arith);
          }

          pub high_ready : Undoable T values trail from last.top
          high_ready =
              let b = innermost.since in let r = innermost.choice.ready in let t = s.holding.trailing in
              subst (λ (from : ℕ). Undoable T values trail from last.top) innermost.top (record {
                on = b.more;
                room = omega (arith, held_le values, t.full, t.room);
                ranged = b.grown.ranged;
                ready = rw (b.first, b.grown.back) (record { trailing = back.trailing; closed = r.closed; from = r.from; to = r.to; free = r.free });
              })

          pub high_on : {v₁ t₁ : List ℕ} {r : Closed} → (n ≡ limit → ⊥) → Tried T (plain (get_or trail from 0)) (undone trail from (last.top - from) values) trail from v₁ t₁ r
              → Standing v₁ t₁ levels r (depth - 1) (n + 1)
          high_on {v₁} {t₁} {r} m t =
              let b = innermost in let k = b.choice in let g = b.since.grown in
              let u : Tried T (plain k.v) k.values trail k.top v₁ t₁ r = rw (sym b.top, b.since.first, g.back) at t in
              tried_on k.lowest u (sym (grown_length g) ∙ s.long) s.fit b.due b.deep (omega (arith, b.deep, k.deep)) (omega (arith, s.few))
              (stacked_grown (grown_more back u.since.grown) b.stacked) (subst (Whole T variables channels (n + 1) b.due) k.high b.whole)
