-- The clauses that were visited cover those of a table that name u: then the table was reached for u. What covers a part and what covers
-- the rest cover the whole, and what was reached in one list of clauses and then in another was reached in both.
use mathlib.Core.Path.{◌≡◌, sym, ap₂, ◌∙◌, subst}
use mathlib.Core.Bool.{true, false, true≢false}
use mathlib.Core.List.{List, [], ◌∷◌, ◌++◌, flat_map}
use Prim.Native.Nat.{ℕ, zero, suc, ◌<◌}
use native.Mathlib.Omega.{arith}
use lib.ListN.{length}
use Rattle.lists.specs.Listing.{rows, All}
use Rattle.lists.proofs.Listing.{below_suc, rows_rest}
use Rattle.lists.proofs.Lists.{all_map, all_append, all_split, all_rows}
use Rattle.paper_circuit.specs.Circuit.{Definition}
use Rattle.paper_clauses.specs.Clauses.{Clause, clauses_by}
use Rattle.paper_closure.specs.Closure.{Literals, members_in}
use Rattle.paper_closure.specs.Runs.{clashes}
use Rattle.paper_closure.proofs.Sets.{In}
use Rattle.paper_closure.proofs.Closure.{Closed}
use Rattle.search_closing.specs.Values.{held_in, Trailing}
use Rattle.search_closing.specs.declared.Closed.{Closed as Ended}
use Rattle.search_closing.proofs.Trail.{grown_more, grown_length}
use Rattle.table_nodes.proofs.Nodes.{clauses_join}
use Rattle.search_visits.specs.Visits.{Due, Visited}
use Rattle.search_visits.proofs.Parts.{visited_none, Part, part_first, part_next, part_same, part_clash, closed_join, due_still, due_before, grown_below}
use Rattle.search_clauses.specs.Clauses.{clauses_at}
use Rattle.search_clauses.proofs.Walk.{by_rows}
use Rattle.search_fanout.specs.Fanout.{Names, DueAt, Reached}

-- ---- parts of a table

pub part_none : (T : List Clause) → Part [] T
unfolding members_in flat_map
part_none T S c = tt

pub part_both : (P Q T : List Clause) → Part P T → Part Q T → Part (P ++ Q) T
part_both P Q T p q S c = closed_join (In S) P Q (p S c) (q S c)

pub part_each : (T : List Clause) (f : ℕ → List Clause) (m : ℕ) → ((e : ℕ) → e < m → Part (f e) T) → Part (rows m f) T
unfolding rows
part_each T f zero h S c = part_none T S c
part_each T f (suc m) h S c = closed_join (In S) (rows m f) (f m) (part_each T f m (λ e l. h e (omega arith)) S c) (h m (omega arith) S c)

pub part_row : (f : ℕ → List Clause) (n x : ℕ) → x < n → Part (f x) (rows n f)
unfolding rows
part_row f n x h S c =
    let r = rows_rest f n (suc x) (omega arith) in
    part_next (rows x f) (f x) S (part_first (rows (suc x) f) r.0 S (subst (λ (T : List Clause). Closed T (In S)) (sym r.1) c))

-- the clauses of one definition among those of all
pub part_at : (D : List Definition) (x : ℕ) → x < length D → Part (clauses_at D x) (clauses_by D)
part_at D x l S c = part_row (clauses_at D) (length D) x l S (subst (λ (T : List Clause). Closed T (In S)) (sym (by_rows D)) c)

pub part_left : (D E : List Definition) (W : List Clause) → Part W (clauses_by D) → Part W (clauses_by (D ++ E))
part_left D E W p S c = p S (part_first (clauses_by D) (clauses_by E) S (subst (λ (T : List Clause). Closed T (In S)) (clauses_join D E) c))

pub part_right : (D E : List Definition) (W : List Clause) → Part W (clauses_by E) → Part W (clauses_by (D ++ E))
part_right D E W p S c = p S (part_next (clauses_by D) (clauses_by E) S (subst (λ (T : List Clause). Closed T (In S)) (clauses_join D E) c))

-- ---- what was visited, W, covers the clauses of T that name u

-- whatever holds of the visited clauses holds of them
pub record Covers (T : List Clause) (u : ℕ) (W : List Clause) : Type 1 where
  pub whatever : (Q : Clause → Type 0) → All Q W → All (λ c. Names u c → Q c) T

-- no clause names u
pub record Unnamed (T : List Clause) (u : ℕ) : Type 0 where
  pub none : All (λ c. Names u c → ⊥) T

pub covers_none : {T : List Clause} {u : ℕ} (W : List Clause) → Unnamed T u → Covers T u W
covers_none {T} {u} W n = record { whatever = λ Q q. all_map (λ c. Names u c → ⊥) (λ c. Names u c → Q c) (λ c f m. absurd (f m)) T n.none }

pub covers_self : (T : List Clause) (u : ℕ) → Covers T u T
covers_self T u = record { whatever = λ Q q. all_map Q (λ c. Names u c → Q c) (λ c q _. q) T q }

pub covers_first : {T : List Clause} {u : ℕ} (P W : List Clause) → Covers T u P → Covers T u (P ++ W)
covers_first P W h = record { whatever = λ Q q. h.whatever Q (all_split Q P W q).0 }

pub covers_next : {T : List Clause} {u : ℕ} (P W : List Clause) → Covers T u W → Covers T u (P ++ W)
covers_next P W h = record { whatever = λ Q q. h.whatever Q (all_split Q P W q).1 }

all_row : (Q : Clause → Type 0) (f : ℕ → List Clause) (n i : ℕ) → All Q (rows n f) → i < n → All Q (f i)
unfolding rows
all_row Q f zero i a h = absurd (omega arith)
all_row Q f (suc n) i a h = let s = all_split Q (rows n f) (f n) a in below_suc (λ i. All Q (f i)) n i h (λ l. all_row Q f n i s.0 l) s.1

pub covers_row : {T : List Clause} {u : ℕ} (f : ℕ → List Clause) (n i : ℕ) → i < n → Covers T u (f i) → Covers T u (rows n f)
covers_row f n i l h = record { whatever = λ Q q. h.whatever Q (all_row Q f n i q l) }

pub covers_both : {S T : List Clause} {u : ℕ} {W : List Clause} → Covers S u W → Covers T u W → Covers (S ++ T) u W
covers_both {S} {T} {u} a b = record { whatever = λ Q q. all_append (λ c. Names u c → Q c) S T (a.whatever Q q) (b.whatever Q q) }

pub covers_rows : {u : ℕ} {W : List Clause} (f : ℕ → List Clause) (n : ℕ) → ((y : ℕ) → y < n → Covers (f y) u W) → Covers (rows n f) u W
covers_rows {u} f n h = record { whatever = λ Q q. all_rows (λ c. Names u c → Q c) n f (λ y l. (h y l).whatever Q q) }

pub covers_join : (D E : List Definition) {u : ℕ} {W : List Clause} → Covers (clauses_by D) u W → Covers (clauses_by E) u W → Covers (clauses_by (D ++ E)) u W
covers_join D E {u} {W} a b = subst (λ (T : List Clause). Covers T u W) (sym (clauses_join D E)) (covers_both a b)

-- ---- reached

-- W suffices for u in T: it is a part of T, and covers it
pub record Suffices (T : List Clause) (u : ℕ) (W : List Clause) : Type 1 where
  pub part : Part W T
  pub covers : Covers T u W

due_all : (R S : Literals) (W : List Clause) → Due R S W → All (DueAt R S) W
due_all R S [] d = tt
due_all R S (c ∷ W) d = (d.0, due_all R S W d.1)

pub reached : {T W : List Clause} {u : ℕ} {v₀ t₀ values trail : List ℕ} {top₀ : ℕ} {r : Ended} → Suffices T u W →
    Visited W v₀ t₀ top₀ values trail r → Reached T u v₀ t₀ top₀ values trail r
reached {T} {W} {v₀ = v₀} {values = values} k w = record {
  grown = w.grown;
  same = part_same W T k.part _ _ w.same;
  due = λ e. k.covers.whatever (DueAt (held_in v₀) (held_in values)) (due_all (held_in v₀) (held_in values) W (w.due e));
  clashing = λ e. part_clash W T k.part _ _ (w.clashing e);
}

pub suffices_self : (T : List Clause) (u : ℕ) → Suffices T u T
suffices_self T u = record { part = λ S c. c; covers = covers_self T u }

pub suffices_none : {T : List Clause} {u : ℕ} → Unnamed T u → Suffices T u []
suffices_none {T} n = record { part = part_none T; covers = covers_none [] n }

-- nothing was visited
pub unread : {T : List Clause} {u : ℕ} {values trail : List ℕ} {top : ℕ} → Unnamed T u → Trailing values trail top
    → Reached T u values trail top values trail (record { clash = false; top = top })
unread n t = reached (suffices_none n) (visited_none t)

-- reached for a variable by another name
pub reached_there : {T : List Clause} {u x : ℕ} {v₀ t₀ values trail : List ℕ} {top₀ : ℕ} {r : Ended} → u ≡ x →
    Reached T u v₀ t₀ top₀ values trail r → Reached T x v₀ t₀ top₀ values trail r
reached_there {T} {v₀ = v₀} {t₀} {values} {trail} {top₀} {r} e w = subst (λ (u : ℕ). Reached T u v₀ t₀ top₀ values trail r) e w

module _ {u : ℕ} {A : List Clause} {v₀ t₀ v₁ t₁ : List ℕ} {top₀ : ℕ} {r : Ended} (w : Reached A u v₀ t₀ top₀ v₁ t₁ r) (B : List Clause) where
  pub reached_stop : r.clash ≡ true → Reached (A ++ B) u v₀ t₀ top₀ v₁ t₁ r
  reached_stop e = record {
    grown = w.grown;
    same = part_same A (A ++ B) (part_first A B) _ _ w.same;
    due = λ f. absurd (true≢false (sym e ∙ f));
    clashing = λ f. part_clash A (A ++ B) (part_first A B) _ _ (w.clashing f);
  }

  pub reached_then : {v₂ t₂ : List ℕ} {s : Ended} → r.clash ≡ false → Reached B u v₁ t₁ r.top v₂ t₂ s → Reached (A ++ B) u v₀ t₀ top₀ v₂ t₂ s
  reached_then {v₂} e x = record {
    grown = grown_more w.grown x.grown;
    same = part_same B (A ++ B) (part_next A B) _ _ x.same ∙ part_same A (A ++ B) (part_first A B) _ _ w.same;
    due = λ f. all_append (λ c. Names u c → DueAt (held_in v₀) (held_in v₂) c) A B
        (all_map (λ c. Names u c → DueAt (held_in v₀) (held_in v₁) c) (λ c. Names u c → DueAt (held_in v₀) (held_in v₂) c)
        (λ c d m. (due_still (held_in v₀) (held_in v₁) (held_in v₂) (grown_below w.grown) (grown_below x.grown) (c ∷ []) (d m, tt)).0) A (w.due e))
        (all_map (λ c. Names u c → DueAt (held_in v₁) (held_in v₂) c) (λ c. Names u c → DueAt (held_in v₀) (held_in v₂) c)
        (λ c d m. (due_before (held_in v₀) (held_in v₁) (held_in v₂) (grown_below w.grown) (grown_below x.grown) (c ∷ []) (d m, tt)).0) B (x.due f));
    clashing = λ f. ap₂ clashes (sym (grown_length w.grown)) (sym (part_same A (A ++ B) (part_first A B) _ _ w.same))
        ∙ part_clash B (A ++ B) (part_next A B) (length v₁) (held_in v₁) (x.clashing f);
  }
