-- What the table says is forced is what the gate's clauses force first, under the values of their variables; each such literal added keeps
-- the closure, and where none is left the set is closed.
use mathlib.Core.Path.{◌≡◌, refl, sym, ap, ap₂, ◌∙◌, subst, fun_ext}
use mathlib.Core.Bool.{Bool, true, false, true≢false, false≢true}
use mathlib.Core.List.{List, [], ◌∷◌}
use mathlib.Core.Option.{Option, none, some}
use Prim.Native.Nat.{ℕ, zero, suc, ◌+◌, ◌-◌, ◌*◌, ◌/◌, ◌%◌, ◌^◌, ◌≤◌, ◌<◌}
use native.Mathlib.Omega.{arith}
use lib.Arith.{lt_of_le-ne}
use lib.Dec.{eqb}
use lib.ListN.{length}
use Rattle.paper_meaning.specs.Meaning.{bit}
use Rattle.paper_meaning.proofs.Laws.{bit_le}
use Rattle.paper_circuit.specs.declared.Gate.TheVariants.{Constant, Copy, Inverse, Both, Either, Step}
use Rattle.paper_clauses.specs.Clauses.{Literal, literal, Clause, clauses_of}
use Rattle.paper_clauses.specs.Entries.{entry, literal_of}
use Rattle.paper_closure.specs.Closure.{Literals, opposite, add, members_in}
use Rattle.paper_closure.specs.Tree.{first_forced, closure}
use Rattle.paper_closure.proofs.Sets.{In, added}
use Rattle.paper_closure.proofs.Closure.{Closed, none_forced, some_forced, some_outside, closure_contains, closure_closed, closed_same, closure_add}
use Rattle.paper_closure.proofs.Open.{both_clash}
use Rattle.search_closing.specs.Values.{value_for, held, held_in, Trailing, Grown, Added}
use Rattle.search_closing.specs.declared.Closed.{Closed as Ended}
use Rattle.search_closing.proofs.Trail.{held_le, grown_none, grown_length, grown_same, grown_more}
use Rattle.search_closing.proofs.Held.{nothing_there}
use Rattle.search_patterns.specs.Patterns.{value_at, Settled, pattern_of, among, rename_by, renamed, code_of, four_of, forced_by, Forces, ended_by}
use Rattle.table_gates.specs.Mentioned.{Variable}
use Rattle.search_patterns.specs.declared.Pattern.{Pattern}
use Rattle.search_patterns.specs.declared.Pattern.TheVariants as pattern
use Rattle.std.specs.Prelude.{Some, None}
use Rattle.search_patterns.proofs.Renamed.{closed_to, closed_from}

parity : (n : ℕ) (u : Bool) → eqb ((2 * n + bit u + 2) % 2) 1 ≡ u
parity n true = let h : (2 * n + 1 + 2) % 2 ≡ 1 = omega arith in rw h
parity n false = let h : (2 * n + 0 + 2) % 2 ≡ 0 = omega arith in rw h

coded : (o : Option Literal) {e : ℕ} → e ≡ code_of o → (e ≡ 0 → ⊥) → (l : Literal) × (o ≡ some l) × (e ≡ 2 * l.variable + bit l.sign + 2)
coded none h n = absurd (n h)
coded (some l) h n = (l, refl, h)

uncoded : (o : Option Literal) → code_of o ≡ 0 → o ≡ none
uncoded none h = refl
uncoded (some l) h = absurd (omega arith)

module _ (values : List ℕ) (v x y z : ℕ) (hv : 1 ≤ v) (hx : 1 ≤ x) (hy : 1 ≤ y) (hz : 1 ≤ z) where
  abbrev four : Literals
  four = four_of (value_at values v) (value_at values x) (value_at values y) (value_at values z)

  four_held : four ≡ (λ l. held_in values (rename_by (among v x y z) l))
  unfolding held_in
  four_held = fun_ext (λ l. go l.variable l.sign)
    where
      at : (w : ℕ) → 1 ≤ w → (u : Bool) → eqb (value_at values w) (value_for u) ≡ held values u w
      at zero h u = absurd (omega arith)
      at (suc w) h u = let e : suc w - 1 ≡ w = omega arith in rw e

      go : (n : ℕ) (u : Bool) → held (value_at values v ∷ value_at values x ∷ value_at values y ∷ value_at values z ∷ []) u n ≡ held values u (among v x y z n)
      go zero u = refl
      go (suc zero) u = at v hv u
      go (suc (suc zero)) u = at x hx u
      go (suc (suc (suc zero))) u = at y hy u
      go (suc (suc (suc (suc zero)))) u = at z hz u
      go (suc (suc (suc (suc (suc n))))) u = nothing_there u

  module _ (g : Pattern) {e : ℕ} (h : e ≡ forced_by g (value_at values v) (value_at values x) (value_at values y) (value_at values z)) where
    abbrev T : List Clause
    T = renamed (among v x y z) (pattern_of g)

    first : e ≡ code_of (first_forced (members_in (pattern_of g)) four)
    unfolding forced_by
    first = h

    pub nothing_forced : e ≡ 0 → Forces T values None
    nothing_forced n =
        closed_same T (held_in values) (closed_to (among v x y z) (In (held_in values)) (pattern_of g)
        (subst (λ (L : Literals). Closed (pattern_of g) (In L)) four_held (none_forced (members_in (pattern_of g)) four (uncoded _ (sym first ∙ n)))))

    pub literal_forced : (e ≡ 0 → ⊥) → e ≤ 11 → 4 ≤ e → {u k : ℕ} → Variable k v → Variable k x → Variable k y → Variable k z → k ≡ length values
        → ((m : ℕ) (b : Bool) → e ≡ 2 * m + bit b + 2 → 1 ≤ m → m ≤ 4 → u ≡ among v x y z m) → Forces T values (Some (u, e))
    literal_forced n up low {u} iv ix iy iz len pick =
        let (l, o, q) = coded (first_forced (members_in (pattern_of g)) four) first n in
        let m1 : 1 ≤ l.variable = omega (arith, bit_le l.sign) in
        let m4 : l.variable ≤ 4 = omega (arith, bit_le l.sign) in
        let w = pick l.variable l.sign q m1 m4 in
        let same : literal_of (entry u e) ≡ rename_by (among v x y z) l = ap₂ literal (ap (λ (e : ℕ). eqb (e % 2) 1) q ∙ parity l.variable l.sign) w in (
          rw w (within l.variable m1 m4),
          rw same (some_forced (members_in (pattern_of g)) four o (λ (k : Literal). In (closure T (held_in values)) (rename_by (among v x y z) k))
              (closed_from (among v x y z) (In (closure T (held_in values))) (pattern_of g) (closure_closed T (held_in values)))
              (λ k i. closure_contains T (held_in values) (rename_by (among v x y z) k) (sym (ap (λ (L : Literals). L k) four_held) ∙ i))),
          rw same (sym (ap (λ (L : Literals). L l) four_held) ∙ some_outside (members_in (pattern_of g)) four o),
        )
      where
        within : (m : ℕ) → 1 ≤ m → m ≤ 4 → Variable (length values) (among v x y z m)
        within zero f t = absurd (omega arith)
        within (suc zero) f t = omega (arith, iv, len)
        within (suc (suc zero)) f t = omega (arith, ix, len)
        within (suc (suc (suc zero))) f t = omega (arith, iy, len)
        within (suc (suc (suc (suc zero)))) f t = omega (arith, iz, len)
        within (suc (suc (suc (suc (suc m))))) f t = absurd (omega arith)

pub known : (g : Pattern) {a b c d a' b' c' d' e : ℕ} → a ≡ a' → b ≡ b' → c ≡ c' → d ≡ d' → e ≡ forced_by g a b c d → e ≡ forced_by g a' b' c' d'
known g p q r s h = cc

pub there : {n m v : ℕ} → m ≡ n → Variable n v → Variable m v
there e w = omega (arith, w)

-- ---- literal after literal

pub record Visits (T : List Clause) (v₀ t₀ : List ℕ) (top₀ : ℕ) (values trail : List ℕ) (top : ℕ) : Type 0 where
  pub grown : Grown v₀ t₀ top₀ values trail top
  pub same : closure T (held_in values) ≡ closure T (held_in v₀)

pub visits_none : (T : List Clause) {values trail : List ℕ} {top : ℕ} → Trailing values trail top → Visits T values trail top values trail top
visits_none T t = record { grown = grown_none t; same = refl }

module _ {T : List Clause} {v₀ t₀ values trail : List ℕ} {top₀ top : ℕ} (P : Visits T v₀ t₀ top₀ values trail top) where
  pub visits_few : top < 2 ^ 32
  visits_few = let t = P.grown.trailing in omega (arith, t.full, t.few, held_le values)

  pub settled : held_in values ≡ closure T (held_in values) → Settled T v₀ t₀ top₀ values trail (record { clash = false; top = top })
  settled c = record { grown = P.grown; same = P.same; calm = λ _. c; clashing = λ e. absurd (false≢true e) }

  module _ (l : Literal) (w : Variable (length values) l.variable) (i : In (closure T (held_in values)) l) where
    pub settled_clash : In (held_in values) (opposite l) → Settled T v₀ t₀ top₀ values trail (record { clash = true; top = top })
    settled_clash o = record {
      grown = P.grown;
      same = P.same;
      calm = λ e. absurd (true≢false e);
      clashing = λ _. rw (← P.same) (both_clash (length v₀) _ l w.0 (omega (arith, w.1, grown_length P.grown)) i (closure_contains T (held_in values) (opposite l) o));
    }

    module _ {u t : List ℕ} {n : ℕ} (a : Added l values trail top u t n) where
      pub visits_more : Visits T v₀ t₀ top₀ u t n
      visits_more = record { grown = grown_more P.grown a.grown; same = ap (closure T) a.added ∙ closure_add T _ l i ∙ P.same }

      pub visits_fewer : held_in values l ≡ false → length v₀ - n < length v₀ - top
      visits_fewer f =
          let g = grown_more P.grown a.grown in
          omega (arith, lt_of_le-ne a.grown.more still, held_le u, g.trailing.full, grown_length g)
        where
          still : top ≡ n → ⊥
          still e =
              let s : held_in values ≡ add l (held_in values) = ap held_in (sym (grown_same a.grown (sym e))) ∙ a.added in
              true≢false (sym (subst (λ (S : Literals). In S l) (sym s) (added l (held_in values))) ∙ f)

-- ---- the patterns are the gates

pub patterns : (v x y z : ℕ) → (renamed (among v x v v) (pattern_of pattern.Copy) ≡ clauses_of v (Copy x)) × (renamed (among v x v v) (pattern_of pattern.Inverse) ≡ clauses_of v (Inverse x))
    × (renamed (among v x y v) (pattern_of pattern.Both) ≡ clauses_of v (Both x y)) × (renamed (among v x y v) (pattern_of pattern.Either) ≡ clauses_of v (Either x y))
    × (renamed (among v x y z) (pattern_of pattern.Step) ≡ clauses_of v (Step x y z)) × (renamed (among v v v v) (pattern_of pattern.Low) ≡ clauses_of v (Constant false))
    × (renamed (among v v v v) (pattern_of pattern.High) ≡ clauses_of v (Constant true))
unfolding renamed pattern_of clauses_of
patterns v x y z = (refl, refl, refl, refl, refl, refl, refl)

pub settled_named : {T P : List Clause} {v₀ t₀ values trail : List ℕ} {top₀ : ℕ} {r : Ended} → T ≡ P →
    Settled T v₀ t₀ top₀ values trail r → Settled P v₀ t₀ top₀ values trail r
settled_named {v₀ = v₀} {t₀} {values} {trail} {top₀} {r} e w = subst (λ (P : List Clause). Settled P v₀ t₀ top₀ values trail r) e w

-- ---- how it ended, as one number

pub ended_named : {T : List Clause} {v₀ t₀ values trail : List ℕ} {top₀ : ℕ} {r s : Ended} → r ≡ s →
    Settled T v₀ t₀ top₀ values trail s → Settled T v₀ t₀ top₀ values trail r
ended_named {T} {v₀} {t₀} {values} {trail} {top₀} e w = subst (λ (r : Ended). Settled T v₀ t₀ top₀ values trail r) (sym e) w

pub calm_ended : {T : List Clause} {v₀ t₀ values trail : List ℕ} {top₀ t : ℕ} →
    Settled T v₀ t₀ top₀ values trail (record { clash = false; top = t }) → Settled T v₀ t₀ top₀ values trail (ended_by (2 * t))
calm_ended {t = t} w = let e : 2 * t % 2 ≡ 0 = omega arith in let f : 2 * t / 2 ≡ t = omega arith in rw (e, f) w

pub clash_ended : {T : List Clause} {v₀ t₀ values trail : List ℕ} {top₀ t : ℕ} →
    Settled T v₀ t₀ top₀ values trail (record { clash = true; top = t }) → Settled T v₀ t₀ top₀ values trail (ended_by (2 * t + 1))
clash_ended {t = t} w = let e : (2 * t + 1) % 2 ≡ 1 = omega arith in let f : (2 * t + 1) / 2 ≡ t = omega arith in rw (e, f) w
