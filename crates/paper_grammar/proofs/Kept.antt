-- A reading says which bytes it has taken, and each step adds its byte to them: so what it reads prints as the text. Every reading
-- can be completed, and where it stops at a byte it stops there whatever follows: so no grammatical text goes on with that byte.
use mathlib.Core.Path.{◌≡◌, refl, sym, ap, ◌∙◌}
use mathlib.Core.Bool.{Bool, true, false, cond, false≢true}
use mathlib.Core.List.{List, [], ◌∷◌, ◌++◌, append_assoc}
use Prim.Native.Nat.{ℕ, ◌+◌, ◌-◌, ◌<◌}
use native.Mathlib.Omega.{arith}
use lib.Dec.{eqb}
use borrow.Author.Tests.{eqb-true, eqb-false}
use Rattle.paper_grammar.specs.Trees.{and, Tree, constant, negation, pair, duration, throughout, Letters, decimal, link_byte, constant_byte, write, text_of}
use Rattle.paper_grammar.specs.Reader.{Around, whole, negated, left, right, measured, entered, Reading, part, after, above, equals, digits}
use Rattle.paper_grammar.specs.Reader.{Next, go, stop, Ending, reads, stops, is_letter, is_digit, own_lead, lead_of, leaf_of, begin, own_joint}
use Rattle.paper_grammar.specs.Reader.{joint_of, join, follow, next, end_after, at_end, onward, run}
use Rattle.paper_grammar.specs.declared.Sort.{Sort}
use Rattle.paper_grammar.specs.declared.Sort.TheVariants.{State, Formula}
use Rattle.paper_grammar.specs.declared.Lead.{Lead}
use Rattle.paper_grammar.specs.declared.Lead.TheVariants.{Leaf, Not, Open, Measure, Enter, Other}
use Rattle.paper_grammar.specs.declared.Joint.{Joint}
use Rattle.paper_grammar.specs.declared.Joint.TheVariants.{And, Or, Chop, Nothing}
use Rattle.paper_grammar.proofs.Decimal.{decimal_digit, decimal_more}
use Rattle.lists.proofs.Tests.{cond_elim, ranged}
use Rattle.paper_grammar.proofs.Printed.{one}

-- the bytes taken before a part, and q after them
abbrev taken : {r s : Sort} → Around r s → List ℕ → List ℕ
taken whole q = q
taken (negated K) q = taken K (33 ∷ q)
taken (left K) q = taken K (40 ∷ q)
taken (right l x K) q = taken K (40 ∷ write x (link_byte l ∷ q))
taken (measured K) q = taken K (35 ∷ q)
taken (entered K) q = taken K (91 ∷ q)

-- the bytes taken, and q after them
abbrev pub wrote : {r : Sort} → Reading r → List ℕ → List ℕ
wrote (part s K) q = taken K q
wrote (after x K) q = taken K (write x q)
wrote (above x K) q = taken K (35 ∷ write x (62 ∷ q))
wrote (equals x K) q = taken K (35 ∷ write x (62 ∷ 61 ∷ q))
wrote (digits x n K) q = taken K (write (duration x n) q)

-- every letter read is a channel, and the first digit of a number that may go on is not 0
abbrev Within : {r s : Sort} → Around r s → Type 0
Within whole = Unit
Within (negated K) = Within K
Within (left K) = Within K
Within (right l x K) = Letters 8 x × Within K
Within (measured K) = Within K
Within (entered K) = Within K

abbrev pub Sane : {r : Sort} → Reading r → Type 0
Sane (part s K) = Within K
Sane (after x K) = Letters 8 x × Within K
Sane (above x K) = Letters 8 x × Within K
Sane (equals x K) = Letters 8 x × Within K
Sane (digits x n K) = Letters 8 x × Within K × (0 < n)

-- a step keeps the bytes
abbrev Kept : {r : Sort} → (List ℕ → List ℕ) → ℕ → Next r → Type 0
Kept before b (go n) = Sane n × ((q : List ℕ) → before (b ∷ q) ≡ wrote n q)
Kept before b stop = Unit

-- what a lead and a joint say of the byte
abbrev Led : Sort → ℕ → Lead → Type 0
Led s b Leaf = Letters 8 (leaf_of s b) × ((q : List ℕ) → b ∷ q ≡ write (leaf_of s b) q)
Led s b Not = b ≡ 33
Led s b Open = b ≡ 40
Led s b Measure = b ≡ 35
Led s b Enter = b ≡ 91
Led s b Other = Unit

abbrev Joined : ℕ → Joint → Type 0
Joined b And = b ≡ 38
Joined b Or = b ≡ 124
Joined b Chop = b ≡ 59
Joined b Nothing = Unit

constant_led : (s : Sort) (v : Bool) (b : ℕ) → b ≡ constant_byte v → Led s b Leaf
unfolding write
constant_led State true b e = rw e (tt, λ q. refl)
constant_led State false b e = rw e (tt, λ q. refl)
constant_led Formula true b e = rw e (tt, λ q. refl)
constant_led Formula false b e = rw e (tt, λ q. refl)

own_led : (s : Sort) (b : ℕ) → Led s b (own_lead s b)
unfolding write
own_led State b = cond_elim (Led State b) (is_letter b)
    (λ h.
    let w = ranged 97 _ b h in
    let e : b ≡ 97 + (b - 97) = omega arith in
    rw h (omega arith, λ q. ap (λ (c : ℕ). c ∷ q) e))
    (λ h. tt)
own_led Formula b = cond_elim (Led Formula b) (eqb b 35) (eqb-true b 35) (λ e. cond_elim (Led Formula b) (eqb b 91) (eqb-true b 91) (λ g. tt))

led : (s : Sort) (b : ℕ) → Led s b (lead_of s b)
led s b = cond_elim (Led s b) (eqb b 84) (λ e. constant_led s true b (eqb-true b 84 e))
    (λ e. cond_elim (Led s b) (eqb b 70) (λ e. constant_led s false b (eqb-true b 70 e))
    (λ e. cond_elim (Led s b) (eqb b 33) (eqb-true b 33)
    (λ e. cond_elim (Led s b) (eqb b 40) (eqb-true b 40) (λ e. own_led s b))))

own_joined : (s : Sort) (b : ℕ) → Joined b (own_joint s b)
own_joined State b = tt
own_joined Formula b = cond_elim (Joined b) (eqb b 59) (eqb-true b 59) (λ e. tt)

joined : (s : Sort) (b : ℕ) → Joined b (joint_of s b)
joined s b = cond_elim (Joined b) (eqb b 38) (eqb-true b 38) (λ e. cond_elim (Joined b) (eqb b 124) (eqb-true b 124) (λ e. own_joined s b))

module _ {r : Sort} where
  -- a byte that must be v
  exactly : (m n : Reading r) (v b : ℕ) → Sane n → ((q : List ℕ) → wrote m (v ∷ q) ≡ wrote n q) → Kept (wrote m) b (cond (eqb b v) (go n) stop)
  exactly m n v b w k = cond_elim (Kept (wrote m) b) (eqb b v) (λ e. (w, λ q. ap (λ (c : ℕ). wrote m (c ∷ q)) (eqb-true b v e) ∙ k q)) (λ e. tt)

  begin_keeps : (s : Sort) (K : Around r s) (b : ℕ) → Within K → (l : Lead) → Led s b l → Kept (taken K) b (begin s K b l)
  begin_keeps s K b w Leaf h = ((h.0, w), λ q. ap (taken K) (h.1 q))
  begin_keeps s K b w Not h = (w, λ q. ap (λ (c : ℕ). taken K (c ∷ q)) h)
  begin_keeps s K b w Open h = (w, λ q. ap (λ (c : ℕ). taken K (c ∷ q)) h)
  begin_keeps State K b w Measure h = tt
  begin_keeps Formula K b w Measure h = (w, λ q. ap (λ (c : ℕ). taken K (c ∷ q)) h)
  begin_keeps State K b w Enter h = tt
  begin_keeps Formula K b w Enter h = (w, λ q. ap (λ (c : ℕ). taken K (c ∷ q)) h)
  begin_keeps s K b w Other h = tt

  join_keeps : (s : Sort) (x : Tree s) (K : Around r s) (b : ℕ) → Letters 8 x → Within K → (j : Joint) → Joined b j → Kept (wrote (after x (left K))) b (join s x K j)
  join_keeps s x K b u w And h = ((u, w), λ q. ap (λ (c : ℕ). taken K (40 ∷ write x (c ∷ q))) h)
  join_keeps s x K b u w Or h = ((u, w), λ q. ap (λ (c : ℕ). taken K (40 ∷ write x (c ∷ q))) h)
  join_keeps State x K b u w Chop h = tt
  join_keeps Formula x K b u w Chop h = ((u, w), λ q. ap (λ (c : ℕ). taken K (40 ∷ write x (c ∷ q))) h)
  join_keeps s x K b u w Nothing h = tt

  follow_keeps : (s : Sort) (x : Tree s) (K : Around r s) (b : ℕ) → Letters 8 x → Within K → Kept (wrote (after x K)) b (follow s x K b)
  unfolding follow write
  follow_keeps s x whole b u w = tt
  follow_keeps s x (negated K) b u w = follow_keeps s (negation x) K b u w
  follow_keeps s x (left K) b u w = join_keeps s x K b u w (joint_of s b) (joined s b)
  follow_keeps s x (right l y K) b u w = exactly (after x (right l y K)) (after (pair l y x) K) 41 b ((w.0, u), w.1) (λ q. refl)
  follow_keeps State x (measured K) b u w = exactly (after x (measured K)) (above x K) 62 b (u, w) (λ q. refl)
  follow_keeps State x (entered K) b u w = exactly (after x (entered K)) (after (throughout x) K) 93 b (u, w) (λ q. refl)

  keeps : (m : Reading r) (b : ℕ) → Sane m → Kept (wrote m) b (next m b)
  unfolding write
  keeps (part s K) b w = begin_keeps s K b w (lead_of s b) (led s b)
  keeps (after x K) b w = follow_keeps _ x K b w.0 w.1
  keeps (above x K) b w = exactly (above x K) (equals x K) 61 b w (λ q. refl)
  keeps (equals x K) b w = cond_elim (Kept (wrote (equals x K)) b) (eqb b 48)
      (λ e. (
        w,
        λ q. ap (λ (c : ℕ). taken K (35 ∷ write x (62 ∷ 61 ∷ c ∷ q))) (eqb-true b 48 e) ∙
            ap (λ (p : List ℕ). taken K (35 ∷ write x (62 ∷ 61 ∷ p ++ q))) (sym (decimal_digit 0 (omega arith))),
      ))
      (λ z. cond_elim (Kept (wrote (equals x K)) b) (is_digit b)
      (λ h.
      let v = ranged 48 57 b h in
      let nz : b ≡ 48 → ⊥ = eqb-false b 48 z in
      let e : 48 + (b - 48) ≡ b = omega arith in
      ((w.0, w.1, omega arith), λ q. ap (λ (p : List ℕ). taken K (35 ∷ write x (62 ∷ 61 ∷ p ++ q))) (sym (decimal_digit (b - 48) (omega arith) ∙ ap (λ (c : ℕ). c ∷ []) e))))
      (λ h. tt))
  keeps (digits x n K) b w = cond_elim (Kept (wrote (digits x n K)) b) (is_digit b)
      (λ h.
      let v = ranged 48 57 b h in
      let e : 48 + (b - 48) ≡ b = omega arith in (
        (w.0, w.1, omega (arith, w.2)),
        λ q. ap (λ (p : List ℕ). taken K (35 ∷ write x (62 ∷ 61 ∷ p)))
            (sym (append_assoc (decimal n) (b ∷ []) q) ∙ ap (λ (p : List ℕ). p ++ q) (ap (λ (c : ℕ). decimal n ++ c ∷ []) (sym e) ∙ sym (decimal_more n (b - 48) w.2 (omega arith)))),
      ))
      (λ h. follow_keeps Formula (duration x n) K b w.0 w.1)

  -- every reading can be completed
  abbrev Completed : Reading r → Type 0
  Completed m = (f : Tree r) × Letters 8 f × (q : List ℕ) × (wrote m q ≡ text_of f)

  complete_after : (s : Sort) (x : Tree s) (K : Around r s) → Letters 8 x → Within K → Completed (after x K)
  unfolding write
  complete_after s x whole u w = (x, u, [], refl)
  complete_after s x (negated K) u w = complete_after s (negation x) K u w
  complete_after s x (left K) u w = let (f, v, q, e) = complete_after s (pair and x (constant true)) K (u, tt) w in (f, v, 38 ∷ 84 ∷ 41 ∷ q, e)
  complete_after s x (right l y K) u w = let (f, v, q, e) = complete_after s (pair l y x) K (w.0, u) w.1 in (f, v, 41 ∷ q, e)
  complete_after State x (measured K) u w = let (f, v, q, e) = complete_after Formula (duration x 0) K u w in (f, v, 62 ∷ 61 ∷ decimal 0 ++ q, e)
  complete_after State x (entered K) u w = let (f, v, q, e) = complete_after Formula (throughout x) K u w in (f, v, 93 ∷ q, e)

  complete : (m : Reading r) → Sane m → Completed m
  unfolding write
  complete (part s K) w = let (f, v, q, e) = complete_after s (constant true) K tt w in (f, v, 84 ∷ q, e)
  complete (after x K) w = complete_after _ x K w.0 w.1
  complete (above x K) w = let (f, v, q, e) = complete_after Formula (duration x 0) K w.0 w.1 in (f, v, 61 ∷ decimal 0 ++ q, e)
  complete (equals x K) w = let (f, v, q, e) = complete_after Formula (duration x 0) K w.0 w.1 in (f, v, decimal 0 ++ q, e)
  complete (digits x n K) w = complete_after Formula (duration x n) K w.0 w.1

  -- what was read before the rest q, how it can go on, and that it never goes on with the first byte of q
  pub record Stopped (m : Reading r) (t q : List ℕ) : Type 0 where
    pub before : List ℕ
    pub is : t ≡ before ++ q
    pub on : List ℕ
    pub can : (f : Tree r) × Letters 8 f × (wrote m (before ++ on) ≡ text_of f)
    pub never : (b : ℕ) (q' p : List ℕ) → q ≡ b ∷ q' → run m (before ++ b ∷ p) ≡ stops (b ∷ p)

  -- what an outcome says
  abbrev pub Meant : Reading r → List ℕ → Ending r → Type 0
  Meant m t (reads x) = Letters 8 x × (wrote m t ≡ text_of x)
  Meant m t (stops q) = Stopped m t q

  -- the text's end: the bytes taken are the tree's text, or nothing is left
  abbrev Ended : List ℕ → Ending r → Type 0
  Ended t (reads x) = Letters 8 x × (t ≡ text_of x)
  Ended t (stops q) = q ≡ []

  ended_after : (s : Sort) (x : Tree s) (K : Around r s) → Letters 8 x → Within K → Ended (taken K (write x [])) (end_after s x K)
  unfolding end_after write
  ended_after s x whole u w = (u, refl)
  ended_after s x (negated K) u w = ended_after s (negation x) K u w
  ended_after s x (left K) u w = refl
  ended_after s x (right l y K) u w = refl
  ended_after s x (measured K) u w = refl
  ended_after s x (entered K) u w = refl

  ends : (m : Reading r) → Sane m → Ended (wrote m []) (at_end m)
  ends (part s K) w = refl
  ends (after x K) w = ended_after _ x K w.0 w.1
  ends (above x K) w = refl
  ends (equals x K) w = refl
  ends (digits x n K) w = ended_after Formula (duration x n) K w.0 w.1

  end_meant : (m : Reading r) → Sane m → (o : Ending r) → Ended (wrote m []) o → Meant m [] o
  end_meant m w (reads x) h = h
  end_meant m w (stops q) h =
      let (f, v, on, e) = complete m w in
      record { before = []; is = sym h; on = on; can = (f, v, e); never = λ b q' p g. absurd (false≢true cc) }

  step_meant : (m n : Reading r) (b : ℕ) (t : List ℕ) → next m b ≡ go n → ((q : List ℕ) → wrote m (b ∷ q) ≡ wrote n q) → (o : Ending r) → Meant n t o → Meant m (b ∷ t) o
  step_meant m n b t e k (reads x) h = (h.0, k t ∙ h.1)
  step_meant m n b t e k (stops q) h =
      let (f, v, g) = h.can in
      record {
        before = b ∷ h.before;
        is = ap (λ (l : List ℕ). b ∷ l) h.is;
        on = h.on;
        can = (f, v, k (h.before ++ h.on) ∙ g);
        never = λ c q' p g. one m b (h.before ++ c ∷ p) e ∙ h.never c q' p g;
      }

  stop_meant : (m : Reading r) (b : ℕ) (t : List ℕ) → Sane m → next m b ≡ stop → Stopped m (b ∷ t) (b ∷ t)
  unfolding run
  stop_meant m b t w e =
      let (f, v, on, g) = complete m w in
      record {
        before = [];
        is = refl;
        on = on;
        can = (f, v, g);
        never = λ c q' p h. let d : c ≡ b = cc in ap (onward (c ∷ p) (λ n. run n p)) (ap (next m) d ∙ e);
      }

  -- what every outcome says
  pub meant : (t : List ℕ) (m : Reading r) → Sane m → Meant m t (run m t)
  unfolding run
  meant [] m w = end_meant m w (at_end m) (ends m w)
  meant (b ∷ t) m w = go_on (next m b) refl (keeps m b w) (λ n. meant t n)
    where
      go_on : (n : Next r) → next m b ≡ n → Kept (wrote m) b n → ((n : Reading r) → Sane n → Meant n t (run n t)) → Meant m (b ∷ t) (onward (b ∷ t) (λ n. run n t) n)
      go_on (go n) e k ih = step_meant m n b t e k.1 (run n t) (ih n k.0)
      go_on stop e k ih = stop_meant m b t w e
