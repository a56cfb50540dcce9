-- A read that came to n goes on with the byte at n, if the text has one there: so each function's test of a byte is one step of the
-- reader, and a part's chain of calls is the reader's run.
use mathlib.Core.Path.{◌≡◌, refl, sym, ap, ◌∙◌, subst}
use mathlib.Core.Bool.{Bool, true, false, cond}
use mathlib.Core.List.{List, [], ◌∷◌}
use Prim.Native.Nat.{ℕ, suc, ◌+◌, ◌*◌, ◌-◌, ◌≤◌, ◌<◌}
use native.Mathlib.Decide.{dec_lt}
use native.Mathlib.Nat.{le_of_lt}
use native.Mathlib.Omega.{arith}
use native.Mathlib.Numerals.{add-one}
use lib.Dec.{eqb}
use lib.ListN.{length, get_or, take, drop, length-drop, drop_of_length-le}
use lib.Seq.{drop-cons, drop-drop, take_all}
use Rattle.std.specs.Prelude.{Ok, Err}
use Rattle.paper_grammar.specs.Trees.{Link, and, or, chop, Tree, negation, pair, duration, throughout, constant}
use Rattle.paper_grammar.specs.Reader.{Around, whole, negated, left, right, measured, entered, Reading, part, after, above, equals, digits, go, stop}
use Rattle.paper_grammar.specs.Reader.{stops, is_digit, is_letter, is_joint, joins, lead_of, leaf_of, begin, own_joint, joint_of, join, next, follow}
use Rattle.paper_grammar.specs.Reader.{end_after, at_end, onward, run, read, placed}
use Rattle.formula_reader.specs.Parts.{Got, resume, Within, PartAt, rest_of, end_of, parse_text, parse_of, test_at, is_sign, digit_count, value_from, number_at, on_good}
use Rattle.paper_grammar.specs.declared.Sort.{Sort}
use Rattle.paper_grammar.specs.declared.Sort.TheVariants.{State, Formula}
use Rattle.paper_grammar.specs.declared.Lead.{Lead}
use Rattle.paper_grammar.specs.declared.Lead.TheVariants.{Leaf, Not, Open, Measure, Enter, Other}
use Rattle.paper_grammar.specs.declared.Joint.{Joint}
use Rattle.paper_grammar.specs.declared.Joint.TheVariants.{And, Or, Chop, Nothing}
use Rattle.lists.proofs.Tests.{cond_elim}
use Rattle.paper_grammar.proofs.Printed.{after_negated}

module _ (t : List ℕ) (n : ℕ) where
  pub at_byte : n < length t → drop n t ≡ get_or t n 0 ∷ drop (n + 1) t
  at_byte h = rw (add-one n) (drop-cons t n 0 h)

  pub tested : (f : ℕ → Bool) {c : Bool} → n < length t → f (get_or t n 0) ≡ c → test_at f n (drop n t) ≡ cond c (Ok (n + 1)) (Err n)
  tested f h e = ap (test_at f n) (at_byte h) ∙ ap (λ (c : Bool). cond c (Ok (n + 1)) (Err n)) e

  pub at_end_lem : (f : ℕ → List ℕ → Got) → f n [] ≡ Err n → length t ≤ n → f n (drop n t) ≡ Err n
  at_end_lem f e h = ap (f n) (drop_of_length-le t h) ∙ e

  pub digit_more : n < length t → is_digit (get_or t n 0) ≡ true → digit_count (drop n t) ≡ suc (digit_count (drop (n + 1) t))
  unfolding digit_count
  digit_more h e = ap digit_count (at_byte h) ∙ rw e

  pub digit_none : n < length t → is_digit (get_or t n 0) ≡ false → digit_count (drop n t) ≡ 0
  unfolding digit_count
  digit_none h e = ap digit_count (at_byte h) ∙ rw e

  pub digit_end : length t ≤ n → digit_count (drop n t) ≡ 0
  unfolding digit_count
  digit_end h = ap digit_count (drop_of_length-le t h)

-- the text from a place on, as the code cuts it
pub digits_from : (t : List ℕ) (at : ℕ) → digit_count (take (length t - at) (drop at t)) ≡ digit_count (drop at t)
digits_from t at = ap digit_count (take_all (length t - at) (drop at t) (omega (arith, length-drop at t)))

-- a byte that is tested is a step
module _ {r : Sort} (t : List ℕ) where
  step : (n : ℕ) (m : Reading r) → n < length t → run m (drop n t) ≡ onward (drop n t) (λ m. run m (drop (n + 1) t)) (next m (get_or t n 0))
  unfolding run
  step n m h = rw (at_byte t n h)

  stuck : (n : ℕ) (m : Reading r) → at_end m ≡ stops [] → length t ≤ n → run m (drop n t) ≡ stops (drop n t)
  unfolding run
  stuck n m e h = rw (drop_of_length-le t h) e

  test_step : (n : ℕ) (m' : Reading r) (c : Bool) → onward (drop n t) (λ m. run m (drop (n + 1) t)) (cond c (go m') stop) ≡ resume t m' (cond c (Ok (n + 1)) (Err n))
  test_step n m' true = refl
  test_step n m' false = refl

  test_run : (n : ℕ) (m m' : Reading r) (f : ℕ → Bool) → at_end m ≡ stops [] → next m (get_or t n 0) ≡ cond (f (get_or t n 0)) (go m') stop →
      run m (drop n t) ≡ resume t m' (test_at f n (drop n t))
  test_run n m m' f e w = by (dec_lt n (length t))
    where
      by : Dec (n < length t) → run m (drop n t) ≡ resume t m' (test_at f n (drop n t))
      by (yes h) = step n m h ∙ ap (onward (drop n t) (λ m. run m (drop (n + 1) t))) w ∙ test_step n m' (f (get_or t n 0)) ∙ ap (resume t m') (sym (tested t n f h refl))
      by (no h) = let l : length t ≤ n = omega arith in stuck n m e l ∙ ap (resume t m') (sym (at_end_lem t n (test_at f) refl l))

  sign_run : (g : Got) (m m' : Reading r) (v : ℕ) → at_end m ≡ stops [] → ((b : ℕ) → next m b ≡ cond (is_sign v b) (go m') stop) →
      resume t m g ≡ resume t m' (on_good t (test_at (is_sign v)) g)
  sign_run (Ok n) m m' v e w = test_run n m m' (is_sign v) e (w (get_or t n 0))
  sign_run (Err p) m m' v e w = refl

-- the value of a number's digits
abbrev value_of : List ℕ → ℕ
value_of [] = 0
value_of (b ∷ q) = cond (eqb b 48) 0 (value_from (b - 48) q)

abbrev value_at : List ℕ → Got → ℕ
value_at t (Ok n) = value_of (drop n t)
value_at t (Err p) = 0

module _ {r : Sort} (x : Tree State) (K : Around r Formula) where
  digits_run : (q : List ℕ) (v : ℕ) → run (digits x v K) q ≡ run (after (duration x (value_from v q)) K) (drop (digit_count q) q)
  unfolding run digit_count
  digits_run [] v = refl
  digits_run (b ∷ q) v = by (is_digit b) (digits_run q (v * 10 + (b - 48)))
    where
      by : (c : Bool) → run (digits x (v * 10 + (b - 48)) K) q ≡ run (after (duration x (value_from (v * 10 + (b - 48)) q)) K) (drop (digit_count q) q)
          → onward (b ∷ q) (λ n. run n q) (cond c (go (digits x (v * 10 + (b - 48)) K)) (follow Formula (duration x v) K b)) ≡ run
          (after (duration x (cond c (value_from (v * 10 + (b - 48)) q) v)) K) (drop (cond c (suc (digit_count q)) 0) (b ∷ q))
      by true ih = ih
      by false ih = refl

  number_step : (t : List ℕ) (n b : ℕ) (c e : Bool)
      → onward (drop n t) (λ m. run m (drop (n + 1) t)) (cond c (go (after (duration x 0) K)) (cond e (go (digits x (b - 48) K)) stop))
      ≡ resume t (after (duration x (cond c 0 (value_from (b - 48) (drop (n + 1) t)))) K) (cond c (Ok (n + 1)) (cond e (Ok (n + 1 + digit_count (drop (n + 1) t))) (Err n)))
  number_step t n b true e = refl
  number_step t n b false true = digits_run (drop (n + 1) t) (b - 48) ∙ ap (run _) (drop-drop (digit_count (drop (n + 1) t)) (n + 1) t)
  number_step t n b false false = refl

  number_run : (t : List ℕ) (g : Got) → resume t (equals x K) g ≡ resume t (after (duration x (value_at t g)) K) (on_good t number_at g)
  number_run t (Ok n) = by (dec_lt n (length t))
    where
      by : Dec (n < length t) → run (equals x K) (drop n t) ≡ resume t (after (duration x (value_of (drop n t))) K) (number_at n (drop n t))
      by (yes h) =
          step t n (equals x K) h ∙ number_step t n (get_or t n 0) (eqb (get_or t n 0) 48) (is_digit (get_or t n 0))
          ∙ ap (λ (q : List ℕ). resume t (after (duration x (value_of q)) K) (number_at n q)) (sym (at_byte t n h))
      by (no h) = let l : length t ≤ n = omega arith in stuck t n (equals x K) refl l ∙ ap (resume t _) (sym (at_end_lem t n number_at refl l))
  number_run t (Err p) = refl

-- the link that a joint is
abbrev link_of : (s : Sort) → Joint → Link s
link_of s And = and
link_of s Or = or
link_of State Chop = and
link_of Formula Chop = chop
link_of s Nothing = and

abbrev link_read : List ℕ → (s : Sort) → Got → Link s
link_read t s (Ok n) = link_of s (joint_of s (get_or t n 0))
link_read t s (Err p) = and

module _ {r : Sort} (s : Sort) (x : Tree s) (K : Around r s) where
  join_tests : (b : ℕ) → join s x K (joint_of s b) ≡ cond (is_joint s b) (go (part s (right (link_of s (joint_of s b)) x K))) stop
  join_tests b = cond_elim Tests (eqb b 38) (λ e. refl) (λ e. cond_elim Tests (eqb b 124) (λ e. refl) (λ e. own s x K))
    where
      Tests : Joint → Type 0
      Tests j = join s x K j ≡ cond (joins j) (go (part s (right (link_of s j) x K))) stop

      own : (s : Sort) (x : Tree s) (K : Around r s) → join s x K (own_joint s b) ≡ cond (joins (own_joint s b)) (go (part s (right (link_of s (own_joint s b)) x K))) stop
      own State x K = refl
      own Formula x K = cond_elim (λ j. join Formula x K j ≡ cond (joins j) (go (part Formula (right (link_of Formula j) x K))) stop) (eqb b 59) (λ e. refl) (λ e. refl)

  joint_run : (t : List ℕ) (g : Got) → resume t (after x (left K)) g ≡ resume t (part s (right (link_read t s g) x K)) (on_good t (test_at (is_joint s)) g)
  unfolding follow end_after
  joint_run t (Ok n) = test_run t n (after x (left K)) (part s (right (link_read t s (Ok n)) x K)) (is_joint s) refl (join_tests (get_or t n 0))
  joint_run t (Err p) = refl

-- a read stays within the text
module _ (t : List ℕ) where
  later : (at m : ℕ) (g : Got) → at ≤ m → Within t m g → Within t at g
  later at m (Ok n) h w = (omega (arith, w.0), w.1)
  later at m (Err p) h w = w

  within_test : (n at : ℕ) (f : ℕ → Bool) → at < n → n ≤ length t → Within t at (test_at f n (drop n t))
  within_test n at f h l = by (dec_lt n (length t))
    where
      by : Dec (n < length t) → Within t at (test_at f n (drop n t))
      by (yes k) = rw (tested t n f k refl) (cond_elim (Within t at) (f (get_or t n 0)) (λ e. (omega arith, omega arith)) (λ e. omega arith))
      by (no k) = rw (at_end_lem t n (test_at f) refl (omega arith)) l

  tested_within : (g : Got) (at : ℕ) (f : ℕ → Bool) → Within t at g → Within t at (on_good t (test_at f) g)
  tested_within (Ok n) at f w = within_test n at f w.0 w.1
  tested_within (Err p) at f w = w

  count_within : (q : List ℕ) → digit_count q ≤ length q
  unfolding digit_count
  count_within [] = omega arith
  count_within (b ∷ q) = cond_elim (λ k. k ≤ suc (length q)) (is_digit b) (λ e. omega (arith, count_within q)) (λ e. omega arith)

  within_number : (n at : ℕ) → at < n → n ≤ length t → Within t at (number_at n (drop n t))
  within_number n at h l = by (dec_lt n (length t))
    where
      by : Dec (n < length t) → Within t at (number_at n (drop n t))
      by (yes k) =
          let w = count_within (drop (n + 1) t) in
          let v = length-drop (n + 1) t in
          rw (at_byte t n k) (cond_elim (Within t at) (eqb (get_or t n 0) 48) (λ e. (omega arith, omega arith))
          (λ e. cond_elim (Within t at) (is_digit (get_or t n 0)) (λ e. (omega arith, omega arith)) (λ e. omega arith)))
      by (no k) = rw (at_end_lem t n number_at refl (omega arith)) l

  number_within : (g : Got) (at : ℕ) → Within t at g → Within t at (on_good t number_at g)
  number_within (Ok n) at w = within_number n at w.0 w.1
  number_within (Err p) at w = w

-- a part, by what its first byte begins
module _ (t : List ℕ) (s : Sort) (at : ℕ) where
  pub part_end : length t ≤ at → at ≤ length t → PartAt t s at (Err at)
  part_end h l = record { within = l; tree = constant true; same = λ r K. stuck t at (part s K) refl h }

  module _ (h : at < length t) where
    lead : {r : Sort} (K : Around r s) (l : Lead) → l ≡ lead_of s (get_or t at 0) → run (part s K) (drop at t) ≡ onward (drop at t) (λ m. run m (drop (at + 1) t)) (begin s K (get_or t at 0) l)
    lead K l e = step t at (part s K) h ∙ ap (λ k. onward (drop at t) (λ m. run m (drop (at + 1) t)) (begin s K (get_or t at 0) k)) (sym e)

    pub part_other : Other ≡ lead_of s (get_or t at 0) → PartAt t s at (Err at)
    part_other e = record { within = omega arith; tree = constant true; same = λ r K. lead K Other e }

    pub part_leaf : Leaf ≡ lead_of s (get_or t at 0) → PartAt t s at (Ok (at + 1))
    part_leaf e = record { within = (omega arith, omega arith); tree = leaf_of s (get_or t at 0); same = λ r K. lead K Leaf e }

    pub part_not : (g : Got) → Not ≡ lead_of s (get_or t at 0) → PartAt t s (at + 1) g → PartAt t s at g
    part_not g e w = record { within = later t at (at + 1) g (omega arith) w.within; tree = negation w.tree; same = λ r K. lead K Not e ∙ w.same r (negated K) ∙ out r K g }
      where
        out : (r : Sort) (K : Around r s) (g : Got) → resume t (after w.tree (negated K)) g ≡ resume t (after (negation w.tree) K) g
        out r K (Ok n) = after_negated w.tree K (drop n t)
        out r K (Err p) = refl

    first_run : {r : Sort} (g : Got) (K : Around r s) → Open ≡ lead_of s (get_or t at 0) → (w : PartAt t s (at + 1) g) →
        run (part s K) (drop at t) ≡ resume t (part s (right (link_read t s g) w.tree K)) (on_good t (test_at (is_joint s)) g)
    first_run g K e w = lead K Open e ∙ w.same _ (left K) ∙ joint_run s w.tree K t g

    pub part_open : (g : Got) (n : ℕ) (g' : Got) → Open ≡ lead_of s (get_or t at 0) → PartAt t s (at + 1) g →
        on_good t (test_at (is_joint s)) g ≡ Ok n → PartAt t s n g' → PartAt t s at (on_good t (test_at (is_sign 41)) g')
    unfolding follow end_after
    part_open g n g' e w j v =
        let k : Within t (at + 1) (Ok n) = subst (Within t (at + 1)) j (tested_within t g (at + 1) (is_joint s) w.within) in
        record {
          within = tested_within t g' at (is_sign 41) (later t at n g' (omega (arith, k.0)) v.within);
          tree = pair (link_read t s g) w.tree v.tree;
          same = λ r K. first_run g K e w ∙ ap (resume t (part s (right (link_read t s g) w.tree K))) j ∙ v.same r (right (link_read t s g) w.tree K)
              ∙ sign_run t g' (after v.tree (right (link_read t s g) w.tree K)) (after (pair (link_read t s g) w.tree v.tree) K) 41 refl (λ b. refl);
        }

    pub part_open_bad : (g : Got) (p : ℕ) → Open ≡ lead_of s (get_or t at 0) → PartAt t s (at + 1) g → on_good t (test_at (is_joint s)) g ≡ Err p → PartAt t s at (Err p)
    part_open_bad g p e w j = record {
      within = subst (Within t (at + 1)) j (tested_within t g (at + 1) (is_joint s) w.within);
      tree = constant true;
      same = λ r K. first_run g K e w ∙ ap (resume t (part s (right (link_read t s g) w.tree K))) j;
    }

-- no state assertion begins with `#` or `[`
abbrev OfState : Lead → Type 0
OfState Leaf = Unit
OfState Not = Unit
OfState Open = Unit
OfState Measure = ⊥
OfState Enter = ⊥
OfState Other = Unit

of_state : (b : ℕ) → OfState (lead_of State b)
of_state b = cond_elim OfState (eqb b 84) (λ e. tt) λ e. cond_elim OfState (eqb b 70) (λ e. tt) λ e. cond_elim OfState (eqb b 33) (λ e. tt) λ e. cond_elim OfState (eqb b 40) (λ e. tt)
    λ e. cond_elim OfState (is_letter b) (λ e. tt) λ e. tt

module _ (t : List ℕ) (at : ℕ) (h : at < length t) (g : Got) (w : PartAt t State (at + 1) g) where
  pub part_enter : (s : Sort) → Enter ≡ lead_of s (get_or t at 0) → PartAt t s at (on_good t (test_at (is_sign 93)) g)
  unfolding follow end_after
  part_enter State e = absurd (subst OfState (sym e) (of_state (get_or t at 0)))
  part_enter Formula e = record {
    within = tested_within t g at (is_sign 93) (later t at (at + 1) g (omega arith) w.within);
    tree = throughout w.tree;
    same = λ r K. lead t Formula at h K Enter e ∙ w.same r (entered K) ∙ sign_run t g (after w.tree (entered K)) (after (throughout w.tree) K) 93 refl (λ b. refl);
  }

  pub part_measure : (s : Sort) → Measure ≡ lead_of s (get_or t at 0) → PartAt t s at (on_good t number_at (on_good t (test_at (is_sign 61)) (on_good t (test_at (is_sign 62)) g)))
  unfolding follow end_after
  part_measure State e = absurd (subst OfState (sym e) (of_state (get_or t at 0)))
  part_measure Formula e =
      let g₁ : Got = on_good t (test_at (is_sign 62)) g in
      let g₂ : Got = on_good t (test_at (is_sign 61)) g₁ in
      record {
        within = number_within t g₂ at (tested_within t g₁ at (is_sign 61) (tested_within t g at (is_sign 62) (later t at (at + 1) g (omega arith) w.within)));
        tree = duration w.tree (value_at t g₂);
        same = λ r K. lead t Formula at h K Measure e ∙ w.same r (measured K) ∙ sign_run t g (after w.tree (measured K)) (above w.tree K) 62 refl (λ b. refl)
            ∙ sign_run t g₁ (above w.tree K) (equals w.tree K) 61 refl (λ b. refl) ∙ number_run w.tree K t g₂;
      }

-- a part by itself, and the whole text
pub rest_whole : {s : Sort} (x : Tree s) (q : List ℕ) → rest_of (run (after x whole) q) ≡ q
unfolding run follow end_after
rest_whole x [] = refl
rest_whole x (b ∷ q) = refl

pub in_place : (t q : List ℕ) (n : ℕ) → n ≤ length t → q ≡ drop n t → n ≡ length t - length q
in_place t q n h e = omega (arith, ap length e, length-drop n t)

module _ (t : List ℕ) (s : Sort) (at : ℕ) where
  pub end_past : length t < at → (length t ≡ end_of t s at) × (length t ≤ length t)
  unfolding end_of run
  end_past h = (rw (drop_of_length-le t (le_of_lt h)) (omega arith), omega arith)

  pub end_good : (g : Got) (n : ℕ) → PartAt t s at g → g ≡ Ok n → (n ≡ end_of t s at) × (n ≤ length t)
  unfolding end_of
  end_good g n w e = let v = subst (PartAt t s at) e w in (in_place t _ n v.within.1 (ap rest_of (v.same s whole) ∙ rest_whole v.tree (drop n t)), v.within.1)

  pub end_bad : (g : Got) (p : ℕ) → PartAt t s at g → g ≡ Err p → (p ≡ end_of t s at) × (p ≤ length t)
  unfolding end_of
  end_bad g p w e = let v = subst (PartAt t s at) e w in (in_place t _ p v.within (ap rest_of (v.same s whole)), v.within)

module _ (t : List ℕ) (g : Got) (w : PartAt t Formula 0 g) where
  pub check_reads : (n : ℕ) → g ≡ Ok n → length t ≤ n → Ok tt ≡ parse_text t
  unfolding parse_text read run end_after
  check_reads n e h = let v = subst (PartAt t Formula 0) e w in sym (ap (λ o. parse_of (placed t o)) (v.same Formula whole ∙ ap (run (after v.tree whole)) (drop_of_length-le t h)))

  pub check_more : (n : ℕ) → g ≡ Ok n → n < length t → Err n ≡ parse_text t
  unfolding parse_text read run follow
  check_more n e h =
      let v = subst (PartAt t Formula 0) e w in
      sym (ap (λ o. parse_of (placed t o)) (v.same Formula whole ∙ ap (run (after v.tree whole)) (at_byte t n h)) ∙
      ap Err (sym (in_place t (get_or t n 0 ∷ drop (n + 1) t) n v.within.1 (sym (at_byte t n h)))))

  pub check_stops : (p : ℕ) → g ≡ Err p → Err p ≡ parse_text t
  unfolding parse_text read
  check_stops p e = let v = subst (PartAt t Formula 0) e w in sym (ap (λ o. parse_of (placed t o)) (v.same Formula whole) ∙ ap Err (sym (in_place t (drop p t) p v.within refl)))
