-- A text is a formula's, or it is none's and question 4 has one place for it: our reader tells which, so a call that asks our questions
-- obeys those of the demands; and two calls that obey them part at most where both are answered.
use mathlib.Core.Path.{◌≡◌, refl, sym, ap, ◌∙◌, subst}
use mathlib.Core.Logic.{◌⊎◌, inl, inr, ⊎_elim}
use mathlib.Core.List.{List, [], ◌∷◌, ◌++◌}
use Prim.Native.Nat.{ℕ, ◌<◌}
use native.Mathlib.Decide.{dec_lt}
use native.Mathlib.Omega.{arith}
use Rattle.std.specs.Prelude.{Err, Ok}
use Rattle.refusal.specs.Asked.{asked, AllYes, none_left, yes_then, FirstNo, here, later, Reply, ok}
use Rattle.refusal.specs.declared.Refusal.{Refusal}
use Rattle.refusal.proofs.Laws.{all_yes_or_first_no, all_yes_answers, first_no_answers}
use Rattle.interval.specs.Limits.{ask_steps}
use Rattle.paper_grammar.specs.Trees.{Tree, Letters, Place}
use Rattle.paper_grammar.specs.Reader.{Read, parsed, stopped, read}
use Rattle.paper_grammar.specs.declared.Sort.TheVariants.{Formula}
use Rattle.paper_grammar.proofs.Printed.{reads_back}
use Rattle.paper_grammar.proofs.Laws.{prints_as_text, stops_at_place}
use Rattle.paper_grammar.specs.Nodes.{Node, nodes_in}
use Rattle.paper_grammar.specs.Questions.{ask_channels, ask_length, ask_grammar, ask_letters, ask_numbers, ask_nodes, formula_questions, accept_of, on_read}
use Rattle.formula_text.proofs.Laws.{Accepted, accepted, nodes_read_lem}
use Rattle.demands.specs.Calls.{IsText, Ungrammatical, Follows, formula_replies, Obeys}

-- ---- questions one after another

pub yes_both : (p q : List Reply) → AllYes (p ++ q) → AllYes p × AllYes q
yes_both [] q h = (none_left, h)
yes_both (Ok _ ∷ p) q (yes_then h) = let w = yes_both p q h in (yes_then w.0, w.1)
yes_both (Err _ ∷ p) q h = elim h [ ]

first_front : {p : List Reply} (q : List Reply) {r : Refusal} → FirstNo p r → FirstNo (p ++ q) r
first_front q here = here
first_front q (later f) = later (first_front q f)

never_no : {r : Refusal} {q : List Reply} → AllYes (Err r ∷ q) → ⊥
never_no = elim [ ]

-- ---- a call by its own questions

module _ {A : Type 0} {refused : Refusal → A} where
  pub asked_follows : (questions : List Reply) (Right : A → Type 0) (answer : A) → (AllYes questions → Right answer)
      → Follows questions refused Right (asked questions refused answer)
  asked_follows questions Right answer g = record {
    first_no = λ r w. first_no_answers refused answer w;
    all_yes = λ y. subst Right (sym (all_yes_answers refused answer y)) (g y);
  }

  pub follows_two : {questions : List Reply} {P Q : A → Type 0} {x y : A} (Same : A → A → Type 0) → ((r : Refusal) → Same (refused r) (refused r))
      → (AllYes questions → P x → Q y → Same x y) → Follows questions refused P x → Follows questions refused Q y → Same x y
  follows_two {questions} {P} {Q} {x} {y} Same alike g p q =
      ⊎_elim (λ h. g h (p.all_yes h) (q.all_yes h))
      (λ n. subst (Same x) (sym (q.first_no n.0 n.1)) (subst (λ z. Same z (refused n.0)) (sym (p.first_no n.0 n.1)) (alike n.0)))
      (all_yes_or_first_no questions)

-- ---- a text

-- a text has one place of question 4
one_place : (t : List ℕ) (p q : ℕ) → Place t p → Place t q → p ≡ q
one_place t p q v w = go (dec_lt p q) (dec_lt q p)
  where
    go : Dec (p < q) → Dec (q < p) → p ≡ q
    go (yes h) d = absurd (v.no_further (omega (arith, w.within)) (w.least p h))
    go (no g) (yes h) = absurd (w.no_further (omega (arith, v.within)) (v.least q h))
    go (no g) (no h) = omega arith

pub reads_as : (t : List ℕ) (f : Tree Formula) → IsText t f → read t ≡ parsed f
reads_as t f w = subst (λ (s : List ℕ). read s ≡ parsed f) w.1 (reads_back f w.0)

parsed≢stopped : {f : Tree Formula} {p : ℕ} → ◌≡◌ {A = Read Formula} (parsed f) (stopped p) → ⊥
parsed≢stopped e = let z : ◌≡◌ {A = ℕ} 0 1 = ap (λ (o : Read Formula). elim o [ parsed x ↦ 0 | stopped q ↦ 1 ]) e in omega arith

stopped_apart : (t : List ℕ) (p : ℕ) → read t ≡ stopped p → Ungrammatical t p
stopped_apart t p e = record { no_formula = λ f w. parsed≢stopped (sym (reads_as t f w) ∙ e); place = stops_at_place t p e }

pub text_or_none : (t : List ℕ) → ((f : Tree Formula) × IsText t f) ⊎ ((p : ℕ) × Ungrammatical t p)
text_or_none t = go (read t) refl
  where
    go : (o : Read Formula) → read t ≡ o → ((f : Tree Formula) × IsText t f) ⊎ ((p : ℕ) × Ungrammatical t p)
    go (parsed f) e = inl (f, prints_as_text t f e)
    go (stopped p) e = inr (p, stopped_apart t p e)

-- our reader stops at question 4's place
stops_there : (t : List ℕ) (p : ℕ) → Ungrammatical t p → read t ≡ stopped p
stops_there t p u = go (read t) refl
  where
    go : (o : Read Formula) → read t ≡ o → o ≡ stopped p
    go (parsed f) e = absurd (u.no_formula f (prints_as_text t f e))
    go (stopped q) e = ap stopped (one_place t q p (stops_at_place t q e) u.place)

-- ---- the formula's questions

-- the replies to 1 to 4 where the text is no formula's
abbrev pub other_replies : ℕ → ℕ → List ℕ → ℕ → List Reply
other_replies C k t p = ask_channels C ∷ ask_steps k ∷ ask_length t ∷ Err (record { number = 4; place = p }) ∷ []

module _ (C k : ℕ) (t : List ℕ) where
  pub formula_asked : (f : Tree Formula) → IsText t f → formula_questions C k t ≡ formula_replies C k t f
  unfolding ask_grammar
  formula_asked f w =
      let e = reads_as t f w in
      let n = nodes_read_lem t f e in
      ap (λ (o : Read Formula). ask_channels C ∷ ask_steps k ∷ ask_length t ∷ on_read o ∷ ask_letters C (nodes_in t) ∷ ask_numbers (nodes_in t) ∷ ask_nodes (nodes_in t) ∷ []) e
      ∙ ap (λ (l : List Node). ask_channels C ∷ ask_steps k ∷ ask_length t ∷ ok ∷ ask_letters C l ∷ ask_numbers l ∷ ask_nodes l ∷ []) n

  other_asked : (p : ℕ) → Ungrammatical t p → formula_questions C k t ≡ other_replies C k t p ++ (ask_letters C (nodes_in t) ∷ ask_numbers (nodes_in t) ∷ ask_nodes (nodes_in t) ∷ [])
  unfolding ask_grammar
  other_asked p u =
      ap (λ (o : Read Formula). ask_channels C ∷ ask_steps k ∷ ask_length t ∷ on_read o ∷ ask_letters C (nodes_in t) ∷ ask_numbers (nodes_in t) ∷
      ask_nodes (nodes_in t) ∷ []) (stops_there t p u)

  never_all : (p : ℕ) → AllYes (other_replies C k t p) → ⊥
  never_all p h = never_no (yes_both (ask_channels C ∷ ask_steps k ∷ ask_length t ∷ []) _ h).1

  -- what the formula is where 1 to 7 are answered with yes
  pub taken : (f : Tree Formula) → IsText t f → AllYes (formula_replies C k t f) → Accepted C k t
  unfolding accept_of
  taken f w y = accepted C k t (all_yes_answers Err ok (subst AllYes (sym (formula_asked f w)) y))

  pub letters_in : (f : Tree Formula) → IsText t f → AllYes (formula_replies C k t f) → Letters C f
  letters_in f w y = let a = taken f w y in subst (Letters C) (same (sym a.reads ∙ reads_as t f w)) a.letters
    where
      same : {g : Tree Formula} → ◌≡◌ {A = Read Formula} (parsed g) (parsed f) → g ≡ f
      same {g} e = ap (λ (o : Read Formula). elim o [ parsed x ↦ x | stopped p ↦ g ]) e

  module _ {A : Type 0} (own : Tree Formula → List Reply) (refused : Refusal → A) (Right : Tree Formula → A → Type 0) where
    -- a call that asks our questions of the text, and then its own
    pub asked_obeys : (then : List Reply) (answer : A) → ((f : Tree Formula) → IsText t f → then ≡ own f)
        → ((f : Tree Formula) → IsText t f → AllYes (formula_replies C k t f ++ own f) → Right f answer)
        → Obeys C k t own refused Right (asked (formula_questions C k t ++ then) refused answer)
    asked_obeys then answer same right = record {
      of_formula = λ f w. let e = formula_asked f w in let d = same f w in
          subst (λ (Q : List Reply). Follows (formula_replies C k t f ++ own f) refused (Right f) (asked Q refused answer))
          (ap (λ (P : List Reply). P ++ own f) (sym e) ∙ ap (λ (Q : List Reply). formula_questions C k t ++ Q) (sym d))
          (asked_follows (formula_replies C k t f ++ own f) (Right f) answer (right f w));
      of_other = λ p u. record {
        first_no =
            λ r n. first_no_answers refused answer
            (first_front then (subst (λ (Q : List Reply). FirstNo Q r) (sym (other_asked p u))
            (first_front (ask_letters C (nodes_in t) ∷ ask_numbers (nodes_in t) ∷ ask_nodes (nodes_in t) ∷ []) n)));
        all_yes = λ h. never_all p h;
      };
    }

    -- two calls part at most where both are answered
    pub obeys_two : {x y : A} (Same : A → A → Type 0) → ((r : Refusal) → Same (refused r) (refused r))
        → ((f : Tree Formula) → IsText t f → AllYes (formula_replies C k t f ++ own f) → Right f x → Right f y → Same x y)
        → Obeys C k t own refused Right x → Obeys C k t own refused Right y → Same x y
    obeys_two {x} {y} Same alike g p q =
        ⊎_elim (λ w. follows_two Same alike (g w.0 w.1) (p.of_formula w.0 w.1) (q.of_formula w.0 w.1))
        (λ w. follows_two Same alike (λ h. absurd (never_all w.0 h)) (p.of_other w.0 w.1) (q.of_other w.0 w.1)) (text_or_none t)

    pub obeys_same : {x y : A} → ((f : Tree Formula) → IsText t f → AllYes (formula_replies C k t f ++ own f) → Right f x → Right f y → x ≡ y)
        → Obeys C k t own refused Right x → Obeys C k t own refused Right y → x ≡ y
    obeys_same = obeys_two (λ x y. x ≡ y) (λ r. refl)

-- what obeys says something of whatever is made of it
pub obeys_through : {A B : Type 0} (C k : ℕ) (t : List ℕ) (own : Tree Formula → List Reply) {refused : Refusal → A} {Right : Tree Formula → A → Type 0}
    {refused' : Refusal → B} {Right' : Tree Formula → B → Type 0} {x : A} {y : B}
    → ((r : Refusal) → x ≡ refused r → y ≡ refused' r) → ((f : Tree Formula) → IsText t f → Right f x → Right' f y)
    → Obeys C k t own refused Right x → Obeys C k t own refused' Right' y
obeys_through C k t own g h p = record {
  of_formula = λ f w. let q = p.of_formula f w in record { first_no = λ r n. g r (q.first_no r n); all_yes = λ y. h f w (q.all_yes y) };
  of_other = λ n u. let q = p.of_other n u in record { first_no = λ r m. g r (q.first_no r m); all_yes = q.all_yes };
}
