-- What the reader is: it reads back what is printed, what it reads prints as the text, and its stopping place is question 4's. The
-- three follow from reading a printed part (Printed) and from what each outcome says (Kept).
use mathlib.Core.Path.{◌≡◌, refl, sym, ap, ◌∙◌, subst}
use mathlib.Core.Bool.{false≢true}
use mathlib.Core.List.{List, [], ◌∷◌, ◌++◌, append_assoc}
use Prim.Native.Nat.{ℕ, suc, ◌+◌, ◌-◌, ◌<◌}
use native.Mathlib.Omega.{arith}
use lib.ListN.{length, take, drop, length-append, take-append-drop}
use lib.Seq.{take_at, take-take, take_all}
use Rattle.paper_grammar.specs.Trees.{Tree, Letters, text_of, Begins, Place}
use Rattle.paper_grammar.specs.Reader.{whole, part, Ending, reads, stops, run, Read, parsed, stopped, placed, read}
use Rattle.paper_grammar.specs.declared.Sort.TheVariants.{Formula}
use Rattle.paper_grammar.proofs.Kept.{Meant, Stopped, meant}
use Rattle.paper_grammar.proofs.Printed.{reads_back}

-- what it reads prints as the text, and its channels are a to h
pub prints_as_text : (t : List ℕ) (f : Tree Formula) → read t ≡ parsed f → Letters 8 f × (text_of f ≡ t)
unfolding read
prints_as_text t f e = go (run (part Formula whole) t) (meant t (part Formula whole) tt) e
  where
    go : (o : Ending Formula) → Meant (part Formula whole) t o → placed t o ≡ parsed f → Letters 8 f × (text_of f ≡ t)
    go (reads x) m g = let h : x ≡ f = cc in subst (λ (y : Tree Formula). Letters 8 y × (text_of y ≡ t)) h (m.0, sym m.1)
    go (stops q) m g = absurd (false≢true cc)

-- no text has two readings
pub one_reading : (f g : Tree Formula) → Letters 8 f → Letters 8 g → text_of f ≡ text_of g → f ≡ g
one_reading f g u v e = same (sym (reads_back f u) ∙ ap read e ∙ reads_back g v)
  where
    same : ◌≡◌ {A = Read Formula} (parsed f) (parsed g) → f ≡ g
    same e = ap (λ (o : Read Formula). elim o [ parsed x ↦ x | stopped p ↦ f ]) e

begins_shorter : (n : ℕ) (t : List ℕ) → Begins t → Begins (take n t)
begins_shorter n t (f, w, q, e) = (f, w, drop n t ++ q, e ∙ ap (λ (u : List ℕ). u ++ q) (sym (take-append-drop n t)) ∙ append_assoc (take n t) (drop n t) q)

-- a text that reads does not stop
no_stop : {A : Type 0} (f : Tree Formula) (p : ℕ) → Letters 8 f → read (text_of f) ≡ stopped p → A
no_stop f p w e = absurd (let g = reads_back f w in false≢true cc)

-- where reading stops is question 4's place
module _ (t q : List ℕ) (s : Stopped (part Formula whole) t q) where
  abbrev place : ℕ
  place = length t - length q

  at_place : length s.before ≡ place
  at_place = omega (arith, ap length s.is, length-append s.before q)

  goes_on : Begins (take place t)
  goes_on =
      let (f, w, e) = s.can in
      let h : take place t ≡ s.before = ap (take place) s.is ∙ take_at s.before q place at_place in
      (f, w, s.on, sym e ∙ ap (λ (u : List ℕ). u ++ s.on) (sym h))

  shorter : (n : ℕ) → n < place → Begins (take (suc n) t)
  shorter n h = subst Begins (take-take (suc n) place t h) (begins_shorter (suc n) (take place t) goes_on)

  no_further : (b : ℕ) (r : List ℕ) → q ≡ b ∷ r → Begins (take (suc place) t) → ⊥
  unfolding read
  no_further b r e (f, w, on, g) =
      let n : length (s.before ++ b ∷ []) ≡ suc place = omega (arith, at_place, length-append s.before (b ∷ [])) in
      let h : take (suc place) t ≡ s.before ++ b ∷ [] =
      ap (take (suc place)) (s.is ∙ ap (λ (u : List ℕ). s.before ++ u) e ∙ sym (append_assoc s.before (b ∷ []) r)) ∙ take_at (s.before ++ b ∷ []) r (suc place) n in
      no_stop f _ w
      (ap (placed (text_of f)) (ap (run (part Formula whole)) (g ∙ ap (λ (u : List ℕ). u ++ on) h ∙ append_assoc s.before (b ∷ []) on) ∙ s.never b r on e))

whole_taken : (t : List ℕ) → take (length t - 0) t ≡ t
whole_taken t = take_all (length t - 0) t (omega arith)

-- no byte is left, or one is
at_stop : (t q : List ℕ) → Stopped (part Formula whole) t q → Place t (length t - length q)
at_stop t [] s = record {
  within = omega arith;
  goes_on = goes_on t [] s;
  least = λ n h. shorter t [] s n h;
  no_further = λ h. absurd (omega arith);
  ends_early = (λ e. subst Begins (whole_taken t) (goes_on t [] s), λ b. omega arith);
}
at_stop t (b ∷ r) s =
    let n : length t ≡ length s.before + length (b ∷ r) = ap length s.is ∙ length-append s.before (b ∷ r) in
    record {
      within = omega arith;
      goes_on = goes_on t (b ∷ r) s;
      least = λ n h. shorter t (b ∷ r) s n h;
      no_further = λ h. no_further t (b ∷ r) s b r refl;
      ends_early = (λ e. absurd (omega arith), λ w. absurd (no_further t (b ∷ r) s b r refl (begins_shorter (suc (length t - length (b ∷ r))) t w)));
    }

-- where it stops is question 4's place
pub stops_at_place : (t : List ℕ) (p : ℕ) → read t ≡ stopped p → Place t p
unfolding read
stops_at_place t p e = go (run (part Formula whole) t) (meant t (part Formula whole) tt) e
  where
    go : (o : Ending Formula) → Meant (part Formula whole) t o → placed t o ≡ stopped p → Place t p
    go (reads x) m g = absurd (false≢true cc)
    go (stops q) m g = let h : length t - length q ≡ p = cc in subst (Place t) h (at_stop t q m)
