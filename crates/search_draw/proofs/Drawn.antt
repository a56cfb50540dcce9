-- What the tree of tries comes to is what the limit leaves of the tree (Ends.antt of paper_search has the same three ways), and the values found read as
-- the recording of their set: a channel variable is high where its value is 1.
use mathlib.Core.Path.{◌≡◌, sym, ap, ◌∙◌, subst}
use mathlib.Core.List.{List, append-nil}
use Prim.Native.Nat.{ℕ, zero, suc, ◌-◌, ◌≤◌, ◌<◌}
use native.Mathlib.Omega.{arith}
use lib.Dec.{eqb}
use lib.ListN.{length, get_or, drop_of_length-le}
use borrow.Author.Tests.{le-leb, lt-leb}
use Rattle.paper_circuit.specs.Circuit.{channel_of}
use Rattle.paper_clauses.specs.Clauses.{Clause, plain}
use Rattle.moments.specs.Moments.{over}
use Rattle.paper_assignments.specs.Extension.{value_in, recording_by, recording_of}
use Rattle.paper_assignments.proofs.Recordings.{recording_length, recording_below, recording_channels, recording_only}
use Rattle.paper_closure.specs.Runs.{dead, found, high_in}
use Rattle.paper_closure.specs.Tree.{Trial, trial, tree}
use Rattle.std.specs.Prelude.{Ok}
use Rattle.search_closing.specs.Values.{held_in}
use Rattle.search_tree.specs.Tries.{Result, Started}
use Rattle.search_tree.specs.Below.{Below}
use Rattle.search_tree.specs.Below.TheVariants.{Dead, Found, Spent}
use Rattle.paper_search.specs.Search.{unwritten, ended, limited}
use Rattle.paper_search.specs.declared.Answer.TheVariants as answer

-- ---- the values found

held_value : (values : List ℕ) (v : ℕ) → 1 ≤ v → held_in values (plain v) ≡ value_in values v
unfolding held_in value_in
held_value values zero h = absurd (omega arith)
held_value values (suc x) h = let e : x ≡ suc x - 1 = omega arith in ap (λ (y : ℕ). eqb (get_or values y 0) 1) e

held_recording : (C k : ℕ) (values : List ℕ) → recording_by C k (high_in (held_in values)) ≡ recording_of C k values
held_recording C k values =
    recording_only C k (high_in (held_in values)) (recording_of C k values) (recording_length C k (value_in values)) (recording_below C k (value_in values))
    (λ t c h l. held_value values (channel_of C t c) (omega arith) ∙ sym (recording_channels C k (value_in values) t c h l))

pub over_whole : (new old : List ℕ) → length old ≤ length new → over new old ≡ new
over_whole new old h = rw (drop_of_length-le old h) (append-nil new)

-- ---- the three ways

module _ (C k B : ℕ) (recording : List ℕ) (t : Trial) where
  pub within : (x : Trial) → t ≡ x → x.tries ≤ B → ended C k recording x ≡ limited C k B recording t
  unfolding limited
  within x e h = rw (e, le-leb x.tries B h)

  pub beyond : B < t.tries → unwritten recording (Ok (answer.Spent B)) ≡ limited C k B recording t
  unfolding limited
  beyond h = rw (lt-leb t.tries B h)

module _ {T : List Clause} {variables channels B : ℕ} {values : List ℕ} {r : Below} (s : Started T variables channels B values r) where
  result : {b : Below} → r ≡ b → Result T variables channels B values b
  result e = subst (Result T variables channels B values) e s.result

  module _ (C k : ℕ) (recording : List ℕ) where
    pub drawn_none : {n : ℕ} → r ≡ Dead n → unwritten recording (Ok (answer.None n)) ≡ limited C k B recording (tree T variables channels)
    drawn_none {n} e = within C k B recording _ (trial dead n) (result e).0 (result e).1

    pub drawn_found : {n : ℕ} → r ≡ Found n → length recording ≡ k → {out : List ℕ} → out ≡ recording_of C (length recording) values
        → record { answer = Ok (answer.Found n); recording = out } ≡ limited C k B recording (tree T variables channels)
    drawn_found {n} e h {out} o =
        let w : out ≡ over (recording_by C k (high_in (held_in values))) recording =
        o ∙ ap (λ (k : ℕ). recording_of C k values) h ∙ sym (held_recording C k values) ∙ sym (over_whole _ recording (omega (arith, recording_length C k (high_in (held_in values))))) in
        ap (λ (l : List ℕ). record { answer = Ok (answer.Found n); recording = l }) w ∙ within C k B recording _ (trial (found (held_in values)) n) (result e).0 (result e).1

    pub drawn_spent : r ≡ Spent → unwritten recording (Ok (answer.Spent B)) ≡ limited C k B recording (tree T variables channels)
    drawn_spent e = beyond C k B recording _ (result e)
