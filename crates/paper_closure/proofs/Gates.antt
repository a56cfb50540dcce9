-- A closed set that leaves no input of a gate open shuts its variable: with the wrong value there some clause is unmet, so all its literals
-- but the variable's are opposed in the set, and that one is forced. By the circuit's induction it then leaves no variable open.
use mathlib.Core.Path.{◌≡◌, refl, sym, ap, ◌∙◌}
use mathlib.Core.Logic.{◌≢◌, ◌⊎◌, inl, inr}
use mathlib.Core.Bool.{Bool, true, false, not, cond, ◌&&◌, false≢true, true≢false}
use mathlib.Core.List.{List, [], ◌∷◌, ◌++◌, flat_map}
use Prim.Native.Nat.{ℕ, ◌*◌}
use native.Mathlib.Omega.{arith}
use lib.Dec.{eqb}
use borrow.Author.Tests.{eq-eqb, ne_eqb}
use Rattle.paper_grammar.specs.Trees.{Tree, Letters}
use Rattle.paper_grammar.specs.declared.Sort.TheVariants.{Formula}
use Rattle.paper_grammar.specs.Nodes.{Node, nodes_of}
use Rattle.lists.specs.Listing.{All}
use Rattle.lists.proofs.Lists.{all_map, flat_append, all_split}
use Rattle.lists.proofs.Tests.{neither}
use Rattle.paper_circuit.specs.Gates.{Assignment, value_of, inputs_of}
use Rattle.paper_circuit.specs.Circuit.{Definition, variables_of, definitions_of, root_of}
use Rattle.paper_circuit.specs.declared.Gate.{Gate}
use Rattle.paper_circuit.proofs.Blocks.{From}
use Rattle.paper_circuit.proofs.Values.{Same, value_same}
use Rattle.paper_circuit.proofs.Laws.{Mentions, definitions_mention, Passes, circuit_induction}
use Rattle.paper_clauses.specs.Clauses.{Literal, literal, Clause, plain, negated, clauses_of, clauses_by, clause_table, meets_literal, meets_clause, meets_all}
use Rattle.paper_clauses.proofs.Meets.{meets_exactly}
use Rattle.paper_clauses.proofs.Good.{names_of, some_all, Of, of, gate_of_lem}
use Rattle.paper_closure.specs.Closure.{Literals, opposite, members_of, members_in}
use Rattle.paper_closure.specs.Runs.{is_open, NoneOpen}
use Rattle.paper_closure.proofs.Sets.{either_way, In, Opposed}
use Rattle.paper_closure.proofs.Closure.{Keeps, Closed, closed_parts}
use Rattle.paper_closure.proofs.Open.{shut_cases, shut_by}

-- ---- closed under joined tables

pub closed_split : (X : Literal → Type 0) (S T : List Clause) → Closed (S ++ T) X → Closed S X × Closed T X
unfolding members_in
closed_split X S T c = all_split (Keeps X) (members_in S) (members_in T) (rw (flat_append members_of S T) at c)

not_same : (b : Bool) → not b ≡ b → ⊥
not_same true e = false≢true e
not_same false e = true≢false e

all_both : {A : Type 0} (P Q : A → Type 0) (l : List A) → All P l → All Q l → All (λ x. P x × Q x) l
all_both P Q [] p q = tt
all_both P Q (x ∷ l) p q = ((p.0, q.0), all_both P Q l p.1 q.1)

module _ (S : Literals) (v : ℕ) where
  -- the set's values, and b for v
  abbrev valued : Bool → Assignment
  valued b u = cond (eqb u v) b (S (plain u))

  abbrev Other : ℕ → Type 0
  Other u = (v ≢ u) × (is_open S u ≡ false)

  valued_own : (b : Bool) → valued b v ≡ b
  valued_own b = rw (eq-eqb v v refl)

  valued_other : (b : Bool) (u : ℕ) → v ≢ u → valued b u ≡ S (plain u)
  valued_other b u n = rw (ne_eqb u v (λ e. n (sym e)))

  -- a literal of another variable that is false is opposed
  false_opposed : (b : Bool) (l : Literal) → Other l.variable → meets_literal (valued b) l ≡ false → In S (opposite l)
  false_opposed b l o h = go l.sign (shut_cases S l.variable o.1) (ap (λ x. cond l.sign x (not x)) (sym (valued_other b l.variable o.0)) ∙ h)
    where
      go : (u : Bool) → In S (plain l.variable) ⊎ In S (negated l.variable) →
          cond u (S (plain l.variable)) (not (S (plain l.variable))) ≡ false → In S (literal (not u) l.variable)
      go true (inl i) e = absurd (true≢false (sym i ∙ e))
      go true (inr i) e = i
      go false (inl i) e = i
      go false (inr i) e = either_way (S (plain l.variable)) (λ p. p) (λ p. absurd (true≢false (sym (ap not p) ∙ e)))

  unmet_opposed : (b : Bool) (c : Clause) → All Other (names_of c) → meets_clause (valued b) c ≡ false → Opposed (In S) c
  unfolding meets_clause
  unmet_opposed b [] o h = tt
  unmet_opposed b (l ∷ c) o h =
      let w = neither (meets_literal (valued b) l) (meets_clause (valued b) c) h in
      (false_opposed b l o.0 w.0, unmet_opposed b c o.1 w.1)

  module _ (ws : List ℕ) (others : All Other ws) (b : Bool) where
    -- an unmet clause of v and of these shuts v
    clause_shuts : {c : Clause} → Of v ws c → All (Keeps (In S)) (members_of c) → meets_clause (valued b) c ≡ false → is_open S v ≡ false
    unfolding members_of meets_clause
    clause_shuts (of {u = u} {c = c} s) k h = shut_by S v u (k.0 (unmet_opposed b c (some_all Other s others) (neither (meets_literal (valued b) (literal u v)) (meets_clause (valued b) c) h).1))

    unmet_shuts : (T : List Clause) → All (Of v ws) T → Closed T (In S) → meets_all (valued b) T ≡ false → is_open S v ≡ false
    unfolding members_in flat_map meets_all
    unmet_shuts [] o k h = absurd (true≢false h)
    unmet_shuts (c ∷ T) o k h =
        let w = closed_parts (In S) c T k in
        either_way (meets_clause (valued b) c) (λ m. unmet_shuts T o.1 w.1 (ap (λ x. x && meets_all (valued b) T) (sym m) ∙ h)) (clause_shuts o.0 w.0)

  gate_shuts : (g : Gate) → All Other (inputs_of g) → Closed (clauses_of v g) (In S) → is_open S v ≡ false
  gate_shuts g o k =
      let wrong : Bool = not (value_of (valued true) g) in
      let same = all_map Other (Same (valued wrong) (valued true)) (λ u p. valued_other wrong u p.0 ∙ sym (valued_other true u p.0)) (inputs_of g) o in
      unmet_shuts (inputs_of g) o wrong (clauses_of v g) (gate_of_lem v g) k (either_way (meets_all (valued wrong) (clauses_of v g))
      (λ m. absurd (not_same (value_of (valued true) g) (sym (valued_own wrong) ∙ (meets_exactly (valued wrong) v g).0 m ∙ value_same (valued wrong) (valued true) g same)))
      (λ m. m))

-- ---- all gates of a formula

gates_pass : (S : Literals) (C k : ℕ) (l : List Node) (D : List Definition) → All (Mentions C k l) D → Closed (clauses_by D) (In S) → All (Passes (λ v. is_open S v ≡ false)) D
unfolding clauses_by flat_map
gates_pass S C k l [] m c = tt
gates_pass S C k l (d ∷ D) m c =
    let w = closed_split (In S) (clauses_of d.variable d.gate) (clauses_by D) c in
    (λ i. gate_shuts S d.variable d.gate (all_both (λ u. d.variable ≢ u) (λ u. is_open S u ≡ false) (inputs_of d.gate) m.0.apart.0 i) w.0, gates_pass S C k l D m.1 w.1)

-- a closed set that leaves no channel variable open leaves none open
pub none_left_open : (S : Literals) (C k : ℕ) (f : Tree Formula) → Letters C f → Closed (clause_table C k f) (In S) → NoneOpen S (k * C)
    → (v : ℕ) → From 1 (variables_of C k (nodes_of f 0)) v → is_open S v ≡ false
unfolding clause_table
none_left_open S C k f L c h =
    let D = definitions_of C k (nodes_of f 0) in
    circuit_induction C k f L (λ v. is_open S v ≡ false) (λ v i. h v i.0 (omega arith))
    (gates_pass S C k (nodes_of f 0) D (definitions_mention C k f L) (closed_split (In S) (clauses_by D) ((plain (root_of C k f) ∷ []) ∷ []) c).0)
