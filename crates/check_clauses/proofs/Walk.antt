-- Question 14 of clauses that follow others: the first no answers. So of definitions one after another, as a walk gives them, either all
-- up to one are met, and the next clause's number is how many these have, or the first no is the answer.
use mathlib.Core.Path.{◌≡◌, refl, sym, ap, ◌∙◌, subst}
use mathlib.Core.Bool.{Bool, true, false, cond}
use mathlib.Core.List.{List, [], ◌∷◌, ◌++◌, append-nil, flat_map}
use Prim.Native.Nat.{ℕ, suc, ◌+◌, ◌≤◌, ◌<◌}
use native.Mathlib.Numerals.{add-one}
use native.Mathlib.Omega.{arith}
use lib.ListN.{length, take, drop, length-append, take-append-drop}
use lib.Seq.{take-suc, take_all}
use Rattle.std.specs.Prelude.{Err, Ok}
use Rattle.refusal.specs.Asked.{Reply, ok}
use Rattle.refusal.specs.declared.Refusal.{Refusal}
use Rattle.interval.specs.Places.{count_of}
use Rattle.interval.specs.Limits.{max_count}
use Rattle.lists.specs.Listing.{rows, sum}
use Rattle.lists.proofs.Listing.{rows_same, length_tab, get_or_tab}
use Rattle.paper_circuit.specs.Gates.{Assignment, value_of}
use Rattle.paper_circuit.specs.Circuit.{Definition, define}
use Rattle.paper_circuit.specs.declared.Gate.{Gate}
use Rattle.paper_circuit.specs.declared.Gate.TheVariants.{Constant}
use Rattle.table_blocks.specs.Blocks.{is_chop, gate_of, defined_by, Bounded, bound}
use Rattle.table_blocks.specs.declared.Block.{Block}
use Rattle.table_blocks.specs.declared.Rule.TheVariants.{Fixed, Cut}
use Rattle.table_sizes.specs.Weights.{clause_weight, weight_of, weight_by, max_weight, max_sum}
use Rattle.table_sizes.specs.declared.Weight.{Weight}
use Rattle.table_sizes.proofs.Weights.{block_weight, weighed}
use Rattle.paper_clauses.specs.Clauses.{Clause, clauses_of, clauses_by, meets_clause}
use Rattle.table_sizes.proofs.Sizes.{gate_clauses, clauses_by_lem}
use Rattle.table_gates.specs.Within.{Within}
use Rattle.table_nodes.specs.Nodes.{chopped_by, node_by}
use Rattle.table_nodes.specs.Walk.{definition_in, DefinedAt, Walks}
use Rattle.table_nodes.specs.declared.cursor.Cursor.{Cursor}
use Rattle.table_nodes.proofs.Walk.{all_defined, walkable, light}
use Rattle.table_nodes.proofs.Nodes.{clauses_join, Halves, chopped, node_known}
use Rattle.paper_assignments.specs.Calls.{ask_clauses}
use Rattle.table_gates.specs.Mentioned.{Variable, InputsIn, Mentioned, AllMentioned}
use Rattle.check_clauses.specs.Walk.{constants}
use Rattle.check_gate.proofs.Gates.{no, gate_met, unmet_known}

-- ---- clauses after clauses

-- the first no of two
abbrev pub either : Reply → Reply → Reply
either (Ok _) q = q
either (Err r) q = Err r

unless : (b : Bool) (p q : Reply) (r : Refusal) → cond b (either p q) (Err r) ≡ either (cond b p (Err r)) q
unless true p q r = refl
unless false p q r = refl

module _ (a : Assignment) where
  pub ask_append : (n : ℕ) (S T : List Clause) → ask_clauses a n (S ++ T) ≡ either (ask_clauses a n S) (ask_clauses a (n + length S) T)
  unfolding ask_clauses
  ask_append n [] T = ap (λ (m : ℕ). ask_clauses a m T) (omega arith)
  ask_append n (c ∷ S) T =
      let s : suc n + length S ≡ n + suc (length S) = omega arith in
      let e = ask_append (suc n) S T ∙ ap (λ (m : ℕ). either (ask_clauses a (suc n) S) (ask_clauses a m T)) s in
      rw e (unless (meets_clause a c) (ask_clauses a (suc n) S) (ask_clauses a (n + suc (length S)) T) _)

-- ---- definitions after definitions

module _ (D E : List Definition) {F : List Definition} (e : D ++ E ≡ F) where
  joined : clauses_by F ≡ clauses_by D ++ clauses_by E
  joined = ap clauses_by (sym e) ∙ clauses_join D E

  length_joined : length (clauses_by F) ≡ length (clauses_by D) + length (clauses_by E)
  length_joined = ap length joined ∙ length-append (clauses_by D) (clauses_by E)

  module _ (a : Assignment) (n : ℕ) {q : Reply} (f : q ≡ ask_clauses a n (clauses_by D)) where
    both_asked : ask_clauses a n (clauses_by F) ≡ either q (ask_clauses a (n + length (clauses_by D)) (clauses_by E))
    both_asked = ap (ask_clauses a n) joined ∙ ask_append a n (clauses_by D) (clauses_by E) ∙ rw f refl

    pub first_no : {r : Refusal} → q ≡ Err r → Err r ≡ ask_clauses a n (clauses_by F)
    first_no g = sym (both_asked ∙ rw g refl)

    pub then_asked : {m : ℕ} {p : Reply} → q ≡ ok → m ≡ n + length (clauses_by D) → p ≡ ask_clauses a m (clauses_by E) → p ≡ ask_clauses a n (clauses_by F)
    then_asked g h i = sym (both_asked ∙ rw (g, ← h) (sym i))

-- ---- a loop: of D the first x definitions are met, whose clauses have the numbers from n on to m

pub record Met (a : Assignment) (n : ℕ) (D : List Definition) (m x : ℕ) : Type 0 where
  pub all : ok ≡ ask_clauses a n (clauses_by (take x D))
  pub next : m ≡ n + length (clauses_by (take x D))

module _ {a : Assignment} {n : ℕ} {D : List Definition} where
  pub met_begun : {x : ℕ} → x ≡ 0 → Met a n D n x
  unfolding ask_clauses clauses_by flat_map
  met_begun e = subst (Met a n D n) (sym e) (record { all = refl; next = omega arith })

  module _ {m x : ℕ} (t : Met a n D m x) where
    pub met_done : length D ≤ x → ok ≡ ask_clauses a n (clauses_by D)
    met_done h = t.all ∙ ap (λ (E : List Definition). ask_clauses a n (clauses_by E)) (take_all x D h)

    -- the definition in place x comes next
    module _ (h : x < length D) {v : ℕ} {gate : Gate} (e : definition_in D x ≡ define v gate) where
      one : clauses_by (define v gate ∷ []) ≡ clauses_of v gate
      unfolding clauses_by flat_map
      one = append-nil (clauses_of v gate)

      one_more : take x D ++ (define v gate ∷ []) ≡ take (x + 1) D
      one_more = rw (add-one x, take-suc D x (definition_in [] 0) h, e) refl

      module _ {q : Reply} (f : q ≡ ask_clauses a m (clauses_of v gate)) where
        up_to_here : q ≡ ask_clauses a n (clauses_by (take (x + 1) D))
        up_to_here = then_asked (take x D) (define v gate ∷ []) one_more a n t.all refl t.next (rw one f)

        pub met_turn : {w : ℕ} → q ≡ ok → w ≡ weight_of clause_weight gate → Met a n D (m + w) (x + 1)
        met_turn g i = record { all = sym g ∙ up_to_here; next = omega (arith, t.next, i, length_joined (take x D) (define v gate ∷ []) one_more, ap length one, gate_clauses v gate) }

        pub met_stopped : {r : Refusal} → q ≡ Err r → Err r ≡ ask_clauses a n (clauses_by D)
        met_stopped g = first_no (take (x + 1) D) (drop (x + 1) D) (take-append-drop (x + 1) D) a n up_to_here g

      -- no number is more than all clauses come to
      pub met_few : m + weight_of clause_weight gate ≤ n + length (clauses_by D)
      met_few =
          omega (
            arith,
            t.next,
            length_joined (take x D) (define v gate ∷ []) one_more,
            ap length one,
            gate_clauses v gate,
            length_joined (take (x + 1) D) (drop (x + 1) D) (take-append-drop (x + 1) D),
          )

-- ---- a block, as the code walks it

block_clauses : (C k : ℕ) (b : Block) → length (clauses_by (defined_by C k b)) ≡ weight_by clause_weight k b.points b.rule
block_clauses C k b = clauses_by_lem (defined_by C k b) ∙ block_weight clause_weight C k b

module _ {C k : ℕ} {block : Block} (s : Bounded C k block × (block.points ≤ max_count)) where
  clauses_few : length (clauses_by (defined_by C k block)) ≤ max_weight
  clauses_few =
      let l = light (walkable s.0 s.1) {v = clause_weight} refl (omega arith) (omega arith) (omega arith) in
      omega (arith, block_clauses C k block, (weighed l block.rule refl refl).1)

  module _ {a : Assignment} {n m : ℕ} {c : Cursor} (w : Walks k block c) (t : Met a n (defined_by C k block) m c.place)
      (h : c.place < c.end) {gate : Gate} (g : DefinedAt C k block c.place gate) where
    inside : c.place < length (defined_by C k block)
    inside = omega (arith, all_defined C w)

    pub gate_few : (weight_of clause_weight gate ≤ max_weight) × (m + weight_of clause_weight gate ≤ n + max_weight)
    gate_few = omega (arith, t.next, met_few t inside g.here, clauses_few)

    pub gate_asks : {l : ℕ} → AllMentioned l (defined_by C k block) → n ≤ max_sum + max_weight
        → Variable l (block.first + c.place) × InputsIn l gate × Within gate × (weight_of clause_weight gate ≤ max_weight) × (m < bound)
    gate_asks {l} f i =
        let d = subst (Mentioned l) g.here (f c.place inside) in
        (d.variable, d.inputs, g.within, gate_few.0, omega (arith, gate_few.1))

    module _ {q : Reply} (f : q ≡ ask_clauses a m (clauses_of (block.first + c.place) gate)) where
      pub block_turn : {w x : ℕ} → q ≡ ok → w ≡ weight_of clause_weight gate → x ≡ c.place + 1 → Met a n (defined_by C k block) (m + w) x
      block_turn {w} e i j = subst (Met a n (defined_by C k block) (m + w)) (sym j) (met_turn t inside g.here f e i)

      pub block_stopped : {r : Refusal} → q ≡ Err r → Err r ≡ ask_clauses a n (clauses_by (defined_by C k block))
      block_stopped e = met_stopped t inside g.here f e

-- ---- a constant's block: one clause a variable

module _ (w n : ℕ) (up : Bool) (e : ℕ) (h : e < n) where
  constant_inside : e < length (constants w n up)
  constant_inside = omega (arith, length_tab n (λ e. define (w + e) (Constant up)))

  constant_here : definition_in (constants w n up) e ≡ define (w + e) (Constant up)
  constant_here = get_or_tab n (λ e. define (w + e) (Constant up)) e (definition_in [] 0) h

module _ (a : Assignment) (m w n : ℕ) (up : Bool) where
  pub constants_begun : Met a m (constants w n up) (m + 0) 0
  constants_begun = let s : Met a m (constants w n up) m 0 = met_begun refl in record { all = s.all; next = omega (arith, s.next) }

  pub constants_done : {e : ℕ} → Met a m (constants w n up) (m + e) e → n ≤ e → ok ≡ ask_clauses a m (clauses_by (constants w n up))
  constants_done t h = met_done t (omega (arith, length_tab n (λ e. define (w + e) (Constant up))))

  module _ {e : ℕ} (t : Met a m (constants w n up) (m + e) e) (h : e < n) {b : Bool} (f : b ≡ a (w + e)) where
    pub constants_turn : b ≡ up → Met a m (constants w n up) (m + (e + 1)) (e + 1)
    unfolding value_of weight_of
    constants_turn g =
        let s = met_turn t (constant_inside w n up e h) (constant_here w n up e h) (gate_met a (w + e) (m + e) (Constant up) (sym f ∙ g)) {w = 1} refl refl in
        record { all = s.all; next = omega (arith, s.next) }

    pub constants_stopped : (b ≡ up → ⊥) → no (m + e) ≡ ask_clauses a m (clauses_by (constants w n up))
    unfolding value_of
    constants_stopped d =
        let z : m + e ≡ m + e + 0 = omega arith in
        met_stopped t (constant_inside w n up e h) (constant_here w n up e h) (ap no z ∙ unmet_known a {gate = Constant up} {g = Constant up} {up = b} 0 refl refl (w + e) (m + e) f d) refl

module _ (C k : ℕ) (b : Block) {up : Bool} (e : b.rule ≡ Fixed up) where
  constants_defined : constants b.first b.points up ≡ defined_by C k b
  unfolding defined_by gate_of rows sum
  constants_defined =
      let same : record { rule = Fixed up; points = b.points; first = b.first; left = b.left; right = b.right } ≡ b =
      λ i. record { rule = sym e i; points = b.points; first = b.first; left = b.left; right = b.right } in
      rows_same b.points _ _ (λ p h. ap (λ (q : ℕ). define (b.first + q) (Constant up) ∷ []) (omega arith)) ∙ ap (defined_by C k) same

  pub constants_mentioned : {l : ℕ} → AllMentioned l (defined_by C k b) → (x : ℕ) → x < b.points → Variable l (b.first + x)
  constants_mentioned {l} f x h =
      (subst (Mentioned l) (constant_here b.first b.points up x h)
      (subst (AllMentioned l) (sym constants_defined) f x (constant_inside b.first b.points up x h))).variable

  pub constants_asked : (a : Assignment) (n : ℕ) {q : Reply} → q ≡ ask_clauses a n (clauses_by (constants b.first b.points up)) → q ≡ ask_clauses a n (clauses_by (defined_by C k b))
  constants_asked a n g = g ∙ ap (λ (D : List Definition). ask_clauses a n (clauses_by D)) constants_defined

-- ---- a chop: its triples, then its intervals

module _ (C : ℕ) {k : ℕ} {b t s : Block} (h : Halves k b t s) where
  abbrev whole : List Definition
  whole = chopped_by C k (b.first + count_of k) b

  module _ (a : Assignment) (n : ℕ) {q : Reply} (f : q ≡ ask_clauses a n (clauses_by (defined_by C k t))) where
    pub triples_no : {r : Refusal} → q ≡ Err r → Err r ≡ ask_clauses a n (clauses_by whole)
    triples_no g = first_no (defined_by C k t) (defined_by C k s) (chopped C h) a n f g

    pub intervals_asked : {w : Weight} {m : ℕ} {p : Reply} → q ≡ ok → w ≡ clause_weight → m ≡ weight_by w k b.points Cut → p ≡ ask_clauses a (n + m) (clauses_by (defined_by C k s))
        → p ≡ ask_clauses a n (clauses_by whole)
    intervals_asked g o e i =
        let m = e ∙ ap (λ (w : Weight). weight_by w k b.points Cut) o ∙ ap (λ (t : Block). weight_by clause_weight k t.points t.rule) (sym h.triples) ∙ sym (block_clauses C k t) in
        then_asked (defined_by C k t) (defined_by C k s) (chopped C h) a n f g (ap (λ (m : ℕ). n + m) m) i

-- ---- a node, known to be a chop or not

pub node_asked : (a : Assignment) (n C k : ℕ) (b : Block) {c d : Bool} {q : Reply} → c ≡ is_chop b.rule → c ≡ d → q ≡ ask_clauses a n (clauses_by (node_by C k b d))
    → q ≡ ask_clauses a n (clauses_by (node_by C k b (is_chop b.rule)))
node_asked a n C k b e f g = g ∙ ap (λ (D : List Definition). ask_clauses a n (clauses_by D)) (node_known C k b e f)
