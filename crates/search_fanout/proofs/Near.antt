-- Where the variables lie that a block's gates mention, rule by rule, over plain numbers: in the block itself, among the points of a part's
-- truth, among a chop's triples, or at a letter's channel.
use mathlib.Core.Path.{◌≡◌, sym, subst}
use mathlib.Core.Logic.{◌⊎◌, inl, inr, ⊎_elim}
use mathlib.Core.List.{List, [], ◌++◌}
use Prim.Native.Nat.{ℕ, ◌+◌, ◌*◌, ◌<◌}
use native.Mathlib.Omega.{arith}
use lib.Dec.{eqb}
use borrow.Author.Tests.{eqb-true, eqb-false}
use Rattle.lists.proofs.Tests.{cond_elim}
use Rattle.lists.specs.Listing.{sum}
use Rattle.interval.proofs.Shape.{Shape, Inside, count, place, place_lt}
use Rattle.interval.specs.Places.{count_of, triple_count_of}
use Rattle.interval.proofs.Laws.{intervals_numbered, triples_numbered, triples_in_a_row}
use Rattle.lists.proofs.Lists.{all_append}
use Rattle.paper_circuit.specs.Circuit.{Definition, channel_of}
use Rattle.paper_circuit.specs.declared.Gate.{Gate}
use Rattle.paper_circuit.proofs.Blocks.{From}
use Rattle.paper_circuit.proofs.Inputs.{row_lt}
use Rattle.table_blocks.specs.Blocks.{shape_of, gate_by, defined_by}
use Rattle.table_blocks.specs.declared.Block.{Block}
use Rattle.table_blocks.specs.declared.Rule.{Rule}
use Rattle.table_blocks.specs.declared.Rule.TheVariants.{Fixed, Letter, Negation, And, Or, Chop, Duration, Throughout, Cut}
use Rattle.table_sizes.specs.Weights.{weight_by}
use Rattle.table_sizes.proofs.Weights.{shape_weight}
use Rattle.paper_clauses.specs.Clauses.{clauses_by}
use Rattle.table_nodes.specs.Nodes.{triple_block, interval_block}
use Rattle.table_nodes.proofs.Nodes.{clauses_join}
use Rattle.search_fanout.specs.Fanout.{Names, node_clauses, width_by, InBlock, Voiced, Laid}
use Rattle.search_fanout.proofs.Named.{Inputs}
use Rattle.search_fanout.proofs.Cover.{Unnamed}
use Rattle.search_fanout.proofs.Fine.{ruled, covered}

-- u is an input of a gate of the block
abbrev pub NearBy : ℕ → ℕ → Block → ℕ → Rule → Type 0
NearBy C k b u (Fixed v) = ⊥
NearBy C k b u (Letter c) = (t : ℕ) × (t < b.points) × (u ≡ channel_of C t c)
NearBy C k b u Negation = From b.left b.points u
NearBy C k b u And = From b.left b.points u ⊎ From b.right b.points u
NearBy C k b u Or = From b.left b.points u ⊎ From b.right b.points u
NearBy C k b u Chop = From b.left (triple_count_of k) u
NearBy C k b u (Duration n) = From b.first (count (shape_of b.points k (Duration n))) u ⊎ From b.left k u
NearBy C k b u Throughout = From b.first (count (shape_of b.points k Throughout)) u ⊎ From b.left k u
NearBy C k b u Cut = From b.left (count_of k) u ⊎ From b.right (count_of k) u

module _ (C k u : ℕ) (b : Block) where
  abbrev shape : Rule → Shape
  shape q = shape_of b.points k q

  both : {x : ℕ} → x < b.points → (u ≡ b.left + x) ⊎ (u ≡ b.right + x) → From b.left b.points u ⊎ From b.right b.points u
  both h (inl e) = inl (omega arith)
  both h (inr e) = inr (omega arith)

  three : {X A B D : Type 0} → (A → X) → (B → X) → (D → X) → A ⊎ (B ⊎ D) → X
  three f g h (inl a) = f a
  three f g h (inr (inl b)) = g b
  three f g h (inr (inr d)) = h d

  input_near : (q : Rule) (a i d : ℕ) → Inside (shape q) (a, (i, d)) → Inputs u (gate_by C k b.first b.left b.right (place (shape q) (a, (i, d))) a i d q) → NearBy C k b u q
  unfolding sum
  input_near (Fixed v) a i d h m = absurd m
  input_near (Letter c) a i d h m = (place (shape (Letter c)) (a, (i, d)), omega (arith, place_lt (shape (Letter c)) (a, (i, d)) h), m)
  input_near Negation a i d h m = omega (arith, m, place_lt (shape Negation) (a, (i, d)) h)
  input_near And a i d h m = both (omega (arith, place_lt (shape And) (a, (i, d)) h)) m
  input_near Or a i d h m = both (omega (arith, place_lt (shape Or) (a, (i, d)) h)) m
  input_near Chop a i d h (e, f, m) =
      let t = (triples_numbered k).below (record { i = i; m = i + e; j = i + d }) (record { starts = omega arith; cut = omega arith; ends = omega (arith, h.1) }) in
      let s = triples_in_a_row k i (i + e) (i + d) (omega arith) (omega arith) (omega (arith, h.1)) in
      omega (arith, m, t, s)
  input_near (Duration n) a i d h m =
      let p = place_lt (shape (Duration n)) (a, (i, d)) h in
      cond_elim (λ (g : Gate). Inputs u g → NearBy C k b u (Duration n)) (eqb a 0) (λ _ m. absurd m)
      (λ _ m. cond_elim (λ (g : Gate). Inputs u g → NearBy C k b u (Duration n)) (eqb d 0) (λ _ m. absurd m)
      (λ e m. three (λ f. inl (omega (arith, f, p))) (λ f. inl (omega (arith, f, p))) (λ f. inr (omega (arith, f, h.1, eqb-false d 0 e))) m) m) m
  input_near Throughout a i d h m =
      let p = place_lt (shape Throughout) (a, (i, d)) h in
      cond_elim Near (eqb d 0) (λ _ m. absurd m)
      (λ e m. cond_elim Near (eqb d 1) (λ f m. inr (omega (arith, m, h.1, eqb-true d 1 f)))
      (λ _ m. ⊎_elim (λ f. inl (omega (arith, f, p, eqb-false d 0 e))) (λ f. inr (omega (arith, f, h.1, eqb-false d 0 e))) m) m) m
    where
      Near : Gate → Type 0
      Near g = Inputs u g → NearBy C k b u Throughout
  input_near Cut a i d h (inl m) = inl (let t = (intervals_numbered k).below (record { i = a; j = a + d }) (record { starts = omega arith; ends = omega (arith, h.1) }) in omega (arith, m, t))
  input_near Cut a i d h (inr m) =
      inr (let t = (intervals_numbered k).below (record { i = a + d; j = a + i }) (record { starts = omega (arith, h.1); ends = omega (arith, h.1) }) in
      omega (arith, m, t))

  -- a block that u is neither of nor near to
  pub unnamed : (From b.first (count (shape b.rule)) u → ⊥) → (NearBy C k b u b.rule → ⊥) → Unnamed (clauses_by (defined_by C k b)) u
  unnamed n m = record {
    none = (covered C k u b {W = []} (λ p. ⊥) (λ p x. absurd x) (λ x h.
        ⊎_elim (λ e. n (omega (arith, e, place_lt (shape b.rule) x h))) (λ i. m (input_near b.rule x.0 x.1.0 x.1.1 h i)))).whatever (λ c. ⊥) tt;
  }

-- ---- a node

-- u is an input of a gate of the node from beyond its own block: a part's truth, a letter's channel
abbrev pub Outer : ℕ → ℕ → Block → ℕ → Rule → Type 0
Outer C k b u (Fixed v) = ⊥
Outer C k b u (Letter c) = (t : ℕ) × (t < b.points) × (u ≡ channel_of C t c)
Outer C k b u Negation = From b.left b.points u
Outer C k b u And = From b.left b.points u ⊎ From b.right b.points u
Outer C k b u Or = From b.left b.points u ⊎ From b.right b.points u
Outer C k b u Chop = From b.left (count_of k) u ⊎ From b.right (count_of k) u
Outer C k b u (Duration n) = From b.left k u
Outer C k b u Throughout = From b.left k u
Outer C k b u Cut = From b.left (count_of k) u ⊎ From b.right (count_of k) u

module _ (C k u : ℕ) (b : Block) where
  unnamed_both : (D E : List Definition) → Unnamed (clauses_by D) u → Unnamed (clauses_by E) u → Unnamed (clauses_by (D ++ E)) u
  unnamed_both D E d e = record { none = rw (clauses_join D E) (all_append (λ c. Names u c → ⊥) (clauses_by D) (clauses_by E) d.none e.none) }

  abbrev Own : Rule → Type 0
  Own q = From b.first (width_by k b.points q) u

  node_unnamed : (q : Rule) → (Own q → ⊥) → (Outer C k b u q → ⊥) → Unnamed (node_clauses C k (ruled q b)) u
  unfolding weight_by
  node_unnamed (Fixed v) n m = unnamed C k u (ruled (Fixed v) b) (λ f. n (omega (arith, f, shape_weight k b.points (Fixed v)))) m
  node_unnamed (Letter c) n m = unnamed C k u (ruled (Letter c) b) (λ f. n (omega (arith, f, shape_weight k b.points (Letter c)))) m
  node_unnamed Negation n m = unnamed C k u (ruled Negation b) (λ f. n (omega (arith, f, shape_weight k b.points Negation))) m
  node_unnamed And n m = unnamed C k u (ruled And b) (λ f. n (omega (arith, f, shape_weight k b.points And))) m
  node_unnamed Or n m = unnamed C k u (ruled Or b) (λ f. n (omega (arith, f, shape_weight k b.points Or))) m
  node_unnamed Chop n m =
      let w = b.first + count_of k in
      unnamed_both (defined_by C k (triple_block w b)) (defined_by C k (interval_block w b))
      (unnamed C k u (triple_block w b) (λ f. n (omega (arith, f, shape_weight k b.points Cut))) m)
      (unnamed C k u (interval_block w b) (λ f. n (omega (arith, f, shape_weight k b.points Chop))) (λ f. n (omega (arith, f))))
  node_unnamed (Duration l) n m =
      unnamed C k u (ruled (Duration l) b) (λ f. n (omega (arith, f, shape_weight k b.points (Duration l)))) (⊎_elim (λ f. n (omega (arith, f, shape_weight k b.points (Duration l)))) m)
  node_unnamed Throughout n m =
      unnamed C k u (ruled Throughout b) (λ f. n (omega (arith, f, shape_weight k b.points Throughout))) (⊎_elim (λ f. n (omega (arith, f, shape_weight k b.points Throughout))) m)
  node_unnamed Cut n m = unnamed C k u (ruled Cut b) (λ f. n (omega (arith, f, shape_weight k b.points Cut))) m

  -- u is neither of the node's block, nor of its parts' truth, nor its channel
  pub away : {q : Rule} → b.rule ≡ q → (InBlock k b u → ⊥) → (Outer C k b u q → ⊥) → Unnamed (node_clauses C k b) u
  away e n m = node_unnamed b.rule n (subst (λ (q : Rule). Outer C k b u q → ⊥) (sym e) m)

  -- a letter's gates turn on channels alone
  pub letter_away : {c : ℕ} → b.rule ≡ Letter c → Laid C k b → k * C < u → (InBlock k b u → ⊥) → Unnamed (node_clauses C k b) u
  letter_away {c} e j h n =
      let v = subst (Voiced C k b) e j.voiced in
      away e n (λ f. omega (arith, h, f.2, row_lt C k f.0 c (omega (arith, f.1, v.1)) v.0))
