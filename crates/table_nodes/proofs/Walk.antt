-- A block's definitions stand in the order of places, so the gate at the cursor is that of the definition in its place: the position is
-- that of the place, and the next position that of the next place.
use mathlib.Core.Path.{◌≡◌, refl, sym, ap, ap₂, ◌∙◌, subst}
use mathlib.Core.Bool.{Bool, true, false, cond}
use mathlib.Core.List.{List, [], ◌∷◌, ◌++◌, flat_map, append_assoc, append-nil}
use Prim.Native.Nat.{ℕ, zero, suc, ◌+◌, ◌-◌, ◌^◌, ◌≤◌, ◌<◌}
use native.Mathlib.Omega.{arith}
use lib.Dec.{eqb}
use lib.ListN.{length}
use Rattle.lists.specs.Listing.{rows}
use Rattle.interval.specs.Limits.{max_steps, max_count}
use Rattle.interval.specs.Places.{count_of, triple_count_of}
use Rattle.interval.specs.Rows.{RowsOf}
use Rattle.interval.specs.declared.Triple.{Triple}
use Rattle.interval.proofs.Shape.{place, get_or_per}
use Rattle.interval.proofs.Counts.{triple_count_le}
use Rattle.interval.proofs.Laws.{triples_numbered}
use Rattle.paper_circuit.specs.Circuit.{Definition, define}
use Rattle.paper_circuit.specs.declared.Gate.{Gate}
use Rattle.paper_circuit.specs.declared.Gate.TheVariants.{Constant, Copy}
use Rattle.table_blocks.specs.Blocks.{shape_of, gate_by, gate_of, defined_by, Placed, Before, Bounded, bound, next_of}
use Rattle.table_blocks.specs.declared.Block.{Block}
use Rattle.table_blocks.specs.declared.Position.{Position}
use Rattle.table_blocks.specs.declared.Rule.{Rule}
use Rattle.table_blocks.specs.declared.Rule.TheVariants.{Fixed, Letter, Negation, And, Or, Chop, Duration, Throughout, Cut}
use Rattle.table_blocks.proofs.Positions.{first_placed, next_placed, first_before, next_before, chop_position, position_small, before_small}
use Rattle.table_sizes.specs.Weights.{variable_weight, weight_by, max_weight, Light}
use Rattle.table_sizes.specs.declared.Weight.{Weight}
use Rattle.table_sizes.proofs.Weights.{block_length, shape_weight}
use Rattle.table_sizes.proofs.Rows.{small}
use Rattle.paper_clauses.specs.Clauses.{clauses_of, clauses_by}
use Rattle.paper_clauses.specs.Entries.{Entry, flat}
use Rattle.table_literals.specs.Written.{Room, Wrote, Sofar}
use Rattle.table_gates.specs.Within.{Within}
use Rattle.paper_clauses.proofs.Flat.{flat_join}
use Rattle.table_literals.proofs.Written.{begun, turn, room, done, named}
use Rattle.table_nodes.specs.Walk.{definition_in, places_at, DefinedAt, Walkable, Walks, Walked}
use Rattle.table_nodes.specs.declared.cursor.Cursor.{Cursor}

-- ---- the places of definitions, one definition after another

pub rows_first : {A : Type 0} (n : ℕ) (f : ℕ → List A) → rows (suc n) f ≡ f 0 ++ rows n (λ i. f (suc i))
unfolding rows
rows_first zero f = sym (append-nil (f 0))
rows_first {A} (suc n) f = ap (λ (l : List A). l ++ f (suc n)) (rows_first n f) ∙ append_assoc (f 0) (rows n (λ i. f (suc i))) (f (suc n))

by_rows : (D : List Definition) → rows (length D) (places_at D) ≡ flat (clauses_by D)
unfolding rows clauses_by flat flat_map
by_rows [] = refl
by_rows (d ∷ D) =
    rows_first (length D) (places_at (d ∷ D)) ∙ ap (λ (F : List Entry). flat (clauses_of d.variable d.gate) ++ F) (by_rows D) ∙
    sym (flat_join (clauses_of d.variable d.gate) (clauses_by D))

-- ---- where the walk stands

module _ {k : ℕ} {block : Block} where
  pub begins : {n all : ℕ} {one : Weight} → one ≡ variable_weight → n ≡ weight_by one k block.points block.rule → n ≤ max_weight → all ≡ count_of k
      → Walks k block (record { place = 0; end = n; all = all; position = record { row = 0; line = 0; cell = 0; before = 0 } })
  begins o e l a =
      let c = e ∙ ap (λ (w : Weight). weight_by w k block.points block.rule) o ∙ shape_weight k block.points block.rule in
      record {
        whole = c;
        few = l;
        intervals = a;
        here = λ h. first_placed block.points k block.rule (omega (arith, c));
        before = first_before block.points k block.rule;
      }

  module _ {c : Cursor} (w : Walks k block c) (h : c.place < c.end) where
    pub goes_on : {q : Position} → q ≡ next_of block.points k block.rule c.position → Walks k block (record { place = c.place + 1; end = c.end; all = c.all; position = q })
    goes_on e = record {
      whole = w.whole;
      few = w.few;
      intervals = w.intervals;
      here = λ l. subst (λ (q : Position). Placed block.points k block.rule (c.place + 1) q.row q.line q.cell) (sym e)
          (next_placed block.points k block.rule c.place c.position (w.here h) (omega (arith, w.whole)));
      before = subst (Before block.points k block.rule) (sym e) (next_before block.points k block.rule c.position (w.here h) w.before);
    }

    pub small_here : Walkable k block → (k ≤ max_steps) × (c.position.row < bound) × (c.position.line < bound) × (c.position.cell < bound) × (c.position.before < bound)
    small_here s = omega (arith, s.steps, position_small (w.here h) s.number s.steps s.points, before_small c.position (w.here h) w.before s.steps s.points)

  -- one turn less is left
  pub one_less : {c d : Cursor} → Walks k block c → c.place < c.end → Walks k block d → d.place ≡ c.place + 1 → d.end - d.place < c.end - c.place
  one_less v h w e = omega (arith, v.whole, w.whole, e)

  -- as many gates as definitions
  pub all_defined : (C : ℕ) {c : Cursor} → Walks k block c → c.end ≡ length (defined_by C k block)
  all_defined C w = w.whole ∙ sym (block_length C k block)

pub walkable : {C k : ℕ} {block : Block} → Bounded C k block → block.points ≤ max_count → Walkable k block
walkable s p = record { steps = s.steps; points = p; number = s.number }

pub light : {k : ℕ} {block : Block} → Walkable k block → {w v : Weight} → w ≡ v → v.copy ≤ 4 → v.each ≤ 3 → v.step ≤ 11 → Light w k block.points block.rule
light s e a b c = record { small = small e a b c s.steps; points = s.points; number = s.number }

-- ---- the inputs of a block's gates are numbers of 32 bits

within_cond : (c : Bool) (g h : Gate) → Within g → Within h → Within (cond c g h)
within_cond true g h a b = a
within_cond false g h a b = b

module _ (C k : ℕ) (block : Block) (s : Bounded C k block) where
  gate_within : (x a i d : ℕ) → Placed block.points k block.rule x a i d → Within (gate_of C k block x a i d)
  unfolding gate_of triple_count_of
  gate_within x a i d p = go block.rule refl
    where
      triples_below : triple_count_of k ≤ triple_count_of max_steps
      triples_below = triple_count_le max_steps k s.steps

      first : Triple
      first = record { i = i; m = i; j = i + d }

      go : (r : Rule) → block.rule ≡ r → Within (gate_by C k block.first block.left block.right x a i d r)
      go (Fixed v) e = tt
      go (Letter c) e = tt
      go Negation e = tt
      go And e = tt
      go Or e = tt
      go Chop e =
          let h = chop_position p e in
          let t = (triples_numbered k).below first (record { starts = omega arith; cut = omega arith; ends = h }) in
          (omega arith, omega (arith, h, t, triples_below, s.left, s.steps))
      go (Duration n) e = within_cond (eqb a 0) (Constant true) _ tt (within_cond (eqb d 0) (Constant false) _ tt tt)
      go Throughout e = within_cond (eqb d 0) (Constant false) _ tt (within_cond (eqb d 1) (Copy (block.left + i)) _ tt tt)
      go Cut e = tt

-- ---- the definition in place x

module _ (C k : ℕ) (block : Block) {x a i d : ℕ} (p : Placed block.points k block.rule x a i d) {gate : Gate} (g : gate ≡ gate_of C k block x a i d) where
  pub definition_here : definition_in (defined_by C k block) x ≡ define (block.first + x) gate
  unfolding defined_by
  definition_here =
      let s = shape_of block.points k block.rule in
      let at = p.at in
      ap (definition_in (defined_by C k block)) at
      ∙ get_or_per s (λ e. define (block.first + place s e) (gate_of C k block (place s e) e.0 e.1.0 e.1.1)) (a, (i, d)) (define 0 (Constant false)) p.inside
      ∙ ap₂ (λ (y : ℕ) (g : Gate). define (block.first + y) g) (sym at) (ap (λ (y : ℕ). gate_of C k block y a i d) (sym at) ∙ sym g)

  pub defined_at : Bounded C k block → DefinedAt C k block x gate
  defined_at b = record { here = definition_here; within = subst Within (sym g) (gate_within C k block b x a i d p) }

-- the gate at the cursor
module _ {C k : ℕ} {block : Block} (b : Bounded C k block) {c : Cursor} (w : Walks k block c) (h : c.place < c.end) where
  pub gate_asked : {starts : List ℕ} → RowsOf k starts → (Bounded C k block × (c.place < 2 ^ 24) × (c.all ≡ count_of k) × RowsOf k starts)
      × (Placed block.points k block.rule c.place c.position.row c.position.line c.position.cell ×
      (block.rule ≡ Chop → Before block.points k block.rule c.position))
  gate_asked o = ((b, omega (arith, w.few), w.intervals, o), (w.here h, λ _. w.before))

  pub gate_defined : {gate : Gate} → gate ≡ gate_of C k block c.place c.position.row c.position.line c.position.cell → DefinedAt C k block c.place gate
  gate_defined g = defined_at C k block (w.here h) g b

-- ---- the writing loop

module _ (C k : ℕ) (block : Block) where
  abbrev D : List Definition
  D = defined_by C k block

  module _ {v m : List ℕ} {at : ℕ} where
    pub walk_begun : {c : Cursor} → Walks k block c → c.place ≡ 0 → Walked C k block v m at v m c at
    walk_begun w e = record { walks = w; sofar = subst (Sofar v m at (places_at D) (length D) v m at) (sym e) begun }

    module _ {v' m' : List ℕ} {c : Cursor} {b : ℕ} (w : Walked C k block v m at v' m' c b) where
      pub walk_done : c.end ≤ c.place → Wrote v m at (flat (clauses_by D)) v' m' b
      walk_done h = named (by_rows D) (done w.sofar (omega (arith, all_defined C w.walks)))

      module _ (h : c.place < c.end) {gate : Gate} (g : DefinedAt C k block c.place gate) where
        inside : c.place < length D
        inside = omega (arith, all_defined C w.walks)

        places : places_at D c.place ≡ flat (clauses_of (block.first + c.place) gate)
        places = ap (λ (e : Definition). flat (clauses_of e.variable e.gate)) g.here

        pub walk_room : Room v m at (flat (clauses_by D)) → Room v' m' b (flat (clauses_of (block.first + c.place) gate))
        walk_room r = room w.sofar inside places (subst (Room v m at) (sym (by_rows D)) r)

        pub walk_turn : {v'' m'' : List ℕ} {b'' : ℕ} {d : Cursor} →
            Wrote v' m' b (flat (clauses_of (block.first + c.place) gate)) v'' m'' b'' → Walks k block d × (d.place ≡ c.place + 1)
            → Walked C k block v m at v'' m'' d b''
        walk_turn {v''} {m''} {b''} t e = record { walks = e.0; sofar = subst (Sofar v m at (places_at D) (length D) v'' m'' b'') (sym e.1) (turn w.sofar inside places t) }
