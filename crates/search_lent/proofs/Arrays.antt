-- The node table's clauses are the formula's, so the tree that the code goes through is the formula's; and what the search does with the
-- first k bytes of the recording's array it does with the array, since it leaves the rest.
use mathlib.Core.Path.{◌≡◌, sym, ap, ap₂, ◌∙◌, subst}
use mathlib.Core.List.{List, ◌++◌}
use Prim.Native.Nat.{ℕ, ◌*◌, ◌^◌, ◌≤◌, ◌<◌}
use native.Mathlib.Omega.{arith}
use lib.ListN.{length, get_or, take, drop, length-map, take-append-drop}
use lib.Seq.{length-take-le}
use Rattle.std.specs.Prelude.{Result, Ok}
use Rattle.refusal.specs.declared.Refusal.{Refusal}
use Rattle.interval.specs.Limits.{max_steps}
use Rattle.paper_grammar.specs.Limits.{max_nodes, max_channels}
use Rattle.paper_grammar.specs.Trees.{Tree, Letters}
use Rattle.paper_grammar.specs.declared.Sort.TheVariants.{Formula}
use Rattle.paper_grammar.specs.Nodes.{nodes_of, node}
use Rattle.paper_grammar.proofs.EachNode.{first_node, begins_whole}
use Rattle.node_rows.specs.Table.{row_of, table_of}
use Rattle.node_rows.specs.declared.NodeTable.{NodeTable}
use Rattle.node_calls.proofs.Standing.{nodes_count, stands}
use Rattle.paper_clauses.specs.Clauses.{Clause}
use Rattle.moments.specs.Moments.{over}
use Rattle.table_layout.specs.declared.Sizes.{Sizes}
use Rattle.table_layout.proofs.Known.{variables_known}
use Rattle.node_calls.specs.Rows.{node_table_of}
use Rattle.table_layout.specs.Rows.{Seated, Measured}
use Rattle.paper_assignments.specs.Extension.{recording_by}
use Rattle.paper_assignments.proofs.Recordings.{recording_length}
use Rattle.paper_closure.specs.Runs.{dead, found, high_in}
use Rattle.paper_closure.specs.Tree.{Trial, trial, tree}
use Rattle.search_clauses.specs.Clauses.{table_by}
use Rattle.search_fanout.specs.Fanout.{Nearest, Ground}
use Rattle.search_fanout.proofs.Formula.{ground_of, table_known}
use Rattle.paper_search.specs.Search.{tree_of, Searched, unwritten, limited}
use Rattle.paper_search.specs.declared.Answer.{Answer}
use Rattle.paper_search.specs.declared.Answer.TheVariants.{Found, None, Spent}
use Rattle.paper_search.proofs.Ends.{End, finds, lacks, spends, ended_by}
use Rattle.search_draw.proofs.Drawn.{over_whole, within, beyond}

-- ---- the recording's first k bytes

module _ (C k B : ℕ) (recording : List ℕ) (h : k ≤ length recording) (t : Trial) where
  -- the rest left as it is
  abbrev rest : Searched → Searched
  rest x = record { answer = x.answer; recording = x.recording ++ drop k recording }

  over_first : (new : List ℕ) → length new ≡ k → over new (take k recording) ++ drop k recording ≡ over new recording
  over_first new e =
      ap (λ (l : List ℕ). l ++ drop k recording) (over_whole new (take k recording) (omega (arith, length-take-le k recording h)))
      ∙ ap (λ (n : ℕ). new ++ drop n recording) (sym e)

  whole : (a : Result Answer Refusal) → rest (unwritten (take k recording) a) ≡ unwritten recording a
  whole a = ap (λ (l : List ℕ). unwritten l a) (take-append-drop k recording)

  first_rest : {x : Searched} → End C k B (take k recording) t x → rest x ≡ limited C k B recording t
  first_rest (finds S e l) =
      ap (λ (l : List ℕ). record { answer = Ok (Found t.tries); recording = l }) (over_first (recording_by C k (high_in S)) (recording_length C k (high_in S)))
      ∙ within C k B recording t (trial (found S) t.tries) (λ i. trial (e i) t.tries) l
  first_rest (lacks e l) = whole (Ok (None t.tries)) ∙ within C k B recording t (trial dead t.tries) (λ i. trial (e i) t.tries) l
  first_rest (spends l) = whole (Ok (Spent B)) ∙ beyond C k B recording t l

-- ---- the formula's node table

module _ (C k : ℕ) (f : Tree Formula) {T : NodeTable} (e : T ≡ node_table_of f) {G : List ℕ} {s : Sizes}
    (w : Measured C k T.kinds T.numbers T.count G s) where
  -- every row is among the root's nodes
  pub root_rows : (0 < T.count) × (T.count ≤ get_or T.sizes 0 0)
  unfolding table_of
  root_rows =
      let o = (stands (nodes_of f 0) (node f 0) 0 (begins_whole f 0)).own in
      subst (λ (T : NodeTable). (0 < T.count) × (T.count ≤ get_or T.sizes 0 0)) (sym e) (omega (arith, length-map (nodes_of f 0) row_of, nodes_count f 0, ap length (first_node f 0), o.size))

  -- the parts of the arrays that are lent on
  module _ (values trail recording : List ℕ) (v : s.variables ≤ length values) (t : s.variables ≤ length trail) (h : k ≤ length recording) where
    values_taken : length (take s.variables values) ≡ s.variables
    values_taken = length-take-le s.variables values v

    -- what the tree of tries asks for
    pub on_ground : Letters C f → C ≤ max_channels → k ≤ max_steps → T.count ≤ max_nodes → {Q P : List ℕ} →
        Seated T.kinds T.numbers G k Q max_nodes → Nearest T.sizes P T.count
        → Ground C k T.kinds T.numbers T.sizes G Q P T.count (length (take s.variables values))
    on_ground L c k n q p = ground_of C _ f e w L c k n q p (take s.variables values) values_taken

    pub parts_fit : s.variables < 2 ^ 32 → (length (take s.variables values) ≤ length (take s.variables trail)) × (length (take s.variables values) < 2 ^ 32)
        × (length (take k recording) ≡ k)
    parts_fit l = (omega (arith, values_taken, length-take-le s.variables trail t), omega (arith, values_taken, l), length-take-le _ recording h)

    -- and what it comes to
    tree_known : tree (table_by C k T.kinds T.numbers T.sizes G T.count) (length (take s.variables values)) (k * C) ≡ tree_of C k f
    unfolding tree_of
    tree_known = ap₂ (λ (T : List Clause) (n : ℕ). tree T n (k * C)) (table_known C k f e w) (values_taken ∙ variables_known C k f e w)

    pub search_known : (B : ℕ) {a : Result Answer Refusal} {out : List ℕ}
        → record { answer = a; recording = out } ≡ limited C k B (take k recording)
        (tree (table_by C k T.kinds T.numbers T.sizes G T.count) (length (take s.variables values)) (k * C))
        → record { answer = a; recording = out ++ drop k recording } ≡ limited C k B recording (tree_of C k f)
    search_known B d = first_rest C k B recording h (tree_of C k f) (ended_by C k B (take k recording) (tree_of C k f) (d ∙ ap (limited C k B (take k recording)) tree_known))
