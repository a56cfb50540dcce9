-- Every variable that the definitions of a formula's node table mention is one of its V, and so is the root: the rows give the formula's
-- definitions, whose variables and inputs lie within the blocks and the channels.
use mathlib.Core.Path.{◌≡◌, refl, sym, ap, ◌∙◌, subst}
use mathlib.Core.Bool.{false}
use mathlib.Core.List.{List}
use Prim.Native.Nat.{ℕ, ◌+◌, ◌<◌}
use native.Mathlib.Omega.{arith}
use lib.ListN.{length, length-map}
use Rattle.lists.specs.Listing.{rows, tab, sum, All}
use Rattle.lists.proofs.Listing.{sum_lt, length_rows, get_or_rows, length_tab, get_or_tab}
use Rattle.paper_grammar.specs.Trees.{Tree, Letters}
use Rattle.paper_grammar.specs.declared.Sort.TheVariants.{Formula}
use Rattle.paper_grammar.specs.Nodes.{Node, nodes_of}
use Rattle.node_rows.specs.Table.{row_of, table_of}
use Rattle.node_rows.specs.declared.NodeTable.{NodeTable}
use Rattle.paper_circuit.specs.Gates.{inputs_of}
use Rattle.paper_circuit.specs.Circuit.{Definition, define, variables_of, definitions_of, root_of}
use Rattle.paper_circuit.specs.declared.Gate.{Gate}
use Rattle.paper_circuit.specs.declared.Gate.TheVariants.{Constant, Copy, Inverse, Both, Either, AnyOf, Step}
use Rattle.paper_circuit.proofs.Blocks.{From, root_in_range}
use Rattle.lists.proofs.Lists.{all_at}
use Rattle.paper_circuit.proofs.Laws.{Mentions, definitions_mention}
use Rattle.table_gates.specs.Mentioned.{Variable, InputsIn, Mentioned, AllMentioned}
use Rattle.table_layout.specs.declared.Sizes.{Sizes}
use Rattle.node_calls.specs.Rows.{node_table_of}
use Rattle.table_layout.specs.Rows.{seat_by, row_definitions, Measured}
use Rattle.table_layout.proofs.Places.{kinds, numbers, sizes, rows_defined, root_at}
use Rattle.table_layout.proofs.Known.{known, variables_known}

-- row x is among all
pub row_mentioned : (D : ℕ → List Definition) {n x : ℕ} → x < n → {l : ℕ} → AllMentioned l (rows n D) → AllMentioned l (D x)
row_mentioned D {n} {x} h {l} a y g =
    let w : ℕ → ℕ = λ i. length (D i) in
    subst (Mentioned l) (get_or_rows D w (λ i. refl) n x y (define 0 (Constant false)) h g) (a (sum w x + y) (omega (arith, length_rows D w (λ i. refl) n, sum_lt w n x y h g)))

inputs_in : (n : ℕ) (g : Gate) → All (From 1 n) (inputs_of g) → InputsIn n g
unfolding inputs_of
inputs_in n (Constant b) a = tt
inputs_in n (Copy u) a = omega (arith, a.0)
inputs_in n (Inverse x) a = omega (arith, a.0)
inputs_in n (Both x y) a = (omega (arith, a.0), omega (arith, a.1.0))
inputs_in n (Either x y) a = (omega (arith, a.0), omega (arith, a.1.0))
inputs_in n (AnyOf w m) a = λ e h.
    let f = subst (From 1 n) (get_or_tab m (λ e. w + e) e 0 h) (all_at (From 1 n) (tab m (λ e. w + e)) 0 a e (omega (arith, length_tab m (λ e. w + e)))) in omega arith
inputs_in n (Step p q s) a = (omega (arith, a.0), omega (arith, a.1.0), omega (arith, a.1.1.0))

module _ (C k : ℕ) (f : Tree Formula) where
  abbrev nodes : List Node
  nodes = nodes_of f 0

  all_mentioned : Letters C f → AllMentioned (variables_of C k nodes) (definitions_of C k nodes)
  unfolding variables_of
  all_mentioned L x h =
      let m = all_at (Mentions C k nodes) (definitions_of C k nodes) (define 0 (Constant false)) (definitions_mention C k f L) x h in
      record { variable = omega (arith, m.defines); inputs = inputs_in _ _ m.inputs }

  module _ {T : NodeTable} (e : T ≡ node_table_of f) {F : List ℕ} {s : Sizes} (w : Measured C k T.kinds T.numbers T.count F s) where
    abbrev defined_in : NodeTable → ℕ → List Definition
    defined_in T n = rows n (row_definitions C k T.kinds T.numbers T.sizes F)

    abbrev root_in : NodeTable → ℕ
    root_in T = seat_by T.kinds T.numbers F k 0 + k

    pub defined_known : defined_in T T.count ≡ definitions_of C k nodes
    unfolding table_of
    defined_known =
        ap (λ (T : NodeTable). defined_in T T.count) e ∙ ap (λ (n : ℕ). rows n (row_definitions C k (kinds nodes) (numbers nodes) (sizes nodes) F)) (length-map nodes row_of)
        ∙ rows_defined C k f F (known C k f e w).first

    pub root_known : root_in T ≡ root_of C k f
    unfolding table_of
    root_known = ap root_in e ∙ root_at C k f F (known C k f e w).first

    pub table_mentioned : Letters C f → (A : List ℕ) → length A ≡ s.variables → AllMentioned (length A) (defined_in T T.count) × Variable (length A) (root_in T)
    table_mentioned L A h =
        let n = sym (h ∙ variables_known C k f e w) in (
          subst (λ (D : List Definition). AllMentioned (length A) D) (sym defined_known)
              (subst (λ (n : ℕ). AllMentioned n (definitions_of C k nodes)) n (all_mentioned L)),
          omega (arith, n, root_known, root_in_range C k f),
        )
