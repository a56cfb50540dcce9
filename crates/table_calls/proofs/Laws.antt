-- No node's definitions weigh more than 2^24, in variables, clauses or literals, so those of 64 nodes come to 2^30 at the most:
-- the sizes are numbers of 32 bits.
use mathlib.Core.Path.{◌≡◌, refl, sym, subst}
use mathlib.Core.List.{List, [], ◌∷◌}
use Prim.Native.Nat.{ℕ, ◌+◌, ◌*◌, ◌^◌, ◌≤◌, ◌<◌}
use native.Mathlib.Omega.{arith}
use lib.Dec.{ltb}
use lib.ListN.{length}
use Rattle.refusal.specs.Asked.{ok}
use Rattle.interval.specs.Places.{count_of}
use Rattle.interval.specs.Limits.{max_steps, max_count}
use Rattle.interval.proofs.Counts.{count_le}
use Rattle.paper_grammar.specs.Limits.{max_number, max_channels}
use Rattle.paper_grammar.specs.Trees.{Tree, constant, letter, negation, pair, duration, throughout, Letters, Numbers}
use Rattle.paper_grammar.specs.Reader.{Read, on_tree}
use Rattle.paper_grammar.specs.declared.Sort.{Sort}
use Rattle.paper_grammar.specs.declared.Sort.TheVariants.{Formula}
use Rattle.lists.proofs.Tests.{cond_elim}
use Rattle.paper_grammar.specs.Nodes.{Node, nodes_of}
use Rattle.paper_grammar.specs.Questions.{accept_of}
use Rattle.lists.specs.Listing.{All}
use Rattle.paper_grammar.proofs.EachNode.{each_node, each_all, both_pass, LettersNode, letters_pass, NumbersNode, numbers_pass}
use Rattle.formula_text.proofs.Laws.{accepted}
use Rattle.node_rows.specs.Table.{head_of}
use Rattle.paper_circuit.specs.Circuit.{width_of, seats_of, own_of, defined_from}
use Rattle.table_blocks.specs.Blocks.{rule_by, is_chop}
use Rattle.table_blocks.specs.declared.Rule.TheVariants.{Cut}
use Rattle.table_sizes.specs.Weights.{weight_all, variable_weight, clause_weight, literal_weight, max_weight, Light, Small, points_by, row_weight}
use Rattle.table_sizes.specs.declared.Weight.{Weight}
use Rattle.table_sizes.proofs.Weights.{weight_append, weighed}
use Rattle.table_sizes.proofs.Rows.{weight_before, row_weight_lem, all_weight, row_light}
use Rattle.table_calls.specs.Table.{sizes_of, sizes_in}
use Rattle.table_layout.proofs.Measure.{channels_few}
use Rattle.table_layout.proofs.Known.{literals_are, clauses_are, variables_are}

-- a number in the node table is a byte
abbrev LowNumber : Node → Type 0
LowNumber w = (head_of w.part).number ≤ 255

module _ (C : ℕ) (h : C ≤ max_channels) where
  low_number : {s : Sort} (x : Tree s) → Letters C x → Numbers max_number x → (head_of x).number ≤ 255
  low_number (constant v) L N = omega arith
  low_number (letter c) L N = omega arith
  low_number (negation x) L N = omega arith
  low_number (pair l x y) L N = omega arith
  low_number (duration x n) L N = omega arith
  low_number (throughout x) L N = omega arith

  abbrev Limited : Node → Type 0
  Limited w = LettersNode C w × NumbersNode max_number w

  low_numbers : {s : Sort} (x : Tree s) (at : ℕ) → Letters C x → Numbers max_number x → All LowNumber (nodes_of x at)
  low_numbers x at L N =
      each_all Limited LowNumber (λ w p. low_number w.part p.0 p.1) (nodes_of x at) (each_node Limited (both_pass (LettersNode C) (NumbersNode max_number) (letters_pass C) (numbers_pass max_number)) x at (L, N))

module _ (w : Weight) (k : ℕ) (h : Small w k) where
  few_points : (kind : ℕ) → points_by k kind ≤ max_count
  unfolding points_by count_of
  few_points kind = cond_elim (λ n. n ≤ max_count) (ltb kind 16) (λ e. omega (arith, h.steps)) (λ e. count_le max_steps k h.steps)

  light_cut : {points : ℕ} → points ≤ max_count → Light w k points Cut
  light_cut p = record { small = h; points = p; number = omega arith }

  -- one block, or a chop's two
  row_le : (kind number : ℕ) → number ≤ 255 → row_weight w k kind number ≤ 2 * max_weight
  unfolding row_weight
  row_le kind number l =
      let own = (weighed (row_light kind number refl h l (few_points kind)) (rule_by kind number) refl refl).1 in
      let cut = (weighed (light_cut (few_points kind)) Cut refl refl).1 in
      cond_elim (λ n. n ≤ 2 * max_weight) (is_chop (rule_by kind number)) (λ e. omega arith) (λ e. omega arith)

  nodes_le : (C b : ℕ) (l : List Node) → All LowNumber l → weight_all w (defined_from C k b l) ≤ length l * (2 * max_weight)
  unfolding defined_from own_of weight_all
  nodes_le C b [] a = omega arith
  nodes_le C b (u ∷ l) a =
      let p = b + width_of k u.part in
      omega (
        arith,
        weight_append w (own_of C k b u.part) (defined_from C k p l),
        row_weight_lem w k C b (seats_of k p u.part) u.part,
        row_le (head_of u.part).kind (head_of u.part).number a.0,
        nodes_le C p l a.1,
      )

-- of an accepted text the sizes are "five 32-bit unsigned numbers"
pub sizes_fit : (C k : ℕ) (t : List ℕ) → accept_of C k t ≡ ok → All (λ n. n < 2 ^ 32) (sizes_in C k t)
unfolding sizes_in sizes_of
sizes_fit C k t e =
    let a = accepted C k t e in
    let nodes = nodes_of a.root 0 in
    let low = low_numbers C a.channels.1 a.root 0 a.letters a.numbers in
    let few : (w : Weight) → Small w k → weight_before w k nodes (length nodes) ≤ 2 ^ 30 =
    λ w s. omega (arith, all_weight w C k nodes 0, nodes_le w k s C 0 nodes low, a.nodes) in
    subst (λ (r : Read Formula). All (λ n. n < 2 ^ 32) (on_tree (sizes_of C k) r)) (sym a.reads) (omega (
      arith,
      a.channels.1,
      a.steps,
      channels_few C k a.channels.1 a.steps,
      variables_are C k a.root,
      clauses_are C k a.root,
      literals_are C k a.root,
      few variable_weight (omega (arith, a.steps)),
      few clause_weight (omega (arith, a.steps)),
      few literal_weight (omega (arith, a.steps)),
    ))
