-- Circuit induction, and what the definitions mention: the blocks of a node's parts are among those that follow its own, so whatever is to
-- be shown goes node by node, from the last one, and within a node by turns.
use mathlib.Core.Path.{ap, subst}
use mathlib.Core.Logic.{◌≢◌, by_cases}
use mathlib.Core.List.{List, [], ◌∷◌}
use Prim.Native.Nat.{ℕ, zero, suc, ◌+◌, ◌*◌, ◌≤◌, ◌<◌}
use native.Mathlib.Decide.{dec_lt}
use native.Mathlib.Omega.{arith}
use Rattle.paper_grammar.specs.Trees.{Tree, Letters}
use Rattle.paper_grammar.specs.declared.Sort.{Sort}
use Rattle.paper_grammar.specs.declared.Sort.TheVariants.{Formula}
use Rattle.paper_grammar.specs.Nodes.{Node, nodes_of}
use Rattle.lists.specs.Listing.{All}
use Rattle.lists.proofs.Lists.{all_append, all_map, all_split}
use Rattle.paper_grammar.proofs.EachNode.{Begins, Each, each_node, LettersNode, letters_pass}
use Rattle.paper_circuit.specs.Gates.{inputs_of}
use Rattle.paper_circuit.specs.Circuit.{Definition, width_of, blocks_of, variables_of, own_of, defined_from, definitions_of}
use Rattle.paper_circuit.proofs.Blocks.{From, parts_of, blocks_append, blocks_parts}
use Rattle.paper_circuit.proofs.Once.{own_once, definition_of}
use Rattle.paper_circuit.proofs.Inputs.{Distinct, turn_of, Input, channel, part, own, Stands, own_stands}

-- the blocks of a node's parts are among those that follow its own
parts_within : (k : ℕ) (w : Node) (l : List Node) → Begins (w ∷ l) w → blocks_of k (parts_of w.part) ≤ blocks_of k l
unfolding blocks_of
parts_within k w l b = omega (arith, ap (blocks_of k) b.is, blocks_append k (nodes_of w.part w.first) b.later, blocks_parts k w.part w.first)

-- the variable is one from 1 + k·C to V, the inputs are from 1 to V, and no two of them all are the same
pub record Mentions (C k : ℕ) (l : List Node) (d : Definition) : Type 0 where
  pub defines : From (1 + k * C) (blocks_of k l) d.variable
  pub inputs : All (From 1 (variables_of C k l)) (inputs_of d.gate)
  pub apart : Distinct (d.variable ∷ inputs_of d.gate)

module _ (C k : ℕ) (m : List Node) where
  module _ {s : Sort} (x : Tree s) (b : ℕ) (h : 1 + k * C ≤ b) (g : b + width_of k x + blocks_of k (parts_of x) ≤ 1 + k * C + blocks_of k m) where
    input_mentioned : (v : ℕ) → From b (width_of k x) v → (u : ℕ) → Input C k b x v u → From 1 (variables_of C k m) u × (v ≢ u)
    unfolding variables_of
    input_mentioned v i u (channel p) = omega arith
    input_mentioned v i u (part p) = omega arith
    input_mentioned v i u (own p) = (omega arith, λ e. omega (arith, ap (turn_of x (b + width_of k x)) e))

    own_mentions : (d : Definition) → Stands C k b x d.variable (inputs_of d.gate) → Mentions C k m d
    own_mentions d o =
        let i = input_mentioned d.variable o.inside in
        record {
          defines = omega arith;
          inputs = all_map _ _ (λ u p. (i u p).0) (inputs_of d.gate) o.inputs;
          apart = (all_map _ _ (λ u p. (i u p).1) (inputs_of d.gate) o.inputs, o.apart);
        }

  nodes_mention : (l : List Node) (b : ℕ) → Each (LettersNode C) l → 1 + k * C ≤ b → b + blocks_of k l ≤ 1 + k * C + blocks_of k m → All (Mentions C k m) (defined_from C k b l)
  unfolding defined_from blocks_of
  nodes_mention [] b c h g = tt
  nodes_mention (w ∷ l) b c h g =
      let p = b + width_of k w.part in
      all_append (Mentions C k m) (own_of C k b w.part) (defined_from C k p l)
      (all_map _ _ (own_mentions w.part b h (omega (arith, parts_within k w l c.1))) (own_of C k b w.part) (own_stands C k b w.part c.0))
      (nodes_mention l p c.2 (omega arith) (omega arith))

-- X passes from the inputs of a definition to its variable
abbrev pub Passes : (ℕ → Type 0) → Definition → Type 0
Passes X d = All X (inputs_of d.gate) → X d.variable

module _ (C k : ℕ) (X : ℕ → Type 0) (channels : (v : ℕ) → From 1 (k * C) v → X v) where
  module _ {s : Sort} (x : Tree s) (b : ℕ) (L : Letters C x) (a : All (Passes X) (own_of C k b x))
      (parts : (v : ℕ) → From (b + width_of k x) (blocks_of k (parts_of x)) v → X v) where
    abbrev turn : ℕ → ℕ
    turn v = turn_of x (b + width_of k x) v

    own_passes : (n v : ℕ) → From b (width_of k x) v → turn v < n → X v
    own_passes zero v h t = absurd (omega arith)
    own_passes (suc n) v h t =
        let (d, e, f, o) = definition_of (Passes X) _ v (own_of C k b x) (own_once C k b v x h) a (own_stands C k b x L) in
        let go : (u : ℕ) → Input C k b x d.variable u → X u = λ u i.
        elim i [ channel p ↦ channels u p | part p ↦ parts u p | own p ↦ own_passes n u p.0 (omega (arith, ap turn e)) ] in
        subst X e (f (all_map _ _ go (inputs_of d.gate) o.inputs))

  nodes_pass : (l : List Node) (b : ℕ) → Each (LettersNode C) l → All (Passes X) (defined_from C k b l) → (v : ℕ) → From b (blocks_of k l) v → X v
  unfolding defined_from blocks_of
  nodes_pass [] b c a v h = absurd (omega arith)
  nodes_pass (w ∷ l) b c a v h =
      let p = b + width_of k w.part in
      let s = all_split (Passes X) (own_of C k b w.part) (defined_from C k p l) a in
      let rest = nodes_pass l p c.2 s.1 in
      by_cases (dec_lt v p)
      (λ q. own_passes w.part b c.0 s.0 (λ v i. rest v (omega (arith, parts_within k w l c.1))) (suc (turn_of w.part p v)) v (omega arith) (omega arith))
      (λ q. rest v (omega arith))

module _ (C k : ℕ) (f : Tree Formula) (L : Letters C f) where
  lettered : Each (LettersNode C) (nodes_of f 0)
  lettered = each_node (LettersNode C) (letters_pass C) f 0 L

  pub definitions_mention : All (Mentions C k (nodes_of f 0)) (definitions_of C k (nodes_of f 0))
  unfolding definitions_of
  definitions_mention = nodes_mention C k (nodes_of f 0) (nodes_of f 0) (1 + k * C) lettered (omega arith) (omega arith)

  -- what holds of the channels, and passes from the inputs of every definition to its variable, holds of every variable
  pub circuit_induction : (X : ℕ → Type 0) → ((v : ℕ) → From 1 (k * C) v → X v) → All (Passes X) (definitions_of C k (nodes_of f 0))
      → (v : ℕ) → From 1 (variables_of C k (nodes_of f 0)) v → X v
  unfolding definitions_of variables_of
  circuit_induction X channels a v h =
      by_cases (dec_lt (k * C) v) (λ q. nodes_pass C k X channels (nodes_of f 0) (1 + k * C) lettered a v (omega arith)) (λ q. channels v (omega arith))
