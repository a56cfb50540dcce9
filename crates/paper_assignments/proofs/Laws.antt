-- Document 01: "the one assignment that extends a recording and meets all clauses but the last", and which assignments meet every clause.
-- The extension's values stand where the gates look for them; the channels and the gates leave no other; the last clause asks for the root.
use mathlib.Core.Path.{◌≡◌, sym, ap, ◌∙◌, subst}
use mathlib.Core.Logic.{◌↔◌}
use mathlib.Core.Bool.{true, false, ◌||◌, and-true, or-false, and-eq-true_iff}
use mathlib.Core.List.{List}
use Prim.Native.Nat.{ℕ, ◌+◌, ◌-◌, ◌*◌, ◌^◌, ◌<◌}
use native.Mathlib.Omega.{arith}
use lib.Dec.{eqb}
use lib.ListN.{length, get_or}
use lib.Seq.{ext_get_or}
use Rattle.lists.specs.Listing.{tab}
use Rattle.lists.proofs.Listing.{length_tab, get_or_tab}
use Rattle.paper_grammar.specs.Trees.{Tree, Letters}
use Rattle.paper_grammar.specs.declared.Sort.TheVariants.{Formula}
use Rattle.paper_grammar.specs.Nodes.{Node, nodes_of}
use Rattle.lists.proofs.Lists.{all_append, all_rows, all_at}
use Rattle.paper_grammar.proofs.EachNode.{each_node, LettersNode, letters_pass}
use Rattle.paper_meaning.specs.Meaning.{bit, channel_at, truth, holds}
use Rattle.paper_meaning.proofs.Words.{as_bit, bit_lt}
use Rattle.paper_circuit.specs.Gates.{Assignment}
use Rattle.paper_circuit.specs.Circuit.{channel_of, variables_of, truth_of, definitions_of, root_of}
use Rattle.paper_circuit.proofs.Blocks.{From, root_in_range}
use Rattle.paper_clauses.specs.Clauses.{clauses_by, clause_table, meets_clause, meets_all}
use Rattle.paper_clauses.proofs.Meets.{meets_append, meets_by}
use Rattle.paper_meaning.specs.Recording.{EachBelow}
use Rattle.paper_assignments.specs.Extension.{value_in, channel_values, node_values, extension_of, recording_by, recording_of, MeetsButLast, meets_last}
use Rattle.paper_assignments.proofs.Values.{node_bits, channels_length, extension_length}
use Rattle.paper_assignments.proofs.Meets.{Spells, spells_append, spells_row, spelled, on_intervals, part_true, nodes_meet}
use Rattle.paper_assignments.proofs.Only.{same_channels}
use Rattle.paper_assignments.proofs.Recordings.{recording_channels, recording_only}

-- variable 1 + y is byte y
value_at_lem : (A : List ℕ) (y : ℕ) → value_in A (1 + y) ≡ eqb (get_or A y 0) 1
unfolding value_in
value_at_lem A y = let e : 1 + y - 1 ≡ y = omega arith in ap (λ z. eqb (get_or A z 0) 1) e

module _ (C k : ℕ) (recording : List ℕ) (l : List Node) where
  -- each byte of the extension is 0 or 1
  pub extension_bits : EachBelow 2 (extension_of C k recording l)
  unfolding extension_of channel_values
  extension_bits =
      all_append _ (channel_values C k recording) (node_values k recording l)
      (all_rows _ k _ (λ t h. all_rows _ C _ (λ c m. (bit_lt (channel_at recording c t), tt)))) (node_bits k recording l)

  abbrev extension : Assignment
  extension = value_in (extension_of C k recording l)

  both_spelled : Spells extension 1 (channel_values C k recording) × Spells extension (1 + k * C) (node_values k recording l)
  unfolding extension_of
  both_spelled =
      spells_append extension 1 (k * C) (channel_values C k recording) (node_values k recording l) (channels_length C k recording) (λ y h. value_at_lem (extension_of C k recording l) y)

  -- it extends the recording
  pub extension_channels : (t c : ℕ) → t < k → c < C → value_in (extension_of C k recording l) (channel_of C t c) ≡ channel_at recording c t
  unfolding channel_values
  extension_channels t c h m =
      let row : ℕ → List ℕ = λ t. tab C (λ c. bit (channel_at recording c t)) in
      spelled extension (1 + t * C) C (λ c. channel_at recording c t) (row t) (length_tab C _) (λ e. get_or_tab C _ e 0)
      (spells_row extension 1 C row (λ t. length_tab C _) k t h both_spelled.0) c m

  -- the recording is read back from it
  pub recording_back : length recording ≡ k → EachBelow (2 ^ C) recording → recording_of C k (extension_of C k recording l) ≡ recording
  recording_back e h = recording_only C k extension recording e h (λ t c o n. extension_channels t c o n)

module _ (C k : ℕ) (f : Tree Formula) where
  -- the extension meets all clauses but the last
  pub extension_meets : Letters C f → (recording : List ℕ) → MeetsButLast C k f (value_in (extension_of C k recording (nodes_of f 0)))
  unfolding definitions_of
  extension_meets L recording =
      let l = nodes_of f 0 in
      (meets_by (extension C k recording l) (definitions_of C k l)).1
      (nodes_meet (extension C k recording l) C k recording (extension_channels C k recording l) l (1 + k * C) (each_node (LettersNode C) (letters_pass C) f 0 L) (both_spelled C k recording l).1)

  -- and the last exactly where the formula holds of the recording
  pub extension_last : (recording : List ℕ) → meets_last C k f (value_in (extension_of C k recording (nodes_of f 0))) ≡ holds recording f (record { i = 0; j = k })
  unfolding meets_clause root_of
  extension_last recording =
      let a = extension C k recording (nodes_of f 0) in
      let root = part_true a k recording f (1 + k * C) (both_spelled C k recording (nodes_of f 0)).1 in
      or-false _ ∙ on_intervals a k (1 + k * C + truth_of k f) (truth recording f) root (record { i = 0; j = k }) (omega arith)

  module _ (L : Letters C f) (recording : List ℕ) where
    -- an assignment that extends the recording and meets all clauses but the last has the extension's values, from variable 1 to V
    pub extension_agrees : (a : Assignment) → ((t c : ℕ) → t < k → c < C → a (channel_of C t c) ≡ channel_at recording c t) → MeetsButLast C k f a
        → (v : ℕ) → From 1 (variables_of C k (nodes_of f 0)) v → a v ≡ value_in (extension_of C k recording (nodes_of f 0)) v
    extension_agrees a h m =
        let l = nodes_of f 0 in
        same_channels a (extension C k recording l) C k f L (λ t c o n. h t c o n ∙ sym (extension_channels C k recording l t c o n))
        ((meets_by a (definitions_of C k l)).0 m) ((meets_by (extension C k recording l) (definitions_of C k l)).0 (extension_meets L recording))

    -- so of V bytes it is the extension
    pub extension_only : (A : List ℕ) → length A ≡ variables_of C k (nodes_of f 0) → EachBelow 2 A
        → ((t c : ℕ) → t < k → c < C → value_in A (channel_of C t c) ≡ channel_at recording c t) → MeetsButLast C k f (value_in A)
        → A ≡ extension_of C k recording (nodes_of f 0)
    extension_only A e b h m =
        let E = extension_of C k recording (nodes_of f 0) in
        let n = extension_length C k recording (nodes_of f 0) in
        ext_get_or 0 A E (e ∙ sym n) (λ i o.
        as_bit (get_or A i 0) (all_at _ A 0 b i o)
        ∙ ap bit (sym (value_at_lem A i) ∙ extension_agrees (value_in A) h m (1 + i) (omega arith) ∙ value_at_lem E i)
        ∙ sym (as_bit (get_or E i 0) (all_at _ E 0 (extension_bits C k recording (nodes_of f 0)) i (omega arith))))

  meets_table : (a : Assignment) → (meets_all a (clause_table C k f) ≡ true) ↔ (MeetsButLast C k f a × (meets_last C k f a ≡ true))
  unfolding clause_table meets_all
  meets_table a = rw (meets_append a (clauses_by (definitions_of C k (nodes_of f 0))), and-true) (and-eq-true_iff _ _)

  module _ (L : Letters C f) where
    -- the formula holds of the recording read from an assignment that meets every clause
    pub meets_holds : (a : Assignment) → meets_all a (clause_table C k f) ≡ true → holds (recording_by C k a) f (record { i = 0; j = k }) ≡ true
    unfolding meets_clause
    meets_holds a m =
        let r = recording_by C k a in
        let p = (meets_table a).0 m in
        let root = extension_agrees L r a (λ t c h l. sym (recording_channels C k a t c h l)) p.0 (root_of C k f) (root_in_range C k f) in
        sym (extension_last r) ∙ ap (λ b. b || false) (sym root) ∙ p.1

    -- and the extension of a recording of which it holds meets every clause
    pub holds_meets : (recording : List ℕ) → holds recording f (record { i = 0; j = k }) ≡ true
        → meets_all (value_in (extension_of C k recording (nodes_of f 0))) (clause_table C k f) ≡ true
    holds_meets recording h = (meets_table _).1 (extension_meets L recording, extension_last recording ∙ h)

    -- "accepted exactly when it meets every clause": it is the extension of the recording read from it, and the formula holds of that
    pub accepted_exactly : (A : List ℕ) → length A ≡ variables_of C k (nodes_of f 0) → EachBelow 2 A
        → (meets_all (value_in A) (clause_table C k f) ≡ true)
        ↔ ((A ≡ extension_of C k (recording_of C k A) (nodes_of f 0)) × (holds (recording_of C k A) f (record { i = 0; j = k }) ≡ true))
    accepted_exactly A e b =
        let r = recording_of C k A in (
          λ m. (extension_only L r A e b (λ t c h l. sym (recording_channels C k (value_in A) t c h l)) ((meets_table (value_in A)).0 m).0, meets_holds (value_in A) m),
          λ q. subst (λ B. meets_all (value_in B) (clause_table C k f) ≡ true) (sym q.0) (holds_meets r q.1),
        )
