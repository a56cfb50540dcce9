-- `word_at` gives, for every tree that stands at the row, the word of its truth: by kind, from the words of the parts (Steps.antt).
-- It ends, since a node with parts stands in the table and its parts stand after it.
use mathlib.Core.Path.{sym, ◌∙◌}
use mathlib.Core.Bool.{true, false}
use Prim.Native.Nat.{ℕ, ◌-◌, ◌<◌}
use lib.ListN.{length}
use native.Mathlib.Nat.{mod-lt}
use Rattle.paper_grammar.specs.Limits.{max_nodes}
use Rattle.paper_grammar.specs.declared.Sort.TheVariants.{State}
use Rattle.paper_meaning.specs.Words.{WordOf}
use Rattle.truth_rows.proofs.Seen.{beyond_negation, Joins}
use Rattle.truth_rows.proofs.Steps.{Kind, constant_step, negation_step, pair_step, letter_step, state_link, within}
use native.Mathlib.Omega.{arith}
use borrow.Author.Rules.{rules}
use Rattle.truth_rows.proofs.+word_at.Goals as goal
use Rattle.truth_rows.proofs.+word_at.Goals.{After-byte_at-kind, In_default}

-- a node with parts stands in the table
here : {t : ℕ} (c : After-byte_at-kind t) → 0 < c.byte_at-kind.result → c.args.x < max_nodes
here c h =
    let a = c.args in within a.kinds.now a.x max_nodes (search rules) (omega (arith, c.byte_at-kind.ensures))

-- what is read there is the row's kind
kind : {t : ℕ} (c : After-byte_at-kind t) → let a = c.args in
    Kind a.recording.now a.kinds.now a.numbers.now a.sizes.now State a.x c.byte_at-kind.result
kind c = λ x w. omega (arith, c.byte_at-kind.ensures)

-- the last arm is that of two parts
joins : {t : ℕ} (c : In_default t) → Joins State c.byte_at-kind.result
joins c = let o = c.in_default.in_default-own.rest in (beyond_negation _ o.0.0.0.1 o.0.0.1 o.1, o.0.1)

pub returns-in-0 : goal.returns-in-0
returns-in-0 t c =
    let a = c.args in
    constant_step a.recording.now a.kinds.now a.numbers.now a.sizes.now State a.x _ (kind (goal.at.returns-in-0 t c).After-byte_at-kind)
    (λ f. WordOf (length a.recording.now) f c.constant_word.result) false c.in-0.is (c.constant_word.ensures _ c.requires)

pub returns-in-1 : goal.returns-in-1
returns-in-1 t c =
    let a = c.args in
    constant_step a.recording.now a.kinds.now a.numbers.now a.sizes.now State a.x _ (kind (goal.at.returns-in-1 t c).After-byte_at-kind)
    (λ f. WordOf (length a.recording.now) f c.constant_word-in-1.result) true c.in-1.is (c.constant_word-in-1.ensures _ c.requires)

pub word_of-requires : goal.word_of-requires
word_of-requires t c = (omega arith, c.requires, mod-lt c.byte_at.result (omega arith))

pub returns-in-6 : goal.returns-in-6
returns-in-6 t c =
    let a = c.args in
    letter_step a.recording.now a.kinds.now a.numbers.now a.sizes.now a.x _ (λ f. WordOf (length a.recording.now) f c.word_of.result)
    (sym c.byte_at-kind.ensures ∙ c.in-6.is) c.byte_at.ensures c.word_of.ensures

pub overflow_add-x : goal.overflow_add-x
overflow_add-x t c = omega (arith, here (goal.at.overflow_add-x t c).After-byte_at-kind (omega (arith, c.in-2.is)))

pub word_at-requires : goal.word_at-requires
word_at-requires t c =
    (omega (arith, here (goal.at.word_at-requires t c).After-byte_at-kind (omega (arith, c.in-2.is)), c.decreases), c.requires)

pub returns-in-2 : goal.returns-in-2
returns-in-2 t c =
    let a = c.args in
    negation_step a.recording.now a.kinds.now a.numbers.now a.sizes.now State a.x _ (kind (goal.at.returns-in-2 t c).After-byte_at-kind)
    (λ f. WordOf (length a.recording.now) f c.inverse_word.result) (λ f. WordOf (length a.recording.now) f c.word_at.result) c.in-2.is
    (λ f. c.inverse_word.ensures _ f c.requires) c.word_at.ensures

pub overflow_add-x-in_default : goal.overflow_add-x-in_default
overflow_add-x-in_default t c = omega (arith, here (goal.at.overflow_add-x-in_default t c).After-byte_at-kind (omega (arith, (joins (goal.at.overflow_add-x-in_default t c).In_default).0)))

pub word_at-p-requires : goal.word_at-p-requires
word_at-p-requires t c =
    (omega (arith, here (goal.at.word_at-p-requires t c).After-byte_at-kind (omega (arith, (joins (goal.at.word_at-p-requires t c).In_default).0)), c.decreases), c.requires)

pub second-requires : goal.second-requires
second-requires t c = here (goal.at.second-requires t c).After-byte_at-kind (omega (arith, (joins (goal.at.second-requires t c).In_default).0))

pub word_at-q-requires : goal.word_at-q-requires
word_at-q-requires t c =
    (omega (arith, here (goal.at.word_at-q-requires t c).After-byte_at-kind (omega (arith, (joins (goal.at.word_at-q-requires t c).In_default).0)), c.second.ensures, c.decreases), c.requires)

pub returns-in_default : goal.returns-in_default
returns-in_default t c =
    let a = c.args in
    pair_step a.recording.now a.kinds.now a.numbers.now a.sizes.now State a.x _ (kind (goal.at.returns-in_default t c).After-byte_at-kind)
    (λ f. WordOf (length a.recording.now) f c.joined_word.result) (λ f. WordOf (length a.recording.now) f c.word_at-p.result)
    (λ f. WordOf (length a.recording.now) f c.word_at-q.result) _
    (joins (goal.at.returns-in_default t c).In_default) (λ l e. state_link l) c.second.ensures.0 (c.joined_word.ensures _) c.word_at-p.ensures c.word_at-q.ensures
