-- `table_at` gives, for every tree that stands at the row, the table of its truth: by kind, from the tables or the word of the parts
-- (Steps.antt). It ends, since a node with parts stands in the table and its parts stand after it.
use mathlib.Core.Path.{◌≡◌, ◌∙◌}
use mathlib.Core.Bool.{true, false}
use Prim.Native.Nat.{ℕ, ◌-◌, ◌%◌, ◌<◌}
use lib.ListN.{length}
use Rattle.interval.specs.Limits.{max_steps, max_count}
use Rattle.interval.specs.Places.{count_of}
use Rattle.interval.proofs.Counts.{count_le}
use Rattle.paper_grammar.specs.Limits.{max_nodes, max_channels}
use Rattle.paper_grammar.specs.declared.Sort.TheVariants.{Formula}
use Rattle.paper_meaning.specs.Words.{WordOf}
use Rattle.truth_table.specs.Table.{TableOf}
use Rattle.truth_table.specs.declared.Measure.TheVariants.{AtLeast, Throughout}
use Rattle.truth_table.proofs.Measuring.{measured_word}
use Rattle.truth_rows.proofs.Seen.{formula_kind, beyond_negation, Joins}
use Rattle.truth_rows.proofs.Steps.{Kind, constant_step, negation_step, pair_step, duration_step, throughout_step, chop_step, formula_link, within}
use borrow.Author.Rules.{rules}
use native.Mathlib.Omega.{arith}
use Rattle.truth_rows.proofs.+table_at.Goals as goal
use Rattle.truth_rows.proofs.+table_at.Goals.{After-byte_at-kind, In_default}

-- a node with parts stands in the table
here : {t : ℕ} (c : After-byte_at-kind t) → 0 < c.byte_at-kind.result % 16 → c.args.x < max_nodes
here c h =
    let a = c.args in within a.kinds.now a.x max_nodes (search rules) (omega (arith, c.byte_at-kind.ensures))

-- what is left of what is read there is the row's kind without its sort
kind : {t : ℕ} (c : After-byte_at-kind t) → let a = c.args in
    Kind a.recording.now a.kinds.now a.numbers.now a.sizes.now Formula a.x (c.byte_at-kind.result % 16)
kind c =
    let a = c.args in
    formula_kind a.recording.now a.kinds.now a.numbers.now a.sizes.now max_channels a.x c.byte_at-kind.result c.byte_at-kind.ensures

-- the last arm is that of two parts
joins : {t : ℕ} (c : In_default t) → Joins Formula (c.byte_at-kind.result % 16)
joins c = let o = c.in_default.in_default-own.rest in (beyond_negation _ o.0.0.0.0.1 o.0.0.0.1 o.1, o.0.0.1, o.0.1)

pub returns-in-0 : goal.returns-in-0
returns-in-0 t c =
    let a = c.args in
    constant_step a.recording.now a.kinds.now a.numbers.now a.sizes.now Formula a.x _ (kind (goal.at.returns-in-0 t c).After-byte_at-kind)
    (λ f. TableOf (length a.recording.now) f c.constant_table.result) false c.in-0.is (c.constant_table.ensures _ c.requires.0)

pub returns-in-1 : goal.returns-in-1
returns-in-1 t c =
    let a = c.args in
    constant_step a.recording.now a.kinds.now a.numbers.now a.sizes.now Formula a.x _ (kind (goal.at.returns-in-1 t c).After-byte_at-kind)
    (λ f. TableOf (length a.recording.now) f c.constant_table-in-1.result) true c.in-1.is (c.constant_table-in-1.ensures _ c.requires.0)

pub overflow_add-x : goal.overflow_add-x
overflow_add-x t c = omega (arith, here (goal.at.overflow_add-x t c).After-byte_at-kind (omega (arith, c.in-7.is)))

pub word_at-word-requires : goal.word_at-word-requires
word_at-word-requires t c = c.requires.0

pub measured_table-requires : goal.measured_table-requires
measured_table-requires t c = c.requires.0

pub returns-in-7 : goal.returns-in-7
returns-in-7 t c =
    let a = c.args in
    duration_step a.recording.now a.kinds.now a.numbers.now a.sizes.now a.x _ (kind (goal.at.returns-in-7 t c).After-byte_at-kind)
    (λ f. WordOf (length a.recording.now) f c.word_at-word.result) (λ f. TableOf (length a.recording.now) f c.measured_table.result)
    c.word_at-word.ensures
    _ c.in-7.is c.byte_at.ensures (λ f W. measured_word _ (AtLeast c.byte_at.result) _ f _ W c.measured_table.ensures)

pub overflow_add-x-in-8 : goal.overflow_add-x-in-8
overflow_add-x-in-8 t c = omega (arith, here (goal.at.overflow_add-x-in-8 t c).After-byte_at-kind (omega (arith, c.in-8.is)))

pub word_at-word-requires-in-8 : goal.word_at-word-requires-in-8
word_at-word-requires-in-8 t c = c.requires.0

pub measured_table-requires-in-8 : goal.measured_table-requires-in-8
measured_table-requires-in-8 t c = c.requires.0

pub returns-in-8 : goal.returns-in-8
returns-in-8 t c =
    let a = c.args in
    throughout_step a.recording.now a.kinds.now a.numbers.now a.sizes.now a.x _ (kind (goal.at.returns-in-8 t c).After-byte_at-kind)
    (λ f. WordOf (length a.recording.now) f c.word_at-word-in-8.result) (λ f. TableOf (length a.recording.now) f c.measured_table-in-8.result)
    c.word_at-word-in-8.ensures
    c.in-8.is (λ f W. measured_word _ Throughout _ f _ W c.measured_table-in-8.ensures)

pub overflow_add-x-in-2 : goal.overflow_add-x-in-2
overflow_add-x-in-2 t c = omega (arith, here (goal.at.overflow_add-x-in-2 t c).After-byte_at-kind (omega (arith, c.in-2.is)))

pub table_at-p-requires : goal.table_at-p-requires
table_at-p-requires t c =
    (omega (arith, here (goal.at.table_at-p-requires t c).After-byte_at-kind (omega (arith, c.in-2.is)), c.decreases), c.requires)

pub inverse-requires : goal.inverse-requires
unfolding count_of
inverse-requires t c =
    let p = c.requires in
    let e : length c.table_at-p.result ≡ max_count = search rules in
    (p.0, omega (arith, count_le max_steps _ p.0), p.1)

pub returns-in-2 : goal.returns-in-2
returns-in-2 t c =
    let a = c.args in
    negation_step a.recording.now a.kinds.now a.numbers.now a.sizes.now Formula a.x _ (kind (goal.at.returns-in-2 t c).After-byte_at-kind)
    (λ f. TableOf (length a.recording.now) f c.inverse.new.p) (λ f. TableOf (length a.recording.now) f c.table_at-p.result) c.in-2.is
    c.inverse.ensures c.table_at-p.ensures

pub overflow_add-x-in_default : goal.overflow_add-x-in_default
overflow_add-x-in_default t c = omega (arith, here (goal.at.overflow_add-x-in_default t c).After-byte_at-kind (omega (arith, (joins (goal.at.overflow_add-x-in_default t c).In_default).0)))

pub table_at-p-requires-in_default : goal.table_at-p-requires-in_default
table_at-p-requires-in_default t c =
    (omega (arith, here (goal.at.table_at-p-requires-in_default t c).After-byte_at-kind (omega (arith, (joins (goal.at.table_at-p-requires-in_default t c).In_default).0)), c.decreases), c.requires)

pub second-requires : goal.second-requires
second-requires t c = here (goal.at.second-requires t c).After-byte_at-kind (omega (arith, (joins (goal.at.second-requires t c).In_default).0))

pub table_at-q-requires : goal.table_at-q-requires
table_at-q-requires t c =
    (omega (arith, here (goal.at.table_at-q-requires t c).After-byte_at-kind (omega (arith, (joins (goal.at.table_at-q-requires t c).In_default).0)), c.second.ensures, c.decreases), c.requires)

pub chop_table-requires : goal.chop_table-requires
chop_table-requires t c = c.requires

pub returns-then-kind-eq-CHOP : goal.returns-then-kind-eq-CHOP
returns-then-kind-eq-CHOP t c =
    let a = c.args in
    chop_step a.recording.now a.kinds.now a.numbers.now a.sizes.now a.x _ (kind (goal.at.returns-then-kind-eq-CHOP t c).After-byte_at-kind) _
    (λ f. TableOf (length a.recording.now) f c.table_at-p-in_default.result) (λ f. TableOf (length a.recording.now) f c.table_at-q.result)
    (λ f. TableOf (length a.recording.now) f c.chop_table.result)
    c.if-kind-eq-CHOP.true c.second.ensures.0 c.chop_table.ensures c.table_at-p-in_default.ensures c.table_at-q.ensures

pub join-requires : goal.join-requires
unfolding count_of
join-requires t c =
    let e : length c.table_at-p-in_default.result ≡ max_count = search rules in
    let f : length c.table_at-q.result ≡ max_count = search rules in let p = c.requires in
    (p.0, omega (arith, count_le max_steps _ p.0), omega (arith, count_le max_steps _ p.0), p.1)

pub returns-in_default : goal.returns-in_default
returns-in_default t c =
    let a = c.args in
    pair_step a.recording.now a.kinds.now a.numbers.now a.sizes.now Formula a.x _ (kind (goal.at.returns-in_default t c).After-byte_at-kind)
    (λ f. TableOf (length a.recording.now) f c.join.new.p) (λ f. TableOf (length a.recording.now) f c.table_at-p-in_default.result)
    (λ f. TableOf (length a.recording.now) f c.table_at-q.result) _
    (joins (goal.at.returns-in_default t c).In_default) (λ l e. formula_link l (λ z. c.if-kind-eq-CHOP.false (e ∙ z))) c.second.ensures.0 c.join.ensures c.table_at-p-in_default.ensures c.table_at-q.ensures
