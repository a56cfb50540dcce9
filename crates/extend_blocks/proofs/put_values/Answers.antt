-- Each rule's values are what its writer ensures (Rules.antt); a table that is put gives the truths in order (Tables.antt), and a word of
-- the part's truths measures as they do.
use mathlib.Core.Path.{◌≡◌, refl, ◌∙◌, subst}
use native.Mathlib.Omega.{arith}
use lib.ListN.{length}
use Rattle.paper_meaning.specs.Meaning.{fills}
use Rattle.truth_table.specs.Table.{high_at}
use Rattle.truth_table.specs.declared.Measure.TheVariants.{Throughout}
use Rattle.truth_table.proofs.Joined.{from_bit}
use Rattle.truth_table.proofs.Measuring.{measured_word}
use Rattle.table_blocks.specs.declared.Rule.{Rule}
use Rattle.extend_blocks.specs.Values.{values_by, Fits}
use Rattle.interval.proofs.Counts.{few_intervals}
use Rattle.extend_blocks.proofs.Tables.{table_values, bits_word}
use Rattle.extend_blocks.proofs.Rules.{values_by_lem, same_values}
use Rattle.extend_blocks.proofs.put_values.Goals as goal
use Rattle.extend_blocks.proofs.put_values.Goals.{Start}

-- how long the block is, its rule being known
fits : (s : Start) {q : Rule} → s.args.rule ≡ q → Fits s.args.k (length s.args.out.now) q
fits s e = subst (Fits s.args.k (length s.args.out.now)) e s.requires.1

pub put_table-requires-in-Throughout : goal.put_table-requires-in-Throughout
put_table-requires-in-Throughout c =
    omega (arith, fits (goal.at.put_table-requires-in-Throughout c).Start c.in-Throughout.is, few_intervals _ c.requires.0)

pub returns-in-Fixed : goal.returns-in-Fixed
unfolding values_by
returns-in-Fixed c =
    values_by_lem _ _ _ _ _ c.in-Fixed.is (c.put_table.ensures ∙ same_values (fits (goal.at.returns-in-Fixed c).Start c.in-Fixed.is) c.all_of.ensures (c.from.ensures ∙ from_bit _))

pub returns-in-Letter : goal.returns-in-Letter
unfolding values_by
returns-in-Letter c = values_by_lem _ _ _ _ _ c.in-Letter.is c.put_channel.ensures

pub returns-in-Negation : goal.returns-in-Negation
unfolding values_by
returns-in-Negation c = values_by_lem _ _ _ _ _ c.in-Negation.is c.put_inverse.ensures

pub returns-in-And : goal.returns-in-And
unfolding values_by
returns-in-And c = values_by_lem _ _ _ _ _ c.in-And.is c.put_joined.ensures

pub returns-in-Or : goal.returns-in-Or
unfolding values_by
returns-in-Or c = values_by_lem _ _ _ _ _ c.in-Or.is c.put_joined-in-Or.ensures

pub returns-in-Chop : goal.returns-in-Chop
unfolding values_by
returns-in-Chop c = values_by_lem _ _ _ _ _ c.in-Chop.is c.put_chop.ensures

pub returns-in-Duration : goal.returns-in-Duration
unfolding values_by
returns-in-Duration c =
    values_by_lem _ _ _ _ _ c.in-Duration.is (c.put_levels.ensures _ (bits_word _ c.requires.2 c.word_of.ensures))

pub returns-in-Throughout : goal.returns-in-Throughout
unfolding values_by
returns-in-Throughout c =
    let a = c.args in
    let f = high_at a.p.now in
    let T = measured_word a.k Throughout _ f _ (bits_word _ c.requires.2 c.word_of-in-Throughout.ensures) c.measured_table.ensures in
    values_by_lem _ _ _ _ _ c.in-Throughout.is (c.put_table-in-Throughout.ensures ∙ table_values a.k (fills f) (fits (goal.at.returns-in-Throughout c).Start c.in-Throughout.is) T)

pub returns-in-Cut : goal.returns-in-Cut
unfolding values_by
returns-in-Cut c =
    values_by_lem _ _ _ _ _ c.in-Cut.is (c.put_table-in-Cut.ensures ∙ same_values (fits (goal.at.returns-in-Cut c).Start c.in-Cut.is) c.all_of-in-Cut.ensures refl)
