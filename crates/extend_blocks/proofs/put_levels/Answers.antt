-- `put_levels` fills one part a turn with the table of the next level (Parts.antt of extend_triples), which gives that level's truths in order
-- (Tables.antt). The word measures as the state assertion does.
use mathlib.Core.Path.{◌≡◌, refl, ◌∙◌}
use Prim.Native.Nat.{suc, ◌+◌}
use Rattle.interval.specs.Places.{count_of}
use Rattle.paper_grammar.specs.declared.Sort.TheVariants.{Formula}
use Rattle.paper_meaning.specs.Meaning.{bit_at, lasts}
use Rattle.truth_table.specs.declared.Measure.TheVariants.{AtLeast}
use Rattle.truth_table.proofs.Measuring.{measured_word}
use Rattle.paper_assignments.specs.Extension.{truth_values}
use Rattle.extend_triples.proofs.Parts.{Parts, begun_even, room, part_length, turn}
use Rattle.extend_blocks.proofs.Tables.{table_values}
use Rattle.paper_assignments.proofs.Values.{truth_length}
use native.Mathlib.Omega.{arith}
use Rattle.extend_blocks.proofs.put_levels.Goals as goal
use Rattle.extend_blocks.proofs.put_levels.Goals.{At-loop-c}

-- by the word itself
sofar : (c : At-loop-c) → let a = c.args in let l = c.loop-c in
    Parts (λ n. truth_values Formula a.k (lasts n (bit_at a.word))) (λ n. count_of a.k) (suc a.n) a.out.now l.at l.out l.c
sofar c = c.loop-c.invariant.1 (bit_at c.args.word) (record { at = λ t h. refl })

pub loop-c-init : goal.loop-c-init
loop-c-init c = (omega arith, λ f W. begun_even (λ n. truth_length Formula _ (lasts n f)) c.requires.2)

pub overflow_add-end : goal.overflow_add-end
overflow_add-end c = omega (arith, room (sofar (goal.at.overflow_add-end c).At-loop-c) (omega arith), (sofar (goal.at.overflow_add-end c).At-loop-c).long)

pub slice_bounds-put_table-end : goal.slice_bounds-put_table-end
slice_bounds-put_table-end c = omega (arith, room (sofar (goal.at.slice_bounds-put_table-end c).At-loop-c) (omega arith))

pub loop-c-preserved : goal.loop-c-preserved
loop-c-preserved c =
    let a = c.args in
    let l = c.loop-c in
    let t = c.measured_table in (
      l.invariant.0,
      λ f W.
          let p = l.invariant.1 f W in
          let o : l.at + c.count-count.result ≡ l.at + count_of a.k = omega arith in
          turn p (omega arith) _ o (c.put_table.ensures ∙
          table_values a.k (lasts l.c f) (part_length p (omega arith) _ o) (measured_word a.k (AtLeast l.c) a.word f _ W t.ensures)),
    )
