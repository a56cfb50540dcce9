-- `put_levels` fills one part a turn with the table of the next level (Parts.antt of extend_triples), which gives that level's truths in order
-- (Tables.antt). The word measures as the state assertion does.
use mathlib.Core.Path.{◌≡◌}
use mathlib.Core.Bool.{Bool}
use Prim.Native.Nat.{ℕ, suc, ◌-◌}
use Rattle.interval.specs.Places.{count_of}
use Rattle.paper_grammar.specs.declared.Sort.TheVariants.{Formula}
use Rattle.paper_meaning.specs.Meaning.{lasts}
use Rattle.paper_meaning.specs.Words.{WordOf}
use Rattle.paper_assignments.specs.Extension.{truth_values}
use Rattle.extend_triples.proofs.Parts.{Parts}
use Rattle.extend_blocks.proofs.put_levels.Given as goal

abbrev pub invariant-loop-c : goal.invariant-loop-c
invariant-loop-c l =
    (l.c-end ≡ suc l.n) × ((f : ℕ → Bool) → WordOf l.k f l.word →
    Parts (λ c. truth_values Formula l.k (lasts c f)) (λ c. count_of l.k) (suc l.n) l.initial.out l.at l.out l.c)

abbrev pub decreases-loop-c : goal.decreases-loop-c
decreases-loop-c l = suc l.n - l.c
