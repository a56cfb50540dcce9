-- `put_cuts` writes one byte a turn, P's on [i, m] with Q's on [m, j], and goes on to where [m + 1, j] stands (Cutting.antt):
-- after the last turn all cuts are written.
use native.Mathlib.Omega.{arith}
use Rattle.std.proofs.lemmas.List.Edits.{fill_by_more}
use Rattle.lists.proofs.Listing.{listed}
use Rattle.extend_triples.proofs.Cutting.{next_cut, last_cut, cut_small, cut_byte}
use borrow.Author.Rules.{rules}
use Rattle.extend_triples.proofs.put_cuts.Goals as goal
use Rattle.extend_triples.proofs.put_cuts.Goals.{then-e-steps, else-e-steps}

pub bounds-p-first : goal.bounds-p-first
bounds-p-first c = (cut_small (omega arith) c.loop-e.invariant.stands c.place-first.ensures.0 (omega arith) (search rules)).0

pub bounds-q-at : goal.bounds-q-at
bounds-q-at c = (cut_small (omega arith) c.loop-e.invariant.stands c.place-first.ensures.0 (omega arith) (search rules)).1

pub overflow_add-at-then-e-steps : goal.overflow_add-at-then-e-steps
overflow_add-at-then-e-steps c = omega (arith, cut_small (omega arith) c.loop-e.invariant.stands c.place-first.ensures.0 (omega arith) (search rules))

pub loop-e-preserved : goal.loop-e-preserved
loop-e-preserved c =
    let l = c.loop-e in
    let w = l.invariant in
    let b = cut_byte (omega arith) w.stands c.place-first.ensures.0 (omega arith) c.requires.3 c.requires.4 in
    record {
      written = rw b (fill_by_more _ l.out l.e 0 (omega arith) w.written);
      stands = elim c.if-e-steps.branch [
        | then-e-steps b ↦ next_cut (omega arith) w.stands b.if-e-steps.true b.at-is
        | else-e-steps b ↦ last_cut (omega arith) w.stands b.if-e-steps.false
      ];
    }

pub returns : goal.returns
returns c = listed _ (omega arith) (λ y h. c.loop-e.invariant.written y (omega arith))
