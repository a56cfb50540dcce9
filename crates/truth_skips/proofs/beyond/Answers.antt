-- `beyond` gathers what each place has that the other row lacks:
-- it stays 0 only where no place adds anything.
use lib.ListN.{length-append}
use borrow.Author.Rules.{rules}
use Rattle.std.proofs.lemmas.Slice.Zip.{zip_turn}
use Rattle.truth_skips.proofs.Skip.{none_turn}
use Rattle.truth_skips.proofs.beyond.Goals as goal

pub loop-a-preserved : goal.loop-a-preserved
loop-a-preserved c =
    let a = c.args in
    let l = c.loop-a in
    let o = zip_turn a.row.now a.other.now l.yielded c.into_iter-a-iterator.result l.a-iterator c.next.new.self c.next.result (search rules) (search rules) l.yielded_by _ c.in-Some.is c.next.ensures.steps in
    none_turn _ _ _ _ _ _ _ (length-append l.yielded _) (o.2 0) (o.3 0) l.invariant
